-- Texts between quotes, read piece by piece.
use Rattle.std.proofs.Common.{rules, false, ◌≡◌, ℕ, ◌+◌, ◌<◌, ◌≤◌, ◌==◌, List, [], ◌∷◌, ◌++◌, length, drop, get_or, slice_range, sym, refl, subst, ap, ◌∙◌, append_assoc, append-nil, arith, length-drop}
use Rattle.std.proofs.lemmas.List.{drop_more}
use Rattle.fidl_spelling.specs.Words.{Piece, plain, letter, character, Pieces, no_pieces, piece, IsQuoted, BeginsNo}
use Rattle.fidl_spelling.proofs.WordLaws.{tail, no_both, pieces_same, pieces_same_one, no_quote_first}
use Rattle.fidl_reading.specs.Pieces.{BeginsNoPiece}
use Rattle.fidl_reading.proofs.Slices.{cut, join, one_byte, slice_range-nil, slice_range-push}

-- one piece more
pub pieces_push : (a x b y : List ℕ) → Pieces a x → Piece b y → Pieces (a ++ b) (x ++ y)
pieces_push _ _ b y no_pieces p = subst (λ l. Pieces l y) (append-nil b) (subst (λ l. Pieces (b ++ []) l) (append-nil y) (piece p no_pieces))
pieces_push _ _ b y (piece {a = a} {x = x} {b = c} {y = z} p q) r =
    subst (λ l. Pieces l ((x ++ z) ++ y)) (sym (append_assoc a c b))
    (subst (λ l. Pieces (a ++ (c ++ b)) l) (sym (append_assoc x z y)) (piece p (pieces_push c z b y q r)))

pub pieces_none : (src : List ℕ) (at : ℕ) → Pieces (slice_range src at at) []
pieces_none src at = subst (λ l. Pieces l []) (sym (slice_range-nil src at)) no_pieces

pub pieces_more : (src bytes more : List ℕ) (from at to : ℕ) → from ≤ at → at ≤ to → Pieces (slice_range src from at) bytes → Piece (slice_range src at to) more → Pieces (slice_range src from to) (bytes ++ more)
pieces_more src bytes more from at to ordered ends front p =
    subst (λ l. Pieces l (bytes ++ more)) (join src from at to ordered ends) (pieces_push _ _ _ _ front p)

-- pieces between two quotes
pub quoted_closes : (src bytes : List ℕ) (quote at : ℕ) → quote + 1 ≤ at → at < length src → get_or src quote 0 ≡ 34 → get_or src at 0 ≡ 34 → Pieces (slice_range src (quote + 1) at) bytes → IsQuoted (slice_range src quote (at + 1)) bytes
quoted_closes src bytes quote at ordered within first last front =
    let inner = slice_range src (quote + 1) at in (
      inner,
      front,
      sym (join src quote (quote + 1) (at + 1) (omega arith) (omega (arith, ordered)))
          ∙ ap (λ l. l ++ slice_range src (quote + 1) (at + 1)) (one_byte src quote (omega (arith, ordered, within)) ∙ ap (λ b. b ∷ []) first)
          ∙ ap (λ l. 34 ∷ l) (slice_range-push src (quote + 1) at ordered within ∙ ap (λ b. inner ++ b ∷ []) last),
    )

-- where neither a piece nor a quote stands behind pieces, no quote closes them
no_close : (f x g y z r : List ℕ) → Pieces f x → Pieces g y → BeginsNoPiece z → BeginsNo (λ b. b == 34) z → f ++ z ≡ g ++ 34 ∷ r → ⊥
no_close _ _ _ _ z r no_pieces no_pieces stuck no_quote e = no_both (34 == 34) refl (subst (BeginsNo (λ b. b == 34)) e no_quote)
no_close _ _ _ _ z r no_pieces (piece {a = a} {x = x} {b = b} p q) stuck no_quote e = stuck a x (b ++ 34 ∷ r) p (e ∙ append_assoc a b (34 ∷ r))
no_close _ _ _ _ z r (piece {a = a} {x = x} {b = b} p q) no_pieces stuck no_quote e = no_quote_first a x (b ++ z) r p (sym (append_assoc a b z) ∙ e)
no_close _ _ _ _ z r (piece {a = a} {x = x} {b = b} {y = y} p q) (piece {a = c} {x = u} {b = d} {y = v} k l) stuck no_quote e =
    let h = pieces_same_one a x c u (b ++ z) (d ++ 34 ∷ r) p k (sym (append_assoc a b z) ∙ e ∙ append_assoc c d (34 ∷ r)) in
    no_close b y d v z r q l stuck no_quote h.2

pub no_quoted : (src x : List ℕ) (quote at : ℕ) → quote < length src → quote + 1 ≤ at → Pieces (slice_range src (quote + 1) at) x → BeginsNoPiece (drop at src) → BeginsNo (λ b. b == 34) (drop at src)
    → (w rest bytes : List ℕ) → IsQuoted w bytes → drop quote src ≡ w ++ rest → ⊥
no_quoted src x quote at within ordered front stuck no_quote w rest bytes k e =
    let e' : get_or src quote 0 ∷ drop (quote + 1) src ≡ 34 ∷ ((k.0 ++ 34 ∷ []) ++ rest) = sym (drop_more src quote 0 within) ∙ e ∙ ap (λ l. l ++ rest) k.2 in
    no_close (slice_range src (quote + 1) at) x k.0 bytes (drop at src) rest front k.1 stuck no_quote
    (sym (cut src (quote + 1) at ordered) ∙ tail (get_or src quote 0) 34 (drop (quote + 1) src) _ e' ∙ append_assoc k.0 (34 ∷ []) rest)

-- no piece stands at the end
pub end_no_piece : BeginsNoPiece []
end_no_piece _ _ rest (plain p) e = absurd (cc e)
end_no_piece _ _ rest (letter p) e = absurd (cc e)
end_no_piece _ _ rest (character p) e = absurd (cc e)

pub no_equal : (a b : ℕ) → (a ≡ b → ⊥) → (a == b) ≡ false
no_equal a b h = search (rules, h)

-- a word that is a text between quotes is one of its own first quote
pub no_whole : (w x : List ℕ) (at : ℕ) → 0 < length w → 1 ≤ at → Pieces (slice_range w 1 at) x → BeginsNoPiece (drop at w) → BeginsNo (λ b. b == 34) (drop at w) → (bytes : List ℕ) → IsQuoted w bytes → ⊥
no_whole w x at some behind front stuck no_quote bytes k = no_quoted w x 0 at some behind front stuck no_quote w [] bytes k (sym (append-nil w))

-- no byte stands behind the quote that closes pieces
pub no_longer : (w x : List ℕ) (at : ℕ) → 1 ≤ at → at < length w → get_or w at 0 ≡ 34 → Pieces (slice_range w 1 at) x → (at + 1 ≡ length w → ⊥) → (bytes : List ℕ) → IsQuoted w bytes → ⊥
no_longer w x at behind within quote front longer bytes k =
    let rest : drop 1 w ≡ k.0 ++ 34 ∷ [] = ap (drop 1) k.2 in
    let own : drop 1 w ≡ slice_range w 1 at ++ 34 ∷ drop (at + 1) w = cut w 1 at behind ∙ ap (λ l. slice_range w 1 at ++ l) (drop_more w at 0 within ∙ ap (λ b. b ∷ drop (at + 1) w) quote) in
    let same = pieces_same (slice_range w 1 at) x k.0 bytes (drop (at + 1) w) [] front k.1 (sym own ∙ rest) in
    let none : length (drop (at + 1) w) ≡ 0 = ap length same.2 in
    longer (omega (arith, none, length-drop (at + 1) w, within))

-- a word that begins with no quote is no text between quotes
pub no_first : (w bytes : List ℕ) → (get_or w 0 0 ≡ 34 → ⊥) → IsQuoted w bytes → ⊥
no_first w bytes h k = h (ap (λ l. get_or l 0 0) k.2)
