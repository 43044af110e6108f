-- No piece of a string literal begins another, so its pieces are read in one way.
use Rattle.std.proofs.Common.{◌≡◌, ◌≢◌, ℕ, ◌==◌, List, [], ◌∷◌, ◌++◌, IsTrue, IsFalse, sym, refl, subst, ap, ◌∙◌, append_assoc, append-nil, ◌+◌, ◌≤◌, ◌<◌, length, get_or, drop, slice_range, arith}
use Rattle.std.proofs.lemmas.List.{drop_more, drop_all}
use Rattle.fidl_span.proofs.Slices.{join, one_byte, slice_range-push}
use Rattle.std.proofs.lemmas.Bool.{true≢false}
use Rattle.std.specs.List.{concat, AllByRecursion}
use Rattle.std.specs.Char.{is_ascii_hexdigit}
use Rattle.fidl_span.specs.Bytes.{begins, EndsLine}
use Rattle.fidl_span.specs.Strings.{is_escape_letter, IsCodePoint, IsPiece, plain, letter, code_point, IsOpenString, IsString, BeginsNoPiece}
use Rattle.fidl_span.proofs.RunLaws.{runs_agree}

u_is_no_letter : (c : ℕ) → IsTrue (is_escape_letter c) → c ≡ 117 → ⊥
unfolding is_escape_letter
u_is_no_letter c h e = let P : ℕ → Type 0 = λ x. IsTrue (is_escape_letter x) in true≢false (sym (subst P e h))

-- where a code point's brace is
code_points_agree : (s t x y : List ℕ) → IsCodePoint s → IsCodePoint t → (s ++ 125 ∷ []) ++ x ≡ (t ++ 125 ∷ []) ++ y → (s ≡ t) × (x ≡ y)
code_points_agree s t x y hs ht e =
    let same = runs_agree is_ascii_hexdigit s t (125 ∷ x) (125 ∷ y) hs.digits refl ht.digits refl (sym (append_assoc s (125 ∷ []) x) ∙ e ∙ append_assoc t (125 ∷ []) y) in
    let rests : 125 ∷ x ≡ 125 ∷ y = same.1 in
    (same.0, cc)

pub pieces_agree : {p q : List ℕ} (x y : List ℕ) → IsPiece p → IsPiece q → p ++ x ≡ q ++ y → (p ≡ q) × (x ≡ y)
pieces_agree x y (plain {b = b} hb) (plain {b = c} hc) e = let e' : b ∷ x ≡ c ∷ y = e in (cc, cc)
pieces_agree x y (plain {b = b} hb) (letter {c = c} hc) e = let e' : b ∷ x ≡ 92 ∷ c ∷ y = e in absurd (hb.no_backslash (cc))
pieces_agree x y (plain {b = b} hb) (code_point {text = t} ht) e = let e' : b ∷ x ≡ 92 ∷ 117 ∷ 123 ∷ ((t ++ 125 ∷ []) ++ y) = e in absurd (hb.no_backslash (cc))
pieces_agree x y (letter {c = c} hc) (plain {b = b} hb) e = let e' : 92 ∷ c ∷ x ≡ b ∷ y = e in absurd (hb.no_backslash (cc))
pieces_agree x y (letter {c = c} hc) (letter {c = d} hd) e = let e' : 92 ∷ c ∷ x ≡ 92 ∷ d ∷ y = e in (cc, cc)
pieces_agree x y (letter {c = c} hc) (code_point {text = t} ht) e = let e' : 92 ∷ c ∷ x ≡ 92 ∷ 117 ∷ 123 ∷ ((t ++ 125 ∷ []) ++ y) = e in absurd (u_is_no_letter c hc (cc))
pieces_agree x y (code_point {text = t} ht) (plain {b = b} hb) e = let e' : 92 ∷ 117 ∷ 123 ∷ ((t ++ 125 ∷ []) ++ x) ≡ b ∷ y = e in absurd (hb.no_backslash (cc))
pieces_agree x y (code_point {text = t} ht) (letter {c = c} hc) e = let e' : 92 ∷ 117 ∷ 123 ∷ ((t ++ 125 ∷ []) ++ x) ≡ 92 ∷ c ∷ y = e in absurd (u_is_no_letter c hc (cc))
pieces_agree x y (code_point {text = s} hs) (code_point {text = t} ht) e =
    let e' : (s ++ 125 ∷ []) ++ x ≡ (t ++ 125 ∷ []) ++ y = cc in
    let same = code_points_agree s t x y hs ht e' in
    (ap (λ l. 92 ∷ 117 ∷ 123 ∷ (l ++ 125 ∷ [])) same.0, same.1)

-- two lists of pieces, each up to where no piece can be read
pub bodies_agree : (ps qs : List (List ℕ)) (x y : List ℕ) → AllByRecursion IsPiece ps → BeginsNoPiece x → AllByRecursion IsPiece qs → BeginsNoPiece y → concat ps ++ x ≡ concat qs ++ y → (concat ps ≡ concat qs) × (x ≡ y)
bodies_agree [] [] x y hp sx hq sy e = (refl, e)
bodies_agree [] (q ∷ qs) x y hp sx hq sy e = absurd (sx q (concat qs ++ y) hq.0 (e ∙ append_assoc q (concat qs) y))
bodies_agree (p ∷ ps) [] x y hp sx hq sy e = absurd (sy p (concat ps ++ x) hp.0 (sym e ∙ append_assoc p (concat ps) x))
bodies_agree (p ∷ ps) (q ∷ qs) x y hp sx hq sy e =
    let first = pieces_agree (concat ps ++ x) (concat qs ++ y) hp.0 hq.0 (sym (append_assoc p (concat ps) x) ∙ e ∙ append_assoc q (concat qs) y) in
    let others = bodies_agree ps qs x y hp.1 sx hq.1 sy first.1 in
    let heads : p ≡ q = first.0 in
    let tails : concat ps ≡ concat qs = others.0 in
    (cc, others.1)

-- a piece has a first byte, which is no quote and no line feed
pub piece_first : {p : List ℕ} → IsPiece p → (b : ℕ) × (q : List ℕ) × (p ≡ b ∷ q) × (b ≢ 34) × (b ≢ 10)
piece_first (plain {b = b} h) = (b, [], refl, h.no_quote, h.no_line_feed)
piece_first (letter {c = c} h) = (92, c ∷ [], refl, λ (e : 92 ≡ 34). omega arith, λ (e : 92 ≡ 10). omega arith)
piece_first (code_point {text = t} h) = (92, 117 ∷ 123 ∷ (t ++ 125 ∷ []), refl, λ (e : 92 ≡ 34). omega arith, λ (e : 92 ≡ 10). omega arith)

-- no piece can be read at a quote, or at the end of a line
pub no_piece_at_quote : (r : List ℕ) → BeginsNoPiece (34 ∷ r)
no_piece_at_quote r piece rest h e =
    let f = piece_first h in
    let p : piece ≡ f.0 ∷ f.1 = f.2 in
    let e' : 34 ∷ r ≡ f.0 ∷ (f.1 ++ rest) = e ∙ ap (λ l. l ++ rest) p in
    let b : f.0 ≡ 34 = cc in
    f.3 b

pub no_piece_at_line_end : (x : List ℕ) → EndsLine x → BeginsNoPiece x
no_piece_at_line_end [] ends piece rest h e =
    let f = piece_first h in
    let p : piece ≡ f.0 ∷ f.1 = f.2 in
    let e' : [] ≡ f.0 ∷ (f.1 ++ rest) = e ∙ ap (λ l. l ++ rest) p in
    cc
no_piece_at_line_end (d ∷ x) ends piece rest h e =
    let f = piece_first h in
    let p : piece ≡ f.0 ∷ f.1 = f.2 in
    let e' : d ∷ x ≡ f.0 ∷ (f.1 ++ rest) = e ∙ ap (λ l. l ++ rest) p in
    let b : f.0 ≡ 10 = cc in
    f.4 b

-- two open strings at one place, each up to where no piece can be read
pub open_strings_agree : (s t x y : List ℕ) → IsOpenString s → BeginsNoPiece x → IsOpenString t → BeginsNoPiece y → s ++ x ≡ t ++ y → (s ≡ t) × (x ≡ y)
open_strings_agree s t x y (ps, hp, es) sx (qs, hq, et) sy e =
    let e' : (34 ∷ concat ps) ++ x ≡ (34 ∷ concat qs) ++ y = sym (ap (λ l. l ++ x) es) ∙ e ∙ ap (λ l. l ++ y) et in
    let tails : concat ps ++ x ≡ concat qs ++ y = cc in
    let same = bodies_agree ps qs x y hp sx hq sy tails in
    let bodies : concat ps ≡ concat qs = same.0 in
    (es ∙ ap (λ l. 34 ∷ l) bodies ∙ sym et, same.1)

-- a place has one string literal
pub strings_agree : (s t x y : List ℕ) → IsString s → IsString t → s ++ x ≡ t ++ y → s ≡ t
strings_agree s t x y (f, hf, es) (g, hg, et) e =
    let e' : f ++ (34 ∷ x) ≡ g ++ (34 ∷ y) = sym (append_assoc f (34 ∷ []) x) ∙ sym (ap (λ l. l ++ x) es) ∙ e ∙ ap (λ l. l ++ y) et ∙ append_assoc g (34 ∷ []) y in
    let same = open_strings_agree f g (34 ∷ x) (34 ∷ y) hf (no_piece_at_quote x) hg (no_piece_at_quote y) e' in
    es ∙ ap (λ l. l ++ 34 ∷ []) same.0 ∙ sym et

-- where no piece and no quote stands behind an open string, no string literal stands at its quote
pub no_string : (s t x y : List ℕ) → IsOpenString s → BeginsNoPiece x → IsFalse (begins (λ b. b == 34) x) → IsString t → s ++ x ≡ t ++ y → ⊥
no_string s t x y hs sx no_quote (g, hg, et) e =
    let e' : s ++ x ≡ g ++ (34 ∷ y) = e ∙ ap (λ l. l ++ y) et ∙ append_assoc g (34 ∷ []) y in
    let same = open_strings_agree s g x (34 ∷ y) hs sx hg (no_piece_at_quote y) e' in
    let P : List ℕ → Type 0 = λ l. IsFalse (begins (λ b. b == 34) l) in
    true≢false (subst P same.1 no_quote)

concat_push : (ps : List (List ℕ)) (p : List ℕ) → concat (ps ++ p ∷ []) ≡ concat ps ++ p
concat_push [] p = append-nil p
concat_push (q ∷ ps) p = ap (λ l. q ++ l) (concat_push ps p) ∙ sym (append_assoc q (concat ps) p)

all_push : (ps : List (List ℕ)) (p : List ℕ) → AllByRecursion IsPiece ps → IsPiece p → AllByRecursion IsPiece (ps ++ p ∷ [])
all_push [] p h g = (g, tt)
all_push (q ∷ ps) p h g = (h.0, all_push ps p h.1 g)

-- an open string with one more piece
open_push : (s p : List ℕ) → IsOpenString s → IsPiece p → IsOpenString (s ++ p)
open_push s p (ps, h, e) g = (ps ++ p ∷ [], all_push ps p h g, ap (λ l. l ++ p) e ∙ ap (λ l. 34 ∷ l) (sym (concat_push ps p)))

-- an open string that is a quote alone
pub open_at_quote : (src : List ℕ) (quote : ℕ) → quote < length src → get_or src quote 0 ≡ 34 → IsOpenString (slice_range src quote (quote + 1))
open_at_quote src quote within e = ([], tt, one_byte src quote within ∙ ap (λ b. b ∷ []) e)

pub open_more : (src : List ℕ) (quote to end : ℕ) → quote ≤ to → to ≤ end → IsOpenString (slice_range src quote to) → IsPiece (slice_range src to end) → IsOpenString (slice_range src quote end)
open_more src quote to end ordered ends front piece =
    subst IsOpenString (join src quote to end ordered ends) (open_push _ _ front piece)

-- a string literal is an open string and a quote
pub string_closes : (src : List ℕ) (quote to : ℕ) → quote ≤ to → to < length src → get_or src to 0 ≡ 34 → IsOpenString (slice_range src quote to) → IsString (slice_range src quote (to + 1))
string_closes src quote to ordered within e front =
    (slice_range src quote to, front, slice_range-push src quote to ordered within ∙ ap (λ b. slice_range src quote to ++ b ∷ []) e)

-- the end of a line, at a line feed and at the end of the source
pub ends_at_line_feed : (src : List ℕ) (to : ℕ) → to < length src → get_or src to 0 ≡ 10 → EndsLine (drop to src)
ends_at_line_feed src to within e = subst EndsLine (sym (drop_more src to 0 within)) e

pub ends_at_end : (src : List ℕ) (to : ℕ) → length src ≤ to → EndsLine (drop to src)
ends_at_end src to h = subst EndsLine (sym (drop_all to src h)) tt

-- a byte that stands for itself
pub plain_piece : (src : List ℕ) (at : ℕ) → at < length src → (get_or src at 0 ≡ 34 → ⊥) → (get_or src at 0 ≡ 92 → ⊥) → (get_or src at 0 ≡ 10 → ⊥) → IsPiece (slice_range src at (at + 1))
plain_piece src at within q b l = subst IsPiece (sym (one_byte src at within)) (plain (record { no_quote = q; no_backslash = b; no_line_feed = l }))
