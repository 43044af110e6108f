-- The pieces of a text between quotes: where one stands, and where none does.
use Rattle.std.proofs.Common.{◌≡◌, ℕ, ◌+◌, ◌<◌, ◌≤◌, nat_eq, List, [], ◌∷◌, ◌++◌, length, drop, get_or, slice_range, IsTrue, IsFalse, sym, refl, subst, ap, ◌∙◌, append_assoc, arith, Option, Some, None, IfSome, IfNone}
use Rattle.std.proofs.lemmas.List.{drop_more}
use Rattle.std.specs.Prelude.{SomeIff}
use Rattle.std.specs.Char.{is_ascii_hexdigit, encode_utf8}
use Rattle.std.specs.List.{list_all, starts_with}
use Rattle.std.specs.Str.Parse.{digits_value}
use Rattle.fidl_spelling.specs.Words.{escaped, IsPlain, IsCharacter, Piece, plain, letter, character, BeginsNo}
use Rattle.fidl_spelling.proofs.WordLaws.{head, tail, runs_same, no_both}
use Rattle.fidl_reading.specs.Pieces.{BeginsNoPiece}
use Rattle.fidl_reading.proofs.Slices.{cut, join, one_byte, part_found, rest_found, slice_range-push, front_stands, front_read}

-- a backslash and a letter
pub letter_escape : (src : List ℕ) (at b : ℕ) → at + 1 < length src → get_or src at 0 ≡ 92 → escaped (get_or src (at + 1) 0) ≡ Some b → Piece (slice_range src at (at + 2)) (b ∷ [])
letter_escape src at b within backslash h =
    let two : at + 2 ≡ at + 1 + 1 = omega arith in
    let start : at < length src = omega arith in
    let text : slice_range src at (at + 2) ≡ 92 ∷ get_or src (at + 1) 0 ∷ [] =
    ap (λ n. slice_range src at n) two ∙ slice_range-push src at (at + 1) (omega arith) within
    ∙ ap (λ l. l ++ get_or src (at + 1) 0 ∷ []) (one_byte src at start ∙ ap (λ b. b ∷ []) backslash) in
    subst (λ l. Piece l (b ∷ [])) (sym text) (letter h)

-- the three bytes before a character's number
abbrev pub unicode_mark : List ℕ
unicode_mark = 92 ∷ 117 ∷ 123 ∷ []

pub character_escape : (src : List ℕ) (at to : ℕ) → IsTrue (starts_with nat_eq (drop at src) unicode_mark) → at + 3 < to → (digits : List ℕ) → IsCharacter digits → slice_range src (at + 3) to ≡ digits ++ 125 ∷ [] → Piece (slice_range src at to) (encode_utf8 (digits_value 16 digits))
character_escape src at to mark ordered digits h e =
    let found = front_stands unicode_mark (drop at src) mark in
    let front : slice_range src at (at + 3) ≡ unicode_mark = part_found src unicode_mark found.0 at (at + 3) found.1 refl in
    let whole : slice_range src at to ≡ 92 ∷ 117 ∷ 123 ∷ (digits ++ 125 ∷ []) =
    sym (join src at (at + 3) to (omega arith) (omega arith)) ∙ ap (λ l. l ++ slice_range src (at + 3) to) front ∙ ap (λ l. unicode_mark ++ l) e in
    subst (λ l. Piece l (encode_utf8 (digits_value 16 digits))) (sym whole) (character h)

-- a character's number and its brace are the longest run of digits there and what follows it
pub character_agrees : (src digits rest : List ℕ) (from to : ℕ) → from ≤ to → IsTrue (list_all is_ascii_hexdigit (slice_range src from to)) → BeginsNo is_ascii_hexdigit (drop to src) → IsCharacter digits → drop from src ≡ digits ++ 125 ∷ rest → (slice_range src from to ≡ digits) × (drop to src ≡ 125 ∷ rest)
character_agrees src digits rest from to ordered run stops h e =
    runs_same is_ascii_hexdigit (slice_range src from to) digits (drop to src) (125 ∷ rest) run h.hex stops refl (sym (cut src from to ordered) ∙ e)

backslash_first : (src : List ℕ) (at : ℕ) → at < length src → get_or src at 0 ≡ 92 → drop at src ≡ 92 ∷ drop (at + 1) src
backslash_first src at within e = drop_more src at 0 within ∙ ap (λ b. b ∷ drop (at + 1) src) e

-- where neither a letter nor a character's number stands behind a backslash, no piece does at it
no_escape : (xs t : List ℕ) → xs ≡ 92 ∷ t → ((c b : ℕ) (rest : List ℕ) → escaped c ≡ Some b → xs ≡ 92 ∷ c ∷ rest → ⊥) → ((digits rest : List ℕ) → IsCharacter digits → xs ≡ 92 ∷ 117 ∷ 123 ∷ (digits ++ 125 ∷ rest) → ⊥) → BeginsNoPiece xs
no_escape xs t e no_letter no_character _ _ rest (plain {b = b} h) f = h.no_backslash (sym (head 92 b t rest (sym e ∙ f)))
no_escape xs t e no_letter no_character _ _ rest (letter {c = c} {b = b} h) f = no_letter c b rest h f
no_escape xs t e no_letter no_character _ _ rest (character {digits = digits} h) f =
    no_character digits rest h (f ∙ ap (λ l. 92 ∷ 117 ∷ 123 ∷ l) (append_assoc digits (125 ∷ []) rest))

-- behind the backslash no letter, and no `u{`
pub no_escape_at : (src : List ℕ) (at : ℕ) → at < length src → get_or src at 0 ≡ 92 → IsFalse (starts_with nat_eq (drop at src) unicode_mark) → ((c b : ℕ) (rest : List ℕ) → escaped c ≡ Some b → drop at src ≡ 92 ∷ c ∷ rest → ⊥) → BeginsNoPiece (drop at src)
no_escape_at src at within e no_mark no_letter =
    no_escape (drop at src) (drop (at + 1) src) (backslash_first src at within e) no_letter
    (λ digits rest h f. no_both (starts_with nat_eq (drop at src) unicode_mark) (ap (λ l. starts_with nat_eq l unicode_mark) f ∙ front_read unicode_mark (digits ++ 125 ∷ rest)) no_mark)

-- behind the backslash `u{`, and no character's number behind it
pub no_character_at : (src : List ℕ) (at : ℕ) → at < length src → get_or src at 0 ≡ 92 → IsTrue (starts_with nat_eq (drop at src) unicode_mark) → ((digits rest : List ℕ) → IsCharacter digits → drop (at + 3) src ≡ digits ++ 125 ∷ rest → ⊥) → BeginsNoPiece (drop at src)
no_character_at src at within e mark no_character =
    let found = front_stands unicode_mark (drop at src) mark in
    no_escape (drop at src) (drop (at + 1) src) (backslash_first src at within e)
    (λ c b rest h f.
    let same : 117 ≡ c = head 117 c (123 ∷ found.0) rest (tail 92 92 (117 ∷ 123 ∷ found.0) (c ∷ rest) (sym found.1 ∙ f)) in
    let n : None ≡ Some b = ap escaped same ∙ h in absurd (cc n))
    (λ digits rest h f. no_character digits rest h (rest_found src unicode_mark (digits ++ 125 ∷ rest) at (at + 3) f refl))

-- a byte that doesn't stand for itself, and is no backslash, begins no piece
pub no_piece_at : (src : List ℕ) (at : ℕ) → at < length src → (get_or src at 0 ≡ 92 → ⊥) → (IsPlain (get_or src at 0) → ⊥) → BeginsNoPiece (drop at src)
no_piece_at src at within no_backslash no_plain a x rest p e = go a x p (sym (drop_more src at 0 within) ∙ e)
  where
    go : (a x : List ℕ) → Piece a x → get_or src at 0 ∷ drop (at + 1) src ≡ a ++ rest → ⊥
    go _ _ (plain {b = b} h) f = no_plain (subst IsPlain (sym (head (get_or src at 0) b (drop (at + 1) src) rest f)) h)
    go _ _ (letter {c = c} h) f = no_backslash (head (get_or src at 0) 92 (drop (at + 1) src) (c ∷ rest) f)
    go _ _ (character h) f = no_backslash (head (get_or src at 0) 92 (drop (at + 1) src) _ f)

-- a byte that stands for itself
pub plain_piece : (src : List ℕ) (at : ℕ) → at < length src → IsPlain (get_or src at 0) → Piece (slice_range src at (at + 1)) (get_or src at 0 ∷ [])
plain_piece src at within h = subst (λ l. Piece l (get_or src at 0 ∷ [])) (sym (one_byte src at within)) (plain h)

-- a weaker fact of what an option has, and of its having nothing
pub if_some_weaker : {A : Type 0} (o : Option A) (P Q : A → Type 0) → ((x : A) → P x → Q x) → IfSome o P → IfSome o Q
if_some_weaker None P Q f h = tt
if_some_weaker (Some x) P Q f h = f x h

pub if_none_weaker : {A : Type 0} (o : Option A) (P Q : Type 0) → (P → Q) → IfNone o P → IfNone o Q
if_none_weaker None P Q f h = f h
if_none_weaker (Some x) P Q f h = tt

-- what an option has that has a value exactly where P holds
pub some_of : (o : Option ℕ) (P : Type 0) (x : ℕ) → SomeIff o P x → IfSome o (λ y. P × (y ≡ x))
some_of None P x h = tt
some_of (Some y) P x h = h
