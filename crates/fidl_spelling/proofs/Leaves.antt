-- The texts of numbers, raw bytes, texts between quotes and handles are read as what they spell.
use Rattle.std.proofs.Common.{rules, ◌≡◌, ℕ, ◌+◌, ◌/◌, ◌%◌, ◌^◌, ◌<◌, ◌≤◌, List, [], ◌∷◌, ◌++◌, length, refl, sym, ap, subst, ◌∙◌, Bool, false, true, arith, inl, inr, pos}
use Rattle.std.proofs.lemmas.List.{append_assoc}
use Rattle.std.proofs.lemmas.Fmt.{decimal_is_IsNumeral}
use Rattle.std.proofs.lemmas.Str.Parse.{digit_from_value}
use Rattle.std.proofs.lemmas.Str.{digit_value-digit_char, encode_ascii}
use Rattle.std.proofs.Math.Utf8.{low_scalar, scalar}
use Rattle.std.proofs.lemmas.Grind.{flat_map-append}
use Rattle.std.specs.Str.{encode_utf8_all, all_scalars}
use Rattle.fidl_spelling.proofs.WordLaws.{and_left, and_right}
use Rattle.std.specs.Prelude.{codes, decimal, flat_map, IsUtf8, ◌⊎◌, if◌then◌else◌, ◌==◌, ◌||◌, nat_lt}
use Rattle.std.specs.Char.{is_ascii_hexdigit, digit_value, encode_utf8}
use Rattle.std.proofs.lemmas.Bool.{ne_eqb, lt-ltb, le-ltb, ltb-true, eqb-true, eqb-false, cases_lt}
use Rattle.std.specs.List.{list_all, AllByRecursion}
use Rattle.std.specs.Str.Parse.{IsNumeral, AllDigits, digits_value}
use Rattle.fidl_wire.specs.declared.handle.HandleInfo.{HandleInfo}
use Rattle.fidl_wire.specs.Typed.{IsHandle}
use Rattle.fidl_wire.specs.Text.{handle_text, handles_text, comma_if, hex_digit, hex_byte, quoted_byte}
use Rattle.fidl_spelling.specs.Words.{is_word_byte, IsRun, IsCharacter, Piece, plain, letter, character, Pieces, no_pieces, piece, IsQuoted}
use Rattle.fidl_spelling.specs.Spells.{The, One, IsNumber, IsNumberBelow, AHandle, Handles, CommaIf, IsHex, AreHex}
use Rattle.fidl_spelling.proofs.Reading.{utf8_cons, utf8_run, append-nil, Closed, Reads, closed_as, closed_both, nothing_closed, comma_closed, one_quoted, open_closed, symbol_closed, symbol_blank, one_run, the_run}

digit_is_word : (c : ℕ) → 48 ≤ c → c ≤ 57 → is_word_byte c ≡ true
digit_is_word c h k = search (rules, h, k)

digits_are_words : (w : List ℕ) → AllDigits 10 w → list_all is_word_byte w ≡ true
digits_are_words [] h = refl
digits_are_words (c ∷ w) h = let d = digit_from_value c h.0 in rw (digit_is_word c d.0 d.1) (digits_are_words w h.1)

pub numeral_run : (w : List ℕ) → IsNumeral 10 w → IsRun w
numeral_run w h = (h.0, digits_are_words w h.1)

pub decimal_run : (n : ℕ) → n < 2 ^ 64 → IsRun (decimal n)
decimal_run n h = numeral_run (decimal n) (decimal_is_IsNumeral n h).0

pub decimal_number : (n : ℕ) → n < 2 ^ 64 → IsNumber (pos n) (decimal n)
decimal_number n h = let d = decimal_is_IsNumeral n h in inl (d.0, ap (λ k. pos k) (sym d.1))

pub small_number : (n : ℕ) → n < 2 ^ 32 → IsNumberBelow (2 ^ 32) n (decimal n)
small_number n h = (h, decimal_number n (omega (arith, h)))

pub small_reads : (n : ℕ) → n < 2 ^ 32 → Reads (One (IsNumberBelow (2 ^ 32) n)) (decimal n)
small_reads n h = one_run (IsNumberBelow (2 ^ 32) n) (decimal n) (small_number n h) (decimal_run n (omega (arith, h)))

apart : (a b c d e f g : List ℕ) → a ++ (b ++ (c ++ (d ++ (e ++ (f ++ g))))) ≡ a ++ b ++ c ++ d ++ e ++ f ++ g
apart a b c d e f g = sym (simp append_assoc refl)

pub handle_closed : (h : HandleInfo) → IsHandle h → Closed (AHandle h) (handle_text h)
handle_closed h k =
    closed_as (AHandle h) _ (handle_text h) (apart (codes "handle(") (decimal h.id) (codes ", ") (decimal h.object_type) (codes ", ") (decimal h.rights) (codes ")"))
    (open_closed (The "handle") _ (codes "handle") (codes "(" ++ (decimal h.id ++ (codes ", " ++ (decimal h.object_type ++ (codes ", " ++ (decimal h.rights ++ codes ")")))))) (the_run (codes "handle") (omega arith, refl)) (λ rest. refl)
    (closed_both (The "(") _ (codes "(") _ (symbol_closed 40 refl)
    (open_closed (One (IsNumberBelow (2 ^ 32) h.id)) _ (decimal h.id) (codes ", " ++ (decimal h.object_type ++ (codes ", " ++ (decimal h.rights ++ codes ")")))) (small_reads h.id k.0) (λ rest. refl)
    (closed_both (The ",") _ (codes ", ") _ (symbol_blank 44 refl)
    (open_closed (One (IsNumberBelow (2 ^ 32) h.object_type)) _ (decimal h.object_type) (codes ", " ++ (decimal h.rights ++ codes ")")) (small_reads h.object_type k.1) (λ rest. refl)
    (closed_both (The ",") _ (codes ", ") _ (symbol_blank 44 refl)
    (open_closed (One (IsNumberBelow (2 ^ 32) h.rights)) (The ")") (decimal h.rights) (codes ")") (small_reads h.rights k.2) (λ rest. refl) (symbol_closed 41 refl))))))))

pub handles_closed : (later : Bool) (hs : List HandleInfo) → AllByRecursion IsHandle hs → Closed (Handles later hs) (handles_text later hs)
handles_closed later [] k = nothing_closed
handles_closed later (h ∷ hs) k =
    closed_as (Handles later (h ∷ hs)) (comma_if later ++ (handle_text h ++ handles_text true hs)) (handles_text later (h ∷ hs)) (sym (append_assoc (comma_if later) (handle_text h) (handles_text true hs)))
    (closed_both (CommaIf later) _ (comma_if later) _ (comma_closed later) (closed_both (AHandle h) _ (handle_text h) _ (handle_closed h k.0) (handles_closed true hs k.1)))

-- hex digits
small_digit : (d : ℕ) → d < 10 → hex_digit d ≡ 48 + d
small_digit d h = rw (lt-ltb d 10 h) refl

great_digit : (d : ℕ) → 10 ≤ d → hex_digit d ≡ 87 + d
great_digit d h = rw (le-ltb d 10 h) refl

hex_char : (c : ℕ) → (48 ≤ c) × (c ≤ 57) ⊎ ((97 ≤ c) × (c ≤ 102)) → (is_ascii_hexdigit c ≡ true) × (is_word_byte c ≡ true)
hex_char c (inl h) = (search (rules, h), search (rules, h))
hex_char c (inr h) = (search (rules, h), search (rules, h))

hex_digit_range : (d : ℕ) → d < 16 → (48 ≤ hex_digit d) × (hex_digit d ≤ 57) ⊎ ((97 ≤ hex_digit d) × (hex_digit d ≤ 102))
hex_digit_range d h = elim (cases_lt d 10) [
  | inl lt ↦ let e = small_digit d lt in inl (omega (arith, e, lt), omega (arith, e, lt))
  | inr le ↦ let e = great_digit d le in inr (omega (arith, e, le, h), omega (arith, e, le, h))
]

pub hex_digit_is : (d : ℕ) → d < 16 → (is_ascii_hexdigit (hex_digit d) ≡ true) × (is_word_byte (hex_digit d) ≡ true) × (digit_value (hex_digit d) ≡ d)
hex_digit_is d h = let r = hex_char (hex_digit d) (hex_digit_range d h) in (r.0, r.1, digit_value-digit_char d (omega (arith, h)))

hex_is : (bytes : List ℕ) → AllByRecursion (λ b. b < 256) bytes → IsHex bytes (flat_map hex_byte bytes)
hex_is [] h = tt
hex_is (b ∷ bytes) h =
    let high = hex_digit_is (b / 16) (omega (arith, h.0)) in
    let low = hex_digit_is (b % 16) (omega arith) in
    let v = high.2 in let u = low.2 in
    (high.0, low.0, omega (arith, v, u), hex_is bytes h.1)

hex_words : (bytes : List ℕ) → AllByRecursion (λ b. b < 256) bytes → list_all is_word_byte (flat_map hex_byte bytes) ≡ true
hex_words [] h = refl
hex_words (b ∷ bytes) h =
    let high = hex_digit_is (b / 16) (omega (arith, h.0)) in
    let low = hex_digit_is (b % 16) (omega arith) in
    rw (high.1, low.1) (hex_words bytes h.1)

some_hex : (bytes : List ℕ) → 0 < length bytes → 0 < length (flat_map hex_byte bytes)
some_hex [] h = absurd (omega (arith, h))
some_hex (b ∷ bytes) h = omega arith

pub hex_reads : (bytes : List ℕ) → AllByRecursion (λ b. b < 256) bytes → 0 < length bytes → Reads (One (AreHex bytes)) (flat_map hex_byte bytes)
hex_reads bytes h some = one_run (AreHex bytes) (flat_map hex_byte bytes) (some, hex_is bytes h) (some_hex bytes some, hex_words bytes h)

-- texts between quotes
if_cases : {A : Type 0} (p : Bool) (P : A → Type 0) (x y : A) → (p ≡ true → P x) → (p ≡ false → P y) → P (if p then x else y)
if_cases true P x y h k = h refl
if_cases false P x y h k = k refl

numbered : (b : ℕ) (digits : List ℕ) → b < 128 → IsCharacter digits → digits_value 16 digits ≡ b → Piece (codes "\\u{" ++ digits ++ codes "}") (b ∷ [])
numbered b digits h k e = subst (λ x. Piece (codes "\\u{" ++ digits ++ codes "}") x) (ap encode_utf8 e ∙ encode_ascii b h) (character k)

one_digit : (b : ℕ) → b < 16 → IsCharacter (hex_digit b ∷ [])
one_digit b h =
    let d = hex_digit_is b h in
    let v = d.2 in
    record { hex = rw d.0 refl; some = (omega arith, (omega (arith, v, h), tt)); at_most_six = omega arith; scalar = low_scalar (digits_value 16 (hex_digit b ∷ [])) (omega (arith, v, h)) }

two_digits : (b : ℕ) → b < 128 → IsCharacter (hex_byte b)
two_digits b h =
    let high = hex_digit_is (b / 16) (omega (arith, h)) in
    let low = hex_digit_is (b % 16) (omega arith) in
    let v = high.2 in
    let u = low.2 in
    record { hex = rw (high.0, low.0) refl; some = (omega arith, (omega (arith, v, h), (omega (arith, u), tt))); at_most_six = omega arith; scalar = low_scalar (digits_value 16 (hex_byte b)) (omega (arith, u, v, h)) }

control : (b : ℕ) → nat_lt b 32 || (b == 127) ≡ true → b < 128
control b e = elim (cases_lt b 32) [
  | inl lt ↦ omega (arith, lt)
  | inr le ↦ let is : (b == 127) ≡ true = sym (ap (λ x. x || (b == 127)) (le-ltb b 32 le)) ∙ e in let same = eqb-true b 127 is in omega (arith, same)
]

quoted_piece : (b : ℕ) → Piece (quoted_byte b) (b ∷ [])
quoted_piece b =
    let P : List ℕ → Type 0 = λ t. Piece t (b ∷ []) in
    if_cases (b == 34) P _ _ (λ e. subst (λ n. Piece (92 ∷ 34 ∷ []) (n ∷ [])) (sym (eqb-true b 34 e)) (letter refl)) (λ n34.
    if_cases (b == 92) P _ _ (λ e. subst (λ n. Piece (92 ∷ 92 ∷ []) (n ∷ [])) (sym (eqb-true b 92 e)) (letter refl)) (λ n92.
    if_cases (b == 10) P _ _ (λ e. subst (λ n. Piece (92 ∷ 110 ∷ []) (n ∷ [])) (sym (eqb-true b 10 e)) (letter refl)) (λ n10.
    if_cases (b == 13) P _ _ (λ e. subst (λ n. Piece (92 ∷ 114 ∷ []) (n ∷ [])) (sym (eqb-true b 13 e)) (letter refl)) (λ n13.
    if_cases (b == 9) P _ _ (λ e. subst (λ n. Piece (92 ∷ 116 ∷ []) (n ∷ [])) (sym (eqb-true b 9 e)) (letter refl)) (λ n9.
    if_cases (nat_lt b 16) P _ _ (λ e. let lt = ltb-true b 16 e in let v = (hex_digit_is b lt).2 in numbered b (hex_digit b ∷ []) (omega (arith, lt)) (one_digit b lt) (omega (arith, v))) (λ n16.
    if_cases (nat_lt b 32 || (b == 127)) P _ _ (λ e. let lt = control b e in let v = (hex_digit_is (b / 16) (omega (arith, lt))).2 in let u = (hex_digit_is (b % 16) (omega arith)).2 in numbered b (hex_byte b) lt (two_digits b lt) (omega (arith, v, u))) (λ n32.
    plain (record { no_quote = eqb-false b 34 n34; no_backslash = eqb-false b 92 n92; no_line_feed = eqb-false b 10 n10; no_return = eqb-false b 13 n13 }))))))))

quoted_pieces : (bytes : List ℕ) → Pieces (flat_map quoted_byte bytes) bytes
quoted_pieces [] = no_pieces
quoted_pieces (b ∷ bytes) = piece (quoted_piece b) (quoted_pieces bytes)

-- a text that is UTF-8 is so between quotes
quoted_ascii : (b : ℕ) (rest : List ℕ) → b < 128 → IsUtf8 rest → IsUtf8 (quoted_byte b ++ rest)
quoted_ascii b rest h u =
    let P : List ℕ → Type 0 = λ t. IsUtf8 (t ++ rest) in
    let two = λ (x y : ℕ) (k : x < 128) (l : y < 128). utf8_cons x (y ∷ rest) k (utf8_cons y rest l u) in
    if_cases (b == 34) P _ _ (λ e. two 92 34 (omega arith) (omega arith)) (λ n34.
    if_cases (b == 92) P _ _ (λ e. two 92 92 (omega arith) (omega arith)) (λ n92.
    if_cases (b == 10) P _ _ (λ e. two 92 110 (omega arith) (omega arith)) (λ n10.
    if_cases (b == 13) P _ _ (λ e. two 92 114 (omega arith) (omega arith)) (λ n13.
    if_cases (b == 9) P _ _ (λ e. two 92 116 (omega arith) (omega arith)) (λ n9.
    if_cases (nat_lt b 16) P _ _ (λ e. let lt = ltb-true b 16 e in front (utf8_run (hex_digit b ∷ []) (125 ∷ rest) (rw (hex_digit_is b lt).1 refl) (utf8_cons 125 rest (omega arith) u))) (λ n16.
    if_cases (nat_lt b 32 || (b == 127)) P _ _ (λ e. front (utf8_run (hex_byte b) (125 ∷ rest) (rw ((hex_digit_is (b / 16) (omega (arith, h))).1, (hex_digit_is (b % 16) (omega arith)).1) refl) (utf8_cons 125 rest (omega arith) u))) (λ n32.
    utf8_cons b rest h u)))))))
  where
    front : {z : List ℕ} → IsUtf8 z → IsUtf8 (92 ∷ 117 ∷ 123 ∷ z)
    front {z} v = utf8_cons 92 (117 ∷ 123 ∷ z) (omega arith) (utf8_cons 117 (123 ∷ z) (omega arith) (utf8_cons 123 z (omega arith) v))

-- a byte past ASCII stands for itself
high_byte : (b : ℕ) → 128 ≤ b → quoted_byte b ≡ b ∷ []
high_byte b h = rw (ne_eqb b 34 (λ e. absurd (omega (arith, e, h))), ne_eqb b 92 (λ e. absurd (omega (arith, e, h))), ne_eqb b 10 (λ e. absurd (omega (arith, e, h))), ne_eqb b 13 (λ e. absurd (omega (arith, e, h))), ne_eqb b 9 (λ e. absurd (omega (arith, e, h))), le-ltb b 16 (omega (arith, h)), le-ltb b 32 (omega (arith, h)), ne_eqb b 127 (λ e. absurd (omega (arith, e, h)))) refl

high_bytes : (bs : List ℕ) → AllByRecursion (λ b. 128 ≤ b) bs → flat_map quoted_byte bs ≡ bs
high_bytes [] h = refl
high_bytes (b ∷ bs) h = let e = high_byte b h.0 in let t = high_bytes bs h.1 in λ i. e i ++ t i

high_char : (c : ℕ) → 128 ≤ c → AllByRecursion (λ b. 128 ≤ b) (encode_utf8 c)
unfolding encode_utf8
high_char c h =
    let P : List ℕ → Type 0 = λ l. AllByRecursion (λ b. 128 ≤ b) l in
    if_cases (nat_lt c 128) P _ _ (λ e. let lt = ltb-true c 128 e in absurd (omega (arith, lt, h))) (λ n1.
    if_cases (nat_lt c 2048) P _ _ (λ e. (omega arith, (omega arith, tt))) (λ n2.
    if_cases (nat_lt c 65536) P _ _ (λ e. (omega arith, (omega arith, (omega arith, tt)))) (λ n3. (omega arith, (omega arith, (omega arith, (omega arith, tt)))))))

quoted_char : (c : ℕ) (rest : List ℕ) → scalar c ≡ true → IsUtf8 rest → IsUtf8 (flat_map quoted_byte (encode_utf8 c) ++ rest)
quoted_char c rest h u = elim (cases_lt c 128) [
  | inl lt ↦ subst (λ l. IsUtf8 (flat_map quoted_byte l ++ rest)) (sym (encode_ascii c lt)) (subst (λ l. IsUtf8 (l ++ rest)) (sym (append-nil (quoted_byte c))) (quoted_ascii c rest lt u))
  | inr le ↦ subst (λ l. IsUtf8 (l ++ rest)) (sym (high_bytes (encode_utf8 c) (high_char c le))) (c ∷ u.0, (rw (h, u.1.0) refl, ap (λ l. encode_utf8 c ++ l) u.1.1))
]

quoted_chars : (cs : List ℕ) (rest : List ℕ) → all_scalars cs ≡ true → IsUtf8 rest → IsUtf8 (flat_map quoted_byte (encode_utf8_all cs) ++ rest)
quoted_chars [] rest h u = u
quoted_chars (c ∷ cs) rest h u =
    let a = flat_map quoted_byte (encode_utf8 c) in
    let b = flat_map quoted_byte (encode_utf8_all cs) in
    let both : flat_map quoted_byte (encode_utf8 c ++ encode_utf8_all cs) ≡ a ++ b = flat_map-append quoted_byte (encode_utf8 c) (encode_utf8_all cs) in
    subst (λ l. IsUtf8 (l ++ rest)) (sym both) (subst IsUtf8 (sym (append_assoc a b rest)) (quoted_char c (b ++ rest) (and_left (scalar c) (all_scalars cs) h) (quoted_chars cs rest (and_right (scalar c) (all_scalars cs) h) u)))

pub quoted_closed : (bytes : List ℕ) → IsUtf8 bytes → Closed (One (λ w. IsQuoted w bytes)) (codes "\"" ++ flat_map quoted_byte bytes ++ codes "\"")
quoted_closed bytes h =
    let q : IsQuoted (codes "\"" ++ flat_map quoted_byte bytes ++ codes "\"") bytes = (flat_map quoted_byte bytes, quoted_pieces bytes, refl) in
    one_quoted (λ w. IsQuoted w bytes) _ bytes q q (λ rest u. utf8_cons 34 _ (omega arith)
    (subst IsUtf8 (sym (append_assoc (flat_map quoted_byte bytes) (34 ∷ []) rest))
    (subst (λ l. IsUtf8 (flat_map quoted_byte l ++ 34 ∷ rest)) h.1.1 (quoted_chars h.0 (34 ∷ rest) h.1.0 (utf8_cons 34 rest (omega arith) u)))))
