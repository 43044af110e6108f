-- The kind of a word shows in its first two bytes.
use Rattle.std.proofs.Common.{get_or, slice_range, nat_eq, ◌+◌, ◌<◌, ◌≡◌, ◌≢◌, ℕ, ◌==◌, cond, not, ◌&&◌, ◌||◌, Bool, true, false, List, [], ◌∷◌, ◌++◌, Option, Some, None, IsTrue, IsFalse, sym, refl, subst, ap, ◌∙◌, ⊎_elim, length, drop, slice_index, ne_eqb, arith}
use Rattle.std.proofs.lemmas.Bool.{both_ways, eqb-true, true≢false, cases_Bool, and_parts, or_cases, and_left, cond-true, cond-false, false_from_ne_true}
use Rattle.std.proofs.lemmas.Bool.Decides.{nat_tests}
use Rattle.std.specs.Char.{is_ascii_digit, is_ascii_hexdigit, is_ascii_alphabetic}
use Rattle.std.specs.List.{list_all, concat, starts_with, AllByRecursion}
use Rattle.std.proofs.lemmas.List.{drop_more}
use Rattle.fidl_span.proofs.Slices.{one_byte, part_found, front_stands, front_read}
use Rattle.std.specs.Map.{lookup}
use Rattle.fidl_span.specs.declared.words.WordKind.{WordKind}
use Rattle.fidl_span.specs.declared.words.WordKind.TheVariants.{Identifier, Number, String, Minus, Arrow}
use Rattle.fidl_span.specs.Bytes.{is_word_byte, is_blank, is_binary_digit, begins, IsRun}
use Rattle.fidl_span.specs.Gaps.{BeginsNoGap}
use Rattle.fidl_span.specs.Names.{last_byte, is_identifier, are_digits, is_prefixed, is_number}
use Rattle.fidl_span.specs.Strings.{IsString}
use Rattle.fidl_span.specs.Symbols.{symbols, symbol_of}
use Rattle.fidl_span.specs.Words.{IsWord}

-- the kind that a word can have which begins with b, where `rest` follows b
abbrev pub kind_behind : ℕ → List ℕ → Option WordKind
kind_behind b rest =
    cond (is_word_byte b) (Some (cond (is_ascii_digit b) Number Identifier))
    (cond (b == 34) (Some String)
    (cond (b == 45 && begins (λ c. c == 62) rest) (Some Arrow) (symbol_of b)))

abbrev pub kind_at : List ℕ → Option WordKind
kind_at [] = None
kind_at (b ∷ rest) = kind_behind b rest

-- a digit is no letter
pub digit_no_letter : (b : ℕ) → IsTrue (is_ascii_alphabetic b) → IsFalse (is_ascii_digit b)
digit_no_letter b h = grind (arith, nat_tests)

-- a run of word bytes is a number or a name by its first byte
pub run_kind : (b : ℕ) (rest : List ℕ) (t : Bool) → IsTrue (is_word_byte b) → is_ascii_digit b ≡ t → kind_behind b rest ≡ Some (cond t Number Identifier)
run_kind b rest t h d = cond-true (is_word_byte b) _ _ h ∙ ap (λ x. Some (cond x Number Identifier)) d

pub identifier_begins : (text : List ℕ) → IsTrue (is_identifier text) → IsTrue (begins is_ascii_alphabetic text)
unfolding is_identifier
identifier_begins text h = (and_parts (begins is_ascii_alphabetic text) (not (last_byte text == 95)) h).0

digits_begin : (text : List ℕ) → IsTrue (are_digits is_ascii_digit text) → IsTrue (begins is_ascii_digit text)
digits_begin [] h = absurd (true≢false (sym h))
digits_begin (b ∷ text) h = (and_parts (is_ascii_digit b) (list_all is_ascii_digit text) (and_parts (not (length (b ∷ text) == 0)) (list_all is_ascii_digit (b ∷ text)) h).1).0

prefixed_begins : (lower upper : ℕ) (digit : ℕ → Bool) (text : List ℕ) → IsTrue (is_prefixed lower upper digit text) → IsTrue (begins is_ascii_digit text)
prefixed_begins lower upper digit [] h = absurd (true≢false (sym h))
prefixed_begins lower upper digit (b ∷ text) h =
    let letter : Bool = slice_index (b ∷ text) 1 == lower || slice_index (b ∷ text) 1 == upper in
    let parts = and_parts ((b == 48) && letter) (are_digits digit (drop 2 (b ∷ text))) h in
    let zero_first = eqb-true b 48 (and_parts (b == 48) letter parts.0).0 in
    let P : ℕ → Type 0 = λ x. IsTrue (is_ascii_digit x) in
    subst P (sym zero_first) refl

pub number_begins : (text : List ℕ) → IsTrue (is_number text) → IsTrue (begins is_ascii_digit text)
unfolding is_number
number_begins text h =
    let decimal : Bool = are_digits is_ascii_digit text in
    let hexadecimal : Bool = is_prefixed 120 88 is_ascii_hexdigit text in
    let binary : Bool = is_prefixed 98 66 is_binary_digit text in
    ⊎_elim
    (λ first_two. ⊎_elim (digits_begin text) (prefixed_begins 120 88 is_ascii_hexdigit text) (or_cases decimal hexadecimal first_two))
    (prefixed_begins 98 66 is_binary_digit text)
    (or_cases (decimal || hexadecimal) binary h)

-- a name's kind
identifier_kind : (text rest : List ℕ) → IsRun is_word_byte text rest → IsTrue (begins is_ascii_alphabetic text) → kind_at (text ++ rest) ≡ Some Identifier
identifier_kind [] rest run h = absurd (true≢false (sym h))
identifier_kind (b ∷ text) rest run h = run_kind b (text ++ rest) false (and_parts (is_word_byte b) (list_all is_word_byte text) run.passes).0 (digit_no_letter b h)

-- a number's kind
pub number_kind : (text rest : List ℕ) → IsRun is_word_byte text rest → IsTrue (begins is_ascii_digit text) → kind_at (text ++ rest) ≡ Some Number
number_kind [] rest run h = absurd (true≢false (sym h))
number_kind (b ∷ text) rest run h = run_kind b (text ++ rest) true (and_parts (is_word_byte b) (list_all is_word_byte text) run.passes).0 h

pub quote_kind : (rest : List ℕ) → kind_at (34 ∷ rest) ≡ Some String
unfolding is_word_byte
quote_kind rest = refl

minus_kind : (rest : List ℕ) → IsFalse (begins (λ b. b == 62) rest) → kind_at (45 ∷ rest) ≡ Some Minus
unfolding is_word_byte symbol_of
minus_kind rest h = ap (λ t. cond t (Some Arrow) (Some Minus)) h

-- a string literal's first byte
pub string_first : (text : List ℕ) → IsString text → (more : List ℕ) × (text ≡ 34 ∷ more)
string_first text (front, (pieces, h, e), f) = (concat pieces ++ 34 ∷ [], f ∙ ap (λ l. l ++ 34 ∷ []) e)

-- each word has the kind that its first two bytes show
pub word_kind : (k : WordKind) (text rest : List ℕ) → IsWord k text rest → kind_at (text ++ rest) ≡ Some k
unfolding is_word_byte symbol_of
word_kind Identifier text rest h = identifier_kind text rest h.0 (identifier_begins text h.1)
word_kind Number text rest h = number_kind text rest h.0 (number_begins text h.1)
word_kind String text rest h = ap (λ l. kind_at (l ++ rest)) (string_first text h).1 ∙ quote_kind ((string_first text h).0 ++ rest)
word_kind Minus text rest h = ap (λ l. kind_at (l ++ rest)) h.0 ∙ minus_kind rest h.1
word_kind k text rest h = ap (λ l. kind_at (l ++ rest)) h

-- a word has a byte
pub word_not_empty : (k : WordKind) (rest : List ℕ) → ¬ IsWord k [] rest
unfolding is_identifier is_number
word_not_empty Identifier rest h = true≢false (sym h.1)
word_not_empty Number rest h = true≢false (sym h.1)
word_not_empty String rest h = let e : ◌≡◌ {A = List ℕ} [] (34 ∷ (string_first [] h).0) = (string_first [] h).1 in cc
word_not_empty Minus rest h = let e : ◌≡◌ {A = List ℕ} [] (45 ∷ []) = h.0 in cc
word_not_empty k rest h = cc

-- no kind shows in a blank or a slash
no_kind_blank : (b : ℕ) (rest : List ℕ) (k : WordKind) → kind_behind b rest ≡ Some k → IsTrue (is_blank b) → ⊥
unfolding is_word_byte is_blank symbol_of
no_kind_blank b rest k h blank =
    let P : ℕ → Type 0 = λ x. kind_behind x rest ≡ Some k in
    let at : (c : ℕ) → kind_behind c rest ≡ None → b == c ≡ true → ⊥ = λ c none e. let s : kind_behind c rest ≡ Some k = subst P (eqb-true b c e) h in cc in
    ⊎_elim
    (λ three. ⊎_elim (λ two. ⊎_elim (at 32 refl) (at 9 refl) (or_cases (b == 32) (b == 9) two)) (at 13 refl) (or_cases (b == 32 || b == 9) (b == 13) three))
    (at 10 refl)
    (or_cases (b == 32 || b == 9 || b == 13) (b == 10) blank)

no_kind_slash : (b : ℕ) (rest : List ℕ) (k : WordKind) → kind_behind b rest ≡ Some k → b ≡ 47 → ⊥
unfolding is_word_byte symbol_of
no_kind_slash b rest k h e =
    let P : ℕ → Type 0 = λ x. kind_behind x rest ≡ Some k in
    let s : None ≡ Some k = subst P e h in
    cc

-- where a kind shows, no gap begins
pub kind_begins_no_gap : (xs : List ℕ) (k : WordKind) → kind_at xs ≡ Some k → BeginsNoGap xs
kind_begins_no_gap [] k h = tt
kind_begins_no_gap (b ∷ rest) k h = (false_from_ne_true (is_blank b) (no_kind_blank b rest k h), λ e. absurd (no_kind_slash b rest k h e))

minus_is_symbol : (b : ℕ) → b ≡ 45 → symbol_of b ≡ Some Minus
unfolding symbol_of
minus_is_symbol b e = ap symbol_of e

-- a byte that is no word byte, no quote and no symbol begins no word
pub no_word_begins : (b : ℕ) → IsFalse (is_word_byte b) → b ≢ 34 → symbol_of b ≡ None → (k : WordKind) (text rest : List ℕ) → ¬ IsWord k (b ∷ text) rest
no_word_begins b no_word no_quote no_symbol k text rest h =
    let shows = word_kind k (b ∷ text) rest h in
    let no_minus : b == 45 ≡ false = ne_eqb b 45 (λ e. let m = minus_is_symbol b e in cc) in
    let first = cond-false (is_word_byte b) (Some (cond (is_ascii_digit b) Number Identifier)) (cond (b == 34) (Some String) (cond (b == 45 && begins (λ c. c == 62) (text ++ rest)) (Some Arrow) (symbol_of b))) no_word in
    let second = cond-false (b == 34) (Some String) (cond (b == 45 && begins (λ c. c == 62) (text ++ rest)) (Some Arrow) (symbol_of b)) (ne_eqb b 34 no_quote) in
    let third = cond-false (b == 45 && begins (λ c. c == 62) (text ++ rest)) (Some Arrow) (symbol_of b) (and_left (b == 45) (begins (λ c. c == 62) (text ++ rest)) no_minus) in
    let none : Some k ≡ None = sym shows ∙ first ∙ second ∙ third ∙ no_symbol in
    cc

-- an entry of the table is a word, unless it is `-` before `>`
abbrev IsEntry : List ℕ → ℕ × WordKind → Type 0
IsEntry rest e = (e.0 ≡ 45 → IsFalse (begins (λ b. b == 62) rest)) → IsWord e.1 (e.0 ∷ []) rest

entries : (rest : List ℕ) → AllByRecursion (IsEntry rest) symbols
entries rest = (λ _. refl, (λ _. refl, (λ _. refl, (λ _. refl, (λ _. refl, (λ _. refl, (λ _. refl, (λ _. refl, (λ _. refl, (λ _. refl, (λ _. refl, (λ _. refl, (λ _. refl, (λ h. (refl, h refl), tt))))))))))))))

found : (P : ℕ × WordKind → Type 0) (table : List (ℕ × WordKind)) (b : ℕ) (k : WordKind) → AllByRecursion P table → lookup (λ c. c == b) table ≡ Some k → (e : ℕ × WordKind) × (e.0 ≡ b) × (e.1 ≡ k) × P e
found P [] b k all h = let none : None ≡ Some k = h in absurd (cc)
found P (e ∷ es) b k all h =
    ⊎_elim
    (λ hit. let s : Some e.1 ≡ Some k = sym (cond-true (e.0 == b) (Some e.1) (lookup (λ c. c == b) es) hit) ∙ h in (e, eqb-true e.0 b hit, cc, all.0))
    (λ miss. found P es b k all.1 (sym (cond-false (e.0 == b) (Some e.1) (lookup (λ c. c == b) es) miss) ∙ h))
    (cases_Bool (e.0 == b))

-- a symbol of one byte is a word, unless it is `-` before `>`
pub symbol_is_word : (b : ℕ) (k : WordKind) (rest : List ℕ) → symbol_of b ≡ Some k → (b ≡ 45 → IsFalse (begins (λ c. c == 62) rest)) → IsWord k (b ∷ []) rest
unfolding symbol_of
symbol_is_word b k rest h no_arrow =
    let f = found (IsEntry rest) symbols b k (entries rest) h in
    let P : ℕ → Type 0 = λ c. (c ≡ 45 → IsFalse (begins (λ d. d == 62) rest)) → IsWord f.0.1 (c ∷ []) rest in
    let Q : WordKind → Type 0 = λ l. IsWord l (b ∷ []) rest in
    subst Q f.2 (subst P f.1 f.3 no_arrow)

-- a byte behind which the second one passes
second_byte : (xs : List ℕ) → IsTrue (begins (λ c. c == 62) xs) → (rest : List ℕ) × (xs ≡ 62 ∷ rest)
second_byte [] h = absurd (true≢false (sym h))
second_byte (b ∷ xs) h = (xs, ap (λ c. c ∷ xs) (eqb-true b 62 h))

-- behind a `-` that begins no `->` stands no `>`
no_arrow : (b : ℕ) (xs tail : List ℕ) → xs ≡ b ∷ tail → IsFalse (starts_with nat_eq xs (45 ∷ 62 ∷ [])) → b ≡ 45 → IsFalse (begins (λ c. c == 62) tail)
no_arrow b xs tail e none minus =
    false_from_ne_true (begins (λ c. c == 62) tail) (λ h.
    let s = second_byte tail h in
    let whole : xs ≡ 45 ∷ 62 ∷ s.0 = e ∙ ap (λ c. c ∷ tail) minus ∙ ap (λ l. 45 ∷ l) s.1 in
    both_ways (starts_with nat_eq xs (45 ∷ 62 ∷ [])) none (ap (λ l. starts_with nat_eq l (45 ∷ 62 ∷ [])) whole ∙ front_read (45 ∷ 62 ∷ []) s.0))

-- a symbol of one byte at a place where no `->` stands
pub symbol_stands : (src : List ℕ) (at : ℕ) (k : WordKind) → at < length src → IsFalse (starts_with nat_eq (drop at src) (45 ∷ 62 ∷ [])) → symbol_of (get_or src at 0) ≡ Some k → IsWord k (slice_range src at (at + 1)) (drop (at + 1) src)
symbol_stands src at k within none h =
    let P : List ℕ → Type 0 = λ t. IsWord k t (drop (at + 1) src) in
    subst P (sym (one_byte src at within))
    (symbol_is_word (get_or src at 0) k (drop (at + 1) src) h (no_arrow (get_or src at 0) (drop at src) (drop (at + 1) src) (drop_more src at 0 within) none))

-- an arrow
pub arrow_stands : (src : List ℕ) (at : ℕ) → IsTrue (starts_with nat_eq (drop at src) (45 ∷ 62 ∷ [])) → slice_range src at (at + 2) ≡ 45 ∷ 62 ∷ []
arrow_stands src at h =
    let found = front_stands (45 ∷ 62 ∷ []) (drop at src) h in
    part_found src (45 ∷ 62 ∷ []) found.0 at (at + 2) found.1 refl
