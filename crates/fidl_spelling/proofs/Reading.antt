-- Texts that are read as what is spelled: words of the text, and then the words of whatever follows.
use Rattle.std.proofs.Common.{rules, arith, ◌≡◌, ◌<◌, ℕ, List, [], ◌∷◌, ◌++◌, refl, sym, ap, subst, Bool, false, true, ◌∙◌}
use Rattle.std.proofs.lemmas.List.{append_assoc}
use Rattle.std.proofs.lemmas.Str.{encode_ascii}
use Rattle.std.proofs.Math.Utf8.{low_scalar}
use Rattle.std.specs.Prelude.{IsUtf8}
use Rattle.std.specs.Str.{encode_utf8_all}
use Rattle.std.specs.List.{list_all}
use Rattle.fidl_wire.specs.Text.{comma_if}
use Rattle.fidl_spelling.proofs.WordLaws.{and_left, and_right}
use Rattle.fidl_spelling.specs.Words.{Words, IsRun, BeginsNoRun, is_word_byte, is_symbol, symbol, run, negative, quoted, IsQuoted, AreWords, no_words, blank, word}
use Rattle.fidl_spelling.specs.Spells.{Nothing, One, ◌⨾◌, CommaIf}

-- an ASCII byte before a text that is UTF-8
pub utf8_cons : (b : ℕ) (rest : List ℕ) → b < 128 → IsUtf8 rest → IsUtf8 (b ∷ rest)
utf8_cons b rest h u = (b ∷ u.0, (rw (low_scalar b (omega (arith, h)), u.1.0) refl, ap (λ l. l ++ encode_utf8_all u.0) (encode_ascii b h) ∙ ap (λ l. b ∷ l) u.1.1))

word_ascii : (b : ℕ) → is_word_byte b ≡ true → b < 128
word_ascii b h = search (rules, h)

symbol_ascii : (b : ℕ) → is_symbol b ≡ true → b < 128
symbol_ascii b h = search (rules, h)

pub utf8_run : (w rest : List ℕ) → list_all is_word_byte w ≡ true → IsUtf8 rest → IsUtf8 (w ++ rest)
utf8_run [] rest h u = u
utf8_run (b ∷ w) rest h u = utf8_cons b (w ++ rest) (word_ascii b (and_left (is_word_byte b) (list_all is_word_byte w) h)) (utf8_run w rest (and_right (is_word_byte b) (list_all is_word_byte w) h) u)

-- whatever follows
abbrev pub Closed : (Words → Words → Type 0) → List ℕ → Type 0
Closed P text = (rest : List ℕ) (ws : Words) → IsUtf8 rest → AreWords rest ws → (vs : Words) × AreWords (text ++ rest) vs × P vs ws × IsUtf8 (text ++ rest)

-- where what follows begins with no run
abbrev pub Reads : (Words → Words → Type 0) → List ℕ → Type 0
Reads P text = (rest : List ℕ) (ws : Words) → BeginsNoRun rest → IsUtf8 rest → AreWords rest ws → (vs : Words) × AreWords (text ++ rest) vs × P vs ws × IsUtf8 (text ++ rest)

-- the text begins with no run, or is empty
abbrev pub Follows : List ℕ → Type 0
Follows text = (rest : List ℕ) → BeginsNoRun rest → BeginsNoRun (text ++ rest)

-- it isn't empty either
abbrev pub Parts : List ℕ → Type 0
Parts text = (rest : List ℕ) → BeginsNoRun (text ++ rest)

pub closed_as : (P : Words → Words → Type 0) (a b : List ℕ) → a ≡ b → Closed P a → Closed P b
closed_as P a b e h = subst (λ t. Closed P t) e h

pub reads_as : (P : Words → Words → Type 0) (a b : List ℕ) → a ≡ b → Reads P a → Reads P b
reads_as P a b e h = subst (λ t. Reads P t) e h

pub closed_reads : (P : Words → Words → Type 0) (a : List ℕ) → Closed P a → Reads P a
closed_reads P a h rest ws f u w = h rest ws u w

module _ (P Q : Words → Words → Type 0) (a b : List ℕ) where
  pub then_closed : Closed P a → Reads Q b → Reads (P ⨾ Q) (a ++ b)
  then_closed h k rest ws f u w =
      let q = k rest ws f u w in
      let p = h (b ++ rest) q.0 q.3 q.1 in
      (p.0, subst (λ t. AreWords t p.0) (sym (append_assoc a b rest)) p.1, (q.0, p.2, q.2), subst IsUtf8 (sym (append_assoc a b rest)) p.3)

  pub closed_both : Closed P a → Closed Q b → Closed (P ⨾ Q) (a ++ b)
  closed_both h k rest ws u w =
      let q = k rest ws u w in
      let p = h (b ++ rest) q.0 q.3 q.1 in
      (p.0, subst (λ t. AreWords t p.0) (sym (append_assoc a b rest)) p.1, (q.0, p.2, q.2), subst IsUtf8 (sym (append_assoc a b rest)) p.3)

  pub then_open : Reads P a → Follows b → Reads Q b → Reads (P ⨾ Q) (a ++ b)
  then_open h g k rest ws f u w =
      let q = k rest ws f u w in
      let p = h (b ++ rest) q.0 (g rest f) q.3 q.1 in
      (p.0, subst (λ t. AreWords t p.0) (sym (append_assoc a b rest)) p.1, (q.0, p.2, q.2), subst IsUtf8 (sym (append_assoc a b rest)) p.3)

  pub open_closed : Reads P a → Parts b → Closed Q b → Closed (P ⨾ Q) (a ++ b)
  open_closed h g k rest ws u w =
      let q = k rest ws u w in
      let p = h (b ++ rest) q.0 (g rest) q.3 q.1 in
      (p.0, subst (λ t. AreWords t p.0) (sym (append_assoc a b rest)) p.1, (q.0, p.2, q.2), subst IsUtf8 (sym (append_assoc a b rest)) p.3)

-- a symbol, and one before a blank
pub symbol_closed : (b : ℕ) → is_symbol b ≡ true → Closed (λ ws rest. ws ≡ (b ∷ []) ∷ rest) (b ∷ [])
symbol_closed b h rest ws u w = ((b ∷ []) ∷ ws, word {w = b ∷ []} (symbol h) w, refl, utf8_cons b rest (symbol_ascii b h) u)

pub symbol_blank : (b : ℕ) → is_symbol b ≡ true → Closed (λ ws rest. ws ≡ (b ∷ []) ∷ rest) (b ∷ 32 ∷ [])
symbol_blank b h rest ws u w = ((b ∷ []) ∷ ws, word {w = b ∷ []} (symbol h) (blank refl w), refl, utf8_cons b (32 ∷ rest) (symbol_ascii b h) (utf8_cons 32 rest (omega arith) u))

-- a blank before a symbol
pub blank_symbol : (b : ℕ) → is_symbol b ≡ true → Closed (λ ws rest. ws ≡ (b ∷ []) ∷ rest) (32 ∷ b ∷ [])
blank_symbol b h rest ws u w = ((b ∷ []) ∷ ws, blank refl (word {w = b ∷ []} (symbol h) w), refl, utf8_cons 32 (b ∷ rest) (omega arith) (utf8_cons b rest (symbol_ascii b h) u))

-- a run of which P holds
pub one_run : (P : List ℕ → Type 0) (w : List ℕ) → P w → IsRun w → Reads (One P) w
one_run P w p r rest ws f u k = (w ∷ ws, word (run r f) k, (w, p, refl), utf8_run w rest r.1 u)

pub one_negative : (P : List ℕ → Type 0) (w : List ℕ) → P (45 ∷ w) → IsRun w → Reads (One P) (45 ∷ w)
one_negative P w p r rest ws f u k = ((45 ∷ w) ∷ ws, word {w = 45 ∷ w} (negative r f) k, ((45 ∷ w), p, refl), utf8_cons 45 (w ++ rest) (omega arith) (utf8_run w rest r.1 u))

pub one_quoted : (P : List ℕ → Type 0) (w bytes : List ℕ) → P w → IsQuoted w bytes → ((rest : List ℕ) → IsUtf8 rest → IsUtf8 (w ++ rest)) → Closed (One P) w
one_quoted P w bytes p q all rest ws u k = (w ∷ ws, word (quoted q) k, (w, p, refl), all rest u)

-- this run
pub the_run : (w : List ℕ) → IsRun w → Reads (λ ws rest. ws ≡ w ∷ rest) w
the_run w r rest ws f u k = (w ∷ ws, word (run r f) k, refl, utf8_run w rest r.1 u)

pub the_run_blank : (w : List ℕ) → IsRun w → Closed (λ ws rest. ws ≡ w ∷ rest) (w ++ 32 ∷ [])
the_run_blank w r rest ws u k = (w ∷ ws, subst (λ t. AreWords t (w ∷ ws)) (sym (append_assoc w (32 ∷ []) rest)) (word {rest = 32 ∷ rest} (run r refl) (blank refl k)), refl, subst IsUtf8 (sym (append_assoc w (32 ∷ []) rest)) (utf8_run w (32 ∷ rest) r.1 (utf8_cons 32 rest (omega arith) u)))

pub nothing_closed : Closed Nothing []
nothing_closed rest ws u k = (ws, k, refl, u)

pub comma_closed : (later : Bool) → Closed (CommaIf later) (comma_if later)
comma_closed true = symbol_blank 44 refl
comma_closed false = nothing_closed

pub append-nil : (a : List ℕ) → a ++ [] ≡ a
append-nil [] = refl
append-nil (x ∷ a) = ap (λ b. x ∷ b) (append-nil a)

-- a whole text
pub whole : (P : Words → Words → Type 0) (a : List ℕ) → Reads P a → IsUtf8 a × ((vs : Words) × AreWords a vs × P vs [])
whole P a h = let x = h [] [] tt ([], (refl, refl)) no_words in (subst IsUtf8 (append-nil a) x.3, (x.0, subst (λ t. AreWords t x.0) (append-nil a) x.1, x.2))
