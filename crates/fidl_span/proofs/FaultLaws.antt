-- A source at which a fault stands has no words.
use Rattle.std.proofs.Common.{get_or, None, ◌≡◌, ℕ, ◌<◌, ◌==◌, ◌&&◌, not, false, List, [], ◌∷◌, ◌++◌, length, drop, Some, IsTrue, IsFalse, sym, refl, subst, ap, ◌∙◌, ⊎_elim, arith, eqb-true}
use Rattle.std.proofs.lemmas.Bool.{both_ways, and_parts, or_cases, true≢false, not-true}
use Rattle.std.proofs.lemmas.List.{drop_all, drop_more}
use Rattle.fidl_span.specs.Gaps.{BeginsNoGap}
use Rattle.fidl_span.specs.Symbols.{symbol_of}
use Rattle.std.specs.Char.{is_ascii_alphabetic, is_ascii_digit}
use Rattle.std.specs.List.{list_all, concat}
use Rattle.fidl_span.specs.declared.words.Word.{Word}
use Rattle.fidl_span.specs.declared.words.WordKind.{WordKind}
use Rattle.fidl_span.specs.declared.words.WordKind.TheVariants.{Identifier, Number, String}
use Rattle.fidl_span.specs.declared.faults.LexFault.{LexFault}
use Rattle.fidl_span.specs.declared.faults.LexFault.TheVariants.{NotUtf8, BadByte, BadIdentifier, OpenString, BadEscape, BadNumber, Memory}
use Rattle.fidl_span.specs.Bytes.{is_word_byte, begins, EndsLine}
use Rattle.fidl_span.specs.Names.{last_byte, is_identifier, is_bad_identifier, is_number}
use Rattle.fidl_span.specs.Strings.{IsOpenString, BeginsNoPiece}
use Rattle.fidl_span.specs.Words.{IsWord, AreWordsBetween, Words, rest_behind}
use Rattle.fidl_span.specs.Faults.{BeginsNothing, IsBadIdentifier, IsBadNumber, IsFaultAt, StandsBehindWords, Refutes, HasNoWords}
use Rattle.fidl_span.proofs.Slices.{cut}
use Rattle.fidl_span.proofs.RunLaws.{IsRun-unique}
use Rattle.fidl_span.proofs.PieceLaws.{no_string, no_piece_at_line_end}
use Rattle.fidl_span.proofs.KindLaws.{kind_at, run_kind, number_kind, quote_kind, word_kind, word_not_empty, kind_begins_no_gap, digit_no_letter, no_word_begins}
use Rattle.fidl_span.proofs.WordLaws.{IsStuck, BeginsNoWord, end_is_stuck, words_agree}

-- something stands here, and neither a gap nor a word
record IsFaulty (xs : List ℕ) : Type 0 where
  stuck : IsStuck xs
  something : xs ≡ [] → ⊥

-- where a kind shows, something stands
kind_is_something : (xs : List ℕ) (k : WordKind) → kind_at xs ≡ Some k → xs ≡ [] → ⊥
kind_is_something xs k h e = let none : kind_at [] ≡ Some k = ap kind_at (sym e) ∙ h in cc

-- nothing begins with a byte, so no word stands there
nothing_begins : (xs : List ℕ) → BeginsNothing xs → IsFaulty xs
nothing_begins [] h = absurd h
nothing_begins (b ∷ rest) h = record { stuck = record { no_gap = h.1; no_word = none }; something = λ e. (cc) }
  where
    none : BeginsNoWord (b ∷ rest)
    none k [] behind e w = word_not_empty k behind w
    none k (c ∷ text) behind e w =
        let P : ℕ → Type 0 = λ d. IsWord k (d ∷ text) behind in
        let heads : c ≡ b = cc in
        h.2 k text behind (subst P heads w)

-- a word that stands where a kind shows is of that kind
only_kind : (xs : List ℕ) (k l : WordKind) (text rest : List ℕ) → kind_at xs ≡ Some k → xs ≡ text ++ rest → IsWord l text rest → l ≡ k
only_kind xs k l text rest shows e h =
    let both : Some l ≡ Some k = sym (word_kind l text rest h) ∙ ap kind_at (sym e) ∙ shows in
    cc

-- the first byte of a bad identifier is `_` or a letter, and no digit
bad_identifier_no_digit : (b : ℕ) (text : List ℕ) → IsTrue (is_bad_identifier (b ∷ text)) → IsFalse (is_ascii_digit b)
unfolding is_bad_identifier
bad_identifier_no_digit b text h =
    let P : ℕ → Type 0 = λ c. IsFalse (is_ascii_digit c) in
    ⊎_elim
    (λ underscore. subst P (sym (eqb-true b 95 underscore)) refl)
    (λ letter. digit_no_letter b (and_parts (is_ascii_alphabetic b) (last_byte (b ∷ text) == 95) letter).0)
    (or_cases (b == 95) (is_ascii_alphabetic b && last_byte (b ∷ text) == 95) h)

bad_identifier_kind : (text rest : List ℕ) → IsBadIdentifier text rest → kind_at (text ++ rest) ≡ Some Identifier
unfolding is_bad_identifier
bad_identifier_kind [] rest h = absurd (true≢false (sym h.bad))
bad_identifier_kind (b ∷ text) rest h =
    run_kind b (text ++ rest) false (and_parts (is_word_byte b) (list_all is_word_byte text) h.run.passes).0 (bad_identifier_no_digit b text h.bad)

underscore_no_letter : (text : List ℕ) → IsTrue (begins (λ b. b == 95) text) → IsTrue (begins is_ascii_alphabetic text) → ⊥
underscore_no_letter [] h g = true≢false (sym h)
underscore_no_letter (b ∷ text) h g =
    let P : ℕ → Type 0 = λ c. IsTrue (is_ascii_alphabetic c) in
    true≢false (sym (subst P (eqb-true b 95 h) g))

-- a name is good or bad, and not both
not_both : (text : List ℕ) → IsTrue (is_identifier text) → IsTrue (is_bad_identifier text) → ⊥
unfolding is_identifier is_bad_identifier
not_both text good bad =
    let parts = and_parts (begins is_ascii_alphabetic text) (not (last_byte text == 95)) good in
    ⊎_elim
    (λ underscore. underscore_no_letter text underscore parts.0)
    (λ letter. both_ways (last_byte text == 95) (not-true (last_byte text == 95) parts.1) (and_parts (begins is_ascii_alphabetic text) (last_byte text == 95) letter).1)
    (or_cases (begins (λ b. b == 95) text) (begins is_ascii_alphabetic text && last_byte text == 95) bad)

bad_identifier_faulty : (xs text rest : List ℕ) → xs ≡ text ++ rest → IsBadIdentifier text rest → IsFaulty xs
bad_identifier_faulty xs text rest e h =
    let shows = ap kind_at e ∙ bad_identifier_kind text rest h in
    record {
      something = kind_is_something xs Identifier shows;
      stuck = record {
        no_gap = kind_begins_no_gap xs Identifier shows;
        no_word = λ k t r f w.
            let P : WordKind → Type 0 = λ l. IsWord l t r in
            let name = subst P (only_kind xs Identifier k t r shows f w) w in
            let Q : List ℕ → Type 0 = λ s. IsTrue (is_identifier s) in
            not_both text (subst Q (sym (IsRun-unique is_word_byte text t rest r h.run name.0 (sym e ∙ f)).0) name.1) h.bad;
      };
    }

bad_number_faulty : (xs text rest : List ℕ) → xs ≡ text ++ rest → IsBadNumber text rest → IsFaulty xs
bad_number_faulty xs text rest e h =
    let shows = ap kind_at e ∙ number_kind text rest h.run h.digit in
    record {
      something = kind_is_something xs Number shows;
      stuck = record {
        no_gap = kind_begins_no_gap xs Number shows;
        no_word = λ k t r f w.
            let P : WordKind → Type 0 = λ l. IsWord l t r in
            let number = subst P (only_kind xs Number k t r shows f w) w in
            let Q : List ℕ → Type 0 = λ s. IsTrue (is_number s) in
            both_ways (is_number text) h.bad (subst Q (sym (IsRun-unique is_word_byte text t rest r h.run number.0 (sym e ∙ f)).0) number.1);
      };
    }

-- an open string behind which no piece and no quote stands
open_string_faulty : (xs text rest : List ℕ) → xs ≡ text ++ rest → IsOpenString text → BeginsNoPiece rest → IsFalse (begins (λ b. b == 34) rest) → IsFaulty xs
open_string_faulty xs text rest e (pieces, h, f) no_piece no_quote =
    let shows = ap kind_at (e ∙ ap (λ l. l ++ rest) f) ∙ quote_kind (concat pieces ++ rest) in
    record {
      something = kind_is_something xs String shows;
      stuck = record {
        no_gap = kind_begins_no_gap xs String shows;
        no_word = λ k t r g w.
            let P : WordKind → Type 0 = λ l. IsWord l t r in
            let literal = subst P (only_kind xs String k t r shows g w) w in
            no_string text t rest r (pieces, h, f) no_piece no_quote literal (sym e ∙ g);
      };
    }

line_end_no_quote : (xs : List ℕ) → EndsLine xs → IsFalse (begins (λ b. b == 34) xs)
line_end_no_quote [] h = refl
line_end_no_quote (b ∷ xs) h = ap (λ c. c == 34) h

backslash_no_quote : (xs : List ℕ) → IsTrue (begins (λ b. b == 92) xs) → IsFalse (begins (λ b. b == 34) xs)
backslash_no_quote [] h = absurd (true≢false (sym h))
backslash_no_quote (b ∷ xs) h = ap (λ c. c == 34) (eqb-true b 92 h)

-- where a fault stands, no gap and no word does
fault_is_faulty : (src : List ℕ) (place : ℕ) (fault : LexFault) → IsFaultAt src place fault → IsFaulty (drop place src)
fault_is_faulty src place (NotUtf8 s) h = absurd h
fault_is_faulty src place Memory h = absurd h
fault_is_faulty src place (BadByte s) h =
    let P : ℕ → Type 0 = λ n. IsFaulty (drop n src) in
    subst P h.0 (nothing_begins (drop s.from src) h.2.begins_nothing)
fault_is_faulty src place (BadIdentifier s) h =
    let P : ℕ → Type 0 = λ n. IsFaulty (drop n src) in
    subst P h.0 (bad_identifier_faulty _ _ _ (cut src s.from s.to h.1.ordered) h.2)
fault_is_faulty src place (BadNumber s) h =
    let P : ℕ → Type 0 = λ n. IsFaulty (drop n src) in
    subst P h.0 (bad_number_faulty _ _ _ (cut src s.from s.to h.1.ordered) h.2)
fault_is_faulty src place (OpenString s) h =
    let P : ℕ → Type 0 = λ n. IsFaulty (drop n src) in
    subst P h.0 (open_string_faulty _ _ _ (cut src s.from s.to h.1.ordered) h.2.front (no_piece_at_line_end (rest_behind src s) h.2.line_end) (line_end_no_quote (rest_behind src s) h.2.line_end))
fault_is_faulty src place (BadEscape s) h =
    open_string_faulty _ _ _ (cut src place s.from h.1.behind) h.1.front h.1.no_escape (backslash_no_quote (drop s.from src) h.1.backslash)

behind_words : (src : List ℕ) (fault : LexFault) → StandsBehindWords src fault → (words : List Word) → ¬ Words src words
behind_words src fault h words w =
    let faulty = fault_is_faulty src h.place fault h.at_fault in
    let ends = words_agree src 0 h.place (length src) h.words words h.before faulty.stuck w.1 (end_is_stuck src) in
    faulty.something (ends.1 ∙ drop_all (length src) src (omega arith))

-- a refused source has no words
pub refuted : (src : List ℕ) (fault : LexFault) → Refutes src fault → HasNoWords src fault
refuted src (NotUtf8 s) h = λ words w. h.invalid w.0
refuted src Memory h = tt
refuted src fault h = behind_words src fault h

-- a byte with which nothing begins
pub nothing_begins_at : (src : List ℕ) (at : ℕ) → at < length src → BeginsNoGap (drop at src) → IsFalse (is_word_byte (get_or src at 0)) → (get_or src at 0 ≡ 34 → ⊥) → symbol_of (get_or src at 0) ≡ None → BeginsNothing (drop at src)
nothing_begins_at src at within no_gap no_word_byte no_quote no_symbol =
    let e = drop_more src at 0 within in
    subst BeginsNothing (sym e) (no_word_byte, subst BeginsNoGap e no_gap, no_word_begins (get_or src at 0) no_word_byte no_quote no_symbol)

-- behind some words the fault stands
pub fault_refutes : (src : List ℕ) (words : List Word) (place : ℕ) (fault : LexFault) → AreWordsBetween src 0 words place → IsFaultAt src place fault → Refutes src fault
fault_refutes src words place (NotUtf8 s) before h = absurd h
fault_refutes src words place Memory before h = absurd h
fault_refutes src words place fault before h = record { words = words; place = place; before = before; at_fault = h }
