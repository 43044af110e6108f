-- The lines of a text from a place on.
use Rattle.std.proofs.Common.{◌≡◌, ◌≢◌, ◌<◌, ◌≤◌, ◌+◌, ◌-◌, ℕ, zero, suc, true, false, not, cond, if◌then◌else◌, List, [], ◌∷◌, ◌++◌, length, take, drop, refl, sym, ap, subst, ◌∙◌, arith, append_assoc, add-one}
use Rattle.std.specs.Prelude.{slice_index}
use Rattle.std.specs.List.{filter}
use Rattle.std.proofs.lemmas.List.{take_all, length-drop, drop-drop}
use Rattle.std.proofs.lemmas.Bool.{ne_eqb, not_from_true, not_from_false, cond-true, cond-false}
use Rattle.fidl_script.specs.Phrases.{HasNo}
use Rattle.fidl_script.specs.Lines.{Line, lines_of, onto_first, numbered, is_skipped, said_from}

-- a byte that ends no line
inside : (b : ℕ) (bs : List ℕ) → b ≢ 10 → lines_of (b ∷ bs) ≡ onto_first b (lines_of bs)
inside b bs other = ap (λ t. if t then [] ∷ lines_of bs else onto_first b (lines_of bs)) (ne_eqb b 10 other)

-- the first line ends at the first line feed, or with the text
pub first_line : (text : List ℕ) (end : ℕ) → 0 < length text → end ≤ length text → HasNo 10 (take end text) → (end < length text → slice_index text end ≡ 10) → lines_of text ≡ take end text ∷ lines_of (drop (suc end) text)
first_line [] end some within before found = absurd (omega (arith, some))
first_line (b ∷ bs) zero some within before found = let e : b ≡ 10 = found (omega arith) in subst (λ n. lines_of (n ∷ bs) ≡ [] ∷ lines_of bs) (sym e) refl
first_line (b ∷ []) (suc zero) some within before found = inside b [] before.0
first_line (b ∷ []) (suc (suc n)) some within before found = absurd (omega (arith, within))
first_line (b ∷ c ∷ cs) (suc end) some within before found =
    inside b (c ∷ cs) before.0
    ∙ ap (onto_first b) (first_line (c ∷ cs) end (omega arith) (omega (arith, within)) before.1 (λ less. found (omega (arith, less))))

-- the lines that are said from a place on, by the first of them
pub said_cut : (n : ℕ) (text front after : List ℕ) → lines_of text ≡ front ∷ lines_of after
    → said_from n text ≡ cond (not (is_skipped front)) (record { number = n; bytes = front } ∷ said_from (suc n) after) (said_from (suc n) after)
said_cut n text front after e = ap (λ (ls : List (List ℕ)). filter (λ (l : Line). not (is_skipped l.bytes)) (numbered n ls)) e

module _ (all done : List Line) (n : ℕ) (text front after : List ℕ) (e : lines_of text ≡ front ∷ lines_of after) (before : done ++ said_from n text ≡ all) where
  -- a line that is said
  pub one_said : is_skipped front ≡ false → (done ++ record { number = n; bytes = front } ∷ []) ++ said_from (n + 1) after ≡ all
  one_said said =
      let line : Line = record { number = n; bytes = front } in
      let cut : said_from n text ≡ line ∷ said_from (suc n) after = said_cut n text front after e ∙ cond-true (not (is_skipped front)) (line ∷ said_from (suc n) after) (said_from (suc n) after) (not_from_false (is_skipped front) said) in
      subst (λ m. (done ++ line ∷ []) ++ said_from m after ≡ all) (sym (add-one n))
      (append_assoc done (line ∷ []) (said_from (suc n) after) ∙ ap (λ (l : List Line). done ++ l) (sym cut) ∙ before)

  -- a line that is skipped
  pub one_skipped : is_skipped front ≡ true → done ++ said_from (n + 1) after ≡ all
  one_skipped skipped =
      let line : Line = record { number = n; bytes = front } in
      let cut : said_from n text ≡ said_from (suc n) after = said_cut n text front after e ∙ cond-false (not (is_skipped front)) (line ∷ said_from (suc n) after) (said_from (suc n) after) (not_from_true (is_skipped front) skipped) in
      subst (λ m. done ++ said_from m after ≡ all) (sym (add-one n)) (ap (λ (l : List Line). done ++ l) (sym cut) ∙ before)

-- how much is left from a place on
pub left_from : (text : List ℕ) (start : ℕ) → length (take (length text - start) (drop start text)) ≡ length text - start
left_from text start =
    let long : length (drop start text) ≡ length text - start = length-drop start text in
    ap length (take_all (length text - start) (drop start text) (omega (arith, long))) ∙ long

-- the lines from a place on, by the end of the first of them
pub next_line : (text rest : List ℕ) (start end : ℕ) → start < length text → rest ≡ take (length text - start) (drop start text) → end ≤ length rest → HasNo 10 (take end rest) → (end < length rest → slice_index rest end ≡ 10)
    → lines_of (drop start text) ≡ take end rest ∷ lines_of (drop (start + (end + 1)) text)
next_line text rest start end less is within before found =
    let long : length (drop start text) ≡ length text - start = length-drop start text in
    let e : rest ≡ drop start text = is ∙ take_all (length text - start) (drop start text) (omega (arith, long)) in
    let same : length rest ≡ length (drop start text) = ap length e in
    let sum : start + suc end ≡ start + (end + 1) = omega arith in
    ap lines_of (sym e)
    ∙ first_line rest end (omega (arith, same, long, less)) within before found
    ∙ ap (λ (l : List ℕ). take end rest ∷ lines_of l) (ap (drop (suc end)) e ∙ drop-drop (suc end) start text ∙ ap (λ n. drop n text) sum)
