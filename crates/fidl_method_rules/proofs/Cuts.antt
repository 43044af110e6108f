-- Texts and the parts between certain bytes.
use Rattle.std.proofs.Common.{◌≡◌, ◌∙◌, ◌==◌, ℕ, ◌+◌, ◌<◌, ◌≤◌, true, false, List, [], ◌∷◌, ◌++◌, length, get_or, take, drop, sym, ap, subst}
use Rattle.std.specs.List.{All, onto_first}
use Rattle.std.proofs.lemmas.List.{take_all, take-append-drop, drop_more}
use Rattle.std.proofs.lemmas.Bool.{false_from_ne_true}
use Rattle.std.proofs.lemmas.Bool.Decides.{Decides-eqb}
use Rattle.std.proofs.lemmas.List.Splits.{slice_split_at, slice_split_none, slice_split-cons_yes, slice_split-cons_no}
use Rattle.fidl_method_rules.specs.Texts.{parts}

pub other_byte : (byte b : ℕ) → (b ≡ byte → ⊥) → (b == byte) ≡ false
other_byte byte b other = false_from_ne_true (b == byte) (λ same. other ((Decides-eqb b byte).0 same))

module _ (byte : ℕ) (text : List ℕ) where
  -- no such byte among the first
  abbrev pub NoneBefore : ℕ → Type 0
  NoneBefore at = All (λ b. (b == byte) ≡ false) (take at text)

  pub cut_there : (at : ℕ) → at < length text → NoneBefore at → get_or text at 0 ≡ byte → parts byte text ≡ take at text ∷ parts byte (drop (at + 1) text)
  cut_there at lt none is =
      let whole : text ≡ take at text ++ get_or text at 0 ∷ drop (at + 1) text = sym (take-append-drop at text) ∙ ap (λ l. take at text ++ l) (drop_more text at 0 lt) in
      ap (parts byte) whole ∙ slice_split_at (λ b. b == byte) (take at text) (get_or text at 0) (drop (at + 1) text) none ((Decides-eqb (get_or text at 0) byte).1 is)

  pub cut_nowhere : (at : ℕ) → length text ≤ at → NoneBefore at → parts byte text ≡ text ∷ []
  cut_nowhere at past none = slice_split_none (λ b. b == byte) text (subst (All (λ b. (b == byte) ≡ false)) (take_all at text past) none)

first_stays : (x : ℕ) (ps : List (List ℕ)) → onto_first x ps ≡ [] → ⊥
first_stays x [] is = cc
first_stays x (p ∷ ps) is = cc

-- there is always a part
some_part : (byte : ℕ) (text : List ℕ) → parts byte text ≡ [] → ⊥
some_part byte [] none = cc
some_part byte (b ∷ text) none =
    let at_byte : (b == byte) ≡ true → ⊥ = λ yes. let e = slice_split-cons_yes (λ c. c == byte) b text yes in cc in
    let e = slice_split-cons_no (λ c. c == byte) b text (false_from_ne_true (b == byte) at_byte) in
    first_stays b (parts byte text) (sym e ∙ none)

pub three_or_more : (byte : ℕ) (text a rest b c first second : List ℕ) → parts byte text ≡ a ∷ parts byte rest → parts byte rest ≡ b ∷ parts byte c → parts byte text ≡ first ∷ second ∷ [] → ⊥
three_or_more byte text a rest b c first second here there two =
    let none : parts byte c ≡ [] = cc in
    some_part byte c none
