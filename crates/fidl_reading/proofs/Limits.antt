-- How many brackets the first words leave open.
use Rattle.std.proofs.Common.{◌≡◌, ℕ, suc, ◌+◌, ◌<◌, ◌≤◌, Bool, List, [], ◌∷◌, length, take, get_or, true, false, sym, refl, ap, subst, ◌∙◌, arith, inl, inr, zero}
use Rattle.std.specs.Prelude.{count_by}
use Rattle.std.proofs.lemmas.Bool.{cases_lt}
use Rattle.std.proofs.lemmas.List.{get_or-map, length-map, take-append-le}
use Rattle.std.proofs.lemmas.List.Sums.{count_by_more_no, count_by_more_yes}
use Rattle.fidl_limits.specs.declared.limits.TheConstants.{MAX_TEXT_BRACKETS}
use Rattle.fidl_spelling.specs.Words.{Words, opens, closes, IsWithinLimit, AreWords}
use Rattle.fidl_reading.specs.Cuts.{IsFront, texts_of}
use Rattle.fidl_reading.specs.declared.word.Word.{Word}

within_texts : (words : List Word) (i : ℕ) → i < length words → i < length (texts_of words)
within_texts words i h = subst (λ m. i < m) (sym (length-map words (λ (w : Word). w.text.now))) h

-- one word more, which passes the test or not
pub count_yes : (p : List ℕ → Bool) (words : List Word) (i n : ℕ) (d : Word) → i < length words → n ≡ count_by p (take i (texts_of words)) → p (get_or words i d).text.now ≡ true → n + 1 ≡ count_by p (take (i + 1) (texts_of words))
count_yes p words i n d h e passes =
    ap (λ m. m + 1) e
    ∙ sym (count_by_more_yes p (texts_of words) i [] (within_texts words i h) (ap p (get_or-map (λ (w : Word). w.text.now) words i d [] h) ∙ passes))

pub count_no : (p : List ℕ → Bool) (words : List Word) (i n : ℕ) (d : Word) → i < length words → n ≡ count_by p (take i (texts_of words)) → p (get_or words i d).text.now ≡ false → n ≡ count_by p (take (i + 1) (texts_of words))
count_no p words i n d h e fails =
    e ∙ sym (count_by_more_no p (texts_of words) i [] (within_texts words i h) (ap p (get_or-map (λ (w : Word). w.text.now) words i d [] h) ∙ fails))

-- the first n words leave at most as many brackets open as the limit
abbrev pub Keeps : Words → ℕ → Type 0
Keeps ws n = count_by opens (take n ws) ≤ count_by closes (take n ws) + MAX_TEXT_BRACKETS

-- within the limit up to here, and here
pub one_longer : (ws : Words) (i : ℕ) → ((n : ℕ) → n ≤ i → Keeps ws n) → Keeps ws (i + 1) → (n : ℕ) → n ≤ i + 1 → Keeps ws n
one_longer ws i so_far here n h = elim (cases_lt n (i + 1)) [
  | inl g ↦ so_far n (omega (arith, g))
  | inr ge ↦ (let e : n ≡ i + 1 = omega (arith, h, ge) in subst (λ m. Keeps ws m) (sym e) here)
]

-- words at the front of a text that open too many brackets make the text's words do so
pub front_beyond : (text : List ℕ) (words : Words) (at : ℕ) → IsFront text words at → (IsWithinLimit words → ⊥) → (ws : Words) → AreWords text ws → IsWithinLimit ws → ⊥
front_beyond text words at front beyond ws h limit =
    let r = front.only ws h in
    beyond (λ n. elim (cases_lt n (length words)) [
      | inl lt ↦ subst (λ l. count_by opens l ≤ count_by closes l + MAX_TEXT_BRACKETS) (ap (take n) r.1 ∙ take-append-le n words r.0 (omega (arith, lt))) (limit n)
      | inr le ↦ subst (λ l. count_by opens l ≤ count_by closes l + MAX_TEXT_BRACKETS) (ap (take (length words)) r.1 ∙ take-append-le (length words) words r.0 (omega arith) ∙ sym (same_all n words le)) (limit (length words))
    ])
  where
    same_all : (n : ℕ) (ws : Words) → length ws ≤ n → take n ws ≡ take (length ws) ws
    same_all zero [] h = refl
    same_all (suc n) [] h = refl
    same_all zero (w ∷ ws) h = absurd (omega (arith, h))
    same_all (suc n) (w ∷ ws) h = ap (λ l. w ∷ l) (same_all n ws (omega (arith, h)))
