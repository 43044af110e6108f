-- Words that open few brackets at once, and close them all.
use Rattle.std.proofs.Common.{◌≡◌, ◌≤◌, ℕ, zero, suc, ◌+◌, ◌-◌, Bool, true, false, cond, List, [], ◌∷◌, ◌++◌, length, take, refl, sym, ap, subst, ◌∙◌, arith, append_assoc, inl, inr}
use Rattle.std.specs.Prelude.{count_by}
use Rattle.std.proofs.lemmas.List.{take-append-le}
use Rattle.std.proofs.lemmas.List.Sums.{sum_by-append, sum_by-cons}
use Rattle.std.proofs.Math.Seq.{take-append-add, take-nil}
use Rattle.std.proofs.lemmas.Bool.{cases_lt}
use Rattle.fidl_spelling.specs.Words.{Words, opens, closes}

count_append : (p : List ℕ → Bool) (a b : Words) → count_by p (a ++ b) ≡ count_by p a + count_by p b
count_append p a b = sum_by-append (λ w. cond (p w) 1 0) a b

count_cons : (p : List ℕ → Bool) (w : List ℕ) (ws : Words) → count_by p (w ∷ ws) ≡ cond (p w) 1 0 + count_by p ws
count_cons p w ws = sum_by-cons (λ x. cond (p x) 1 0) w ws

count_yes : (p : List ℕ → Bool) (w : List ℕ) (ws : Words) → p w ≡ true → count_by p (w ∷ ws) ≡ suc (count_by p ws)
count_yes p w ws is = let e : count_by p (w ∷ ws) ≡ 1 + count_by p ws = count_cons p w ws ∙ ap (λ b. cond b 1 0 + count_by p ws) is in omega (arith, e)

count_no : (p : List ℕ → Bool) (w : List ℕ) (ws : Words) → p w ≡ false → count_by p (w ∷ ws) ≡ count_by p ws
count_no p w ws is = let e : count_by p (w ∷ ws) ≡ 0 + count_by p ws = count_cons p w ws ∙ ap (λ b. cond b 1 0 + count_by p ws) is in omega (arith, e)

abbrev Few : ℕ → Words → Type 0
Few k ws = (n : ℕ) → count_by opens (take n ws) ≤ count_by closes (take n ws) + k

-- a word that is no bracket
pub record IsPlainWord (w : List ℕ) : Type 0 where
  pub no_opening : opens w ≡ false
  pub no_closing : closes w ≡ false

-- a bracket that opens, and one that closes
pub record AreBrackets (o c : List ℕ) : Type 0 where
  pub opening : opens o ≡ true
  pub no_closing : closes o ≡ false
  pub closing : closes c ≡ true
  pub no_opening : opens c ≡ false

-- words up to the rest, of which at most so many are open at once, and none in the end
pub record Opens (k : ℕ) (ws rest : Words) : Type 0 where
  pub front : Words
  pub whole : ws ≡ front ++ rest
  pub balanced : count_by opens front ≡ count_by closes front
  pub few : (n : ℕ) → count_by opens (take n front) ≤ count_by closes (take n front) + k

few_nil : (k : ℕ) → Few k []
few_nil k n = subst (λ (ws : Words). count_by opens ws ≤ count_by closes ws + k) (sym (take-nil n)) (omega arith)

few_both : (k : ℕ) (a b : Words) → Few k a → count_by opens a ≤ count_by closes a → Few k b → Few k (a ++ b)
few_both k a b f le g n = elim (cases_lt n (length a)) [
  | inl lt ↦ subst (λ (ws : Words). count_by opens ws ≤ count_by closes ws + k) (sym (take-append-le n a b (omega (arith, lt)))) (f n)
  | inr up ↦
      let m = n - length a in
      let same : length a + m ≡ n = omega (arith, up) in
      let x = count_append opens a (take m b) in
      let y = count_append closes a (take m b) in
      let h = g m in
      subst (λ i. count_by opens (take i (a ++ b)) ≤ count_by closes (take i (a ++ b)) + k) same
      (subst (λ (ws : Words). count_by opens ws ≤ count_by closes ws + k) (sym (take-append-add a b m)) (omega (arith, le, h, x, y)))
]

-- a word before others
few_cons : (j k : ℕ) (w : List ℕ) (ws : Words) → cond (opens w) 1 0 + j ≤ cond (closes w) 1 0 + k → Few j ws → Few k (w ∷ ws)
few_cons j k w ws le f zero = omega arith
few_cons j k w ws le f (suc n) =
    let x = count_cons opens w (take n ws) in
    let y = count_cons closes w (take n ws) in
    let h = f n in
    omega (arith, x, y, h, le)

pub nothing_opens : (k : ℕ) (ws rest : Words) → ws ≡ rest → Opens k ws rest
nothing_opens k ws rest e = record { front = []; whole = e; balanced = refl; few = few_nil k }

pub more : (j k : ℕ) (ws rest : Words) → j ≤ k → Opens j ws rest → Opens k ws rest
more j k ws rest le h = record { front = h.front; whole = h.whole; balanced = h.balanced; few = λ n. omega (arith, h.few n, le) }

pub both : (k : ℕ) (a b c : Words) → Opens k a b → Opens k b c → Opens k a c
both k a b c h g =
    let x = count_append opens h.front g.front in
    let y = count_append closes h.front g.front in
    record {
      front = h.front ++ g.front;
      whole = h.whole ∙ ap (λ ws. h.front ++ ws) g.whole ∙ sym (append_assoc h.front g.front c);
      balanced = omega (arith, x, y, h.balanced, g.balanced);
      few = few_both k h.front g.front h.few (omega (arith, h.balanced)) g.few;
    }

pub plain : (k : ℕ) (w : List ℕ) (ws mid rest : Words) → IsPlainWord w → ws ≡ w ∷ mid → Opens k mid rest → Opens k ws rest
plain k w ws mid rest is e h =
    let x = count_no opens w h.front is.no_opening in
    let y = count_no closes w h.front is.no_closing in
    record {
      front = w ∷ h.front;
      whole = e ∙ ap (λ l. w ∷ l) h.whole;
      balanced = omega (arith, x, y, h.balanced);
      few = few_cons k k w h.front (rw (is.no_opening, is.no_closing) (omega arith)) h.few;
    }

pub bracketed : (k : ℕ) (o c : List ℕ) (ws mid end rest : Words) → AreBrackets o c → ws ≡ o ∷ mid → Opens k mid end → end ≡ c ∷ rest → Opens (suc k) ws rest
bracketed k o c ws mid end rest are e h f =
    let inside = h.front ++ c ∷ [] in
    let x = count_yes opens o inside are.opening in
    let y = count_no closes o inside are.no_closing in
    let ox = count_append opens h.front (c ∷ []) in
    let cx = count_append closes h.front (c ∷ []) in
    let oc = count_no opens c [] are.no_opening in
    let cc_is = count_yes closes c [] are.closing in
    let last : Few k (c ∷ []) = few_cons k k c [] (rw (are.closing, are.no_opening) (omega arith)) (few_nil k) in
    let within : Few k inside = few_both k h.front (c ∷ []) h.few (omega (arith, h.balanced)) last in
    record {
      front = o ∷ inside;
      whole = e ∙ ap (λ l. o ∷ l) (h.whole ∙ ap (λ l. h.front ++ l) f ∙ sym (append_assoc h.front (c ∷ []) rest));
      balanced = omega (arith, x, y, ox, cx, oc, cc_is, h.balanced);
      few = few_cons k (suc k) o inside (rw (are.opening, are.no_closing) (omega arith)) within;
    }
