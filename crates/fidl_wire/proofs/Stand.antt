-- Bytes that stand in a message at a place.
use Rattle.std.proofs.Common.{◌≡◌, ℕ, zero, suc, ◌+◌, ◌<◌, ◌≤◌, List, [], ◌∷◌, ◌++◌, length, get_or, drop, replicate, inl, inr, sym, ap, subst, ◌∙◌, arith, add-one, drop-cons}
use Rattle.std.proofs.lemmas.List.{drop_all, length-drop}
use Rattle.std.proofs.lemmas.Bool.{cases_lt}
use Rattle.fidl_wire.specs.declared.handle.HandleInfo.{HandleInfo}
use Rattle.fidl_wire.specs.Standing.{Stands, Carries}

module _ (m : List ℕ) where
  pub stands_to : (p q : ℕ) (a : List ℕ) → p ≡ q → Stands m p a → Stands m q a
  stands_to p q a e h = subst (λ n. Stands m n a) e h

  pub stands_front : (p : ℕ) (a b : List ℕ) → Stands m p (a ++ b) → Stands m p a
  stands_front p [] b h = tt
  stands_front p (x ∷ a) b h = (h.0, h.1, stands_front (p + 1) a b h.2)

  pub stands_back : (p : ℕ) (a b : List ℕ) → Stands m p (a ++ b) → Stands m (p + length a) b
  stands_back p [] b h = stands_to p (p + 0) b (omega arith) h
  stands_back p (x ∷ a) b h = stands_to (p + 1 + length a) (p + length (x ∷ a)) b (omega arith) (stands_back (p + 1) a b h.2)

  pub stands_both : (p : ℕ) (a b : List ℕ) → Stands m p a → Stands m (p + length a) b → Stands m p (a ++ b)
  stands_both p [] b h k = stands_to (p + 0) p b (omega arith) k
  stands_both p (x ∷ a) b h k = (h.0, h.1, stands_both (p + 1) a b h.2 (stands_to (p + length (x ∷ a)) (p + 1 + length a) b (omega arith) k))

  -- a copy of one byte, by its places
  pub copies_stand : (x n p : ℕ) → p + n ≤ length m → ((k : ℕ) → p ≤ k → k < p + n → get_or m k 0 ≡ x) → Stands m p (replicate n x)
  copies_stand x zero p room h = tt
  copies_stand x (suc n) p room h = (omega arith, h p (omega arith) (omega arith), copies_stand x n (p + 1) (omega arith) (λ k a b. h k (omega arith) (omega arith)))

  pub copies_are : (x n p : ℕ) → Stands m p (replicate n x) → (k : ℕ) → p ≤ k → k < p + n → get_or m k 0 ≡ x
  copies_are x zero p h k a b = absurd (omega arith)
  copies_are x (suc n) p h k a b =
      elim (cases_lt p k) [
        | inl lt ↦ copies_are x n (p + 1) h.2 k (omega arith) (omega arith)
        | inr le ↦ let e : p ≡ k = omega arith in subst (λ n. get_or m n 0 ≡ x) e h.1
      ]

  -- what stands from a place to the end is the rest
  pub rest_from_stands : (p : ℕ) (a : List ℕ) → p + length a ≡ length m → Stands m p a → drop p m ≡ a
  rest_from_stands p [] e h = drop_all p m (omega arith)
  rest_from_stands p (x ∷ a) e h =
      let lt = h.0 in
      let is = h.1 in
      let more = rest_from_stands (p + 1) a (omega arith) h.2 in
      drop-cons m p 0 lt ∙ ap (λ y. y ∷ drop (suc p) m) is ∙ ap (λ n. x ∷ drop n m) (sym (add-one p)) ∙ ap (λ l. x ∷ l) more

  pub stands_from_rest : (p : ℕ) (a : List ℕ) → drop p m ≡ a → Stands m p a
  stands_from_rest p [] e = tt
  stands_from_rest p (x ∷ a) e =
      let n = ap length e in
      let lt : p < length m = omega (arith, length-drop p m, n) in
      let both : get_or m p 0 ∷ drop (suc p) m ≡ x ∷ a = sym (drop-cons m p 0 lt) ∙ e in
      let rest : drop (suc p) m ≡ a = cc in
      (lt, cc, stands_from_rest (p + 1) a (rw add-one rest))

  pub all_from_stands : (a : List ℕ) → length a ≡ length m → Stands m 0 a → m ≡ a
  all_from_stands a e h = rest_from_stands 0 a (omega arith) h

  pub stands_from_all : (a : List ℕ) → m ≡ a → Stands m 0 a
  stands_from_all a e = stands_from_rest 0 a e

module _ (hs : List HandleInfo) where
  pub carries_to : (p q : ℕ) (a : List HandleInfo) → p ≡ q → Carries hs p a → Carries hs q a
  carries_to p q a e h = subst (λ n. Carries hs n a) e h

  pub carries_front : (p : ℕ) (a b : List HandleInfo) → Carries hs p (a ++ b) → Carries hs p a
  carries_front p [] b h = tt
  carries_front p (x ∷ a) b h = (h.0, carries_front (p + 1) a b h.1)

  pub carries_back : (p : ℕ) (a b : List HandleInfo) → Carries hs p (a ++ b) → Carries hs (p + length a) b
  carries_back p [] b h = carries_to p (p + 0) b (omega arith) h
  carries_back p (x ∷ a) b h = carries_to (p + 1 + length a) (p + length (x ∷ a)) b (omega arith) (carries_back (p + 1) a b h.1)

  pub carries_both : (p : ℕ) (a b : List HandleInfo) → Carries hs p a → Carries hs (p + length a) b → Carries hs p (a ++ b)
  carries_both p [] b h k = carries_to (p + 0) p b (omega arith) k
  carries_both p (x ∷ a) b h k = (h.0, carries_both (p + 1) a b h.1 (carries_to (p + length (x ∷ a)) (p + 1 + length a) b (omega arith) k))
