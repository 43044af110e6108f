-- The order of declarations, and lists of protocols in it.
use Rattle.std.proofs.Common.{◌≡◌, ◌<◌, ◌≤◌, ◌+◌, ◌⊎◌, ℕ, List, [], ◌∷◌, Some, inl, inr, refl, ap, sym, subst, ◌∙◌, arith}
use Rattle.std.specs.Prelude.{slice_get}
use Rattle.std.specs.List.{Contains, AllPairs}
use Rattle.std.proofs.lemmas.Bool.{cases_lt}
use Rattle.fidl_named.specs.declared.place.DeclarationId.{DeclarationId}
use Rattle.fidl_tree.specs.declared.file.File.{File}
use Rattle.fidl_composition.specs.Protocols.{IsBefore, AreProtocols}
use Rattle.fidl_composition.specs.Tables.{at}
use Rattle.fidl_composition.proofs.Lists.{here, there, nothing_there, first_or_rest, first_before, later, pair_at}

pub before_not_after : (p q : DeclarationId) → IsBefore p q → IsBefore q p → ⊥
before_not_after p q (inl a) (inl b) = omega (arith, a, b)
before_not_after p q (inl a) (inr b) = let is = b.0 in omega (arith, a, is)
before_not_after p q (inr a) (inl b) = let is = a.0 in omega (arith, b, is)
before_not_after p q (inr a) (inr b) = let one = a.1 in let other = b.1 in omega (arith, one, other)

pub before_itself : (p : DeclarationId) → IsBefore p p → ⊥
before_itself p h = before_not_after p p h h

-- before the declaration after one
pub before_next : (p : DeclarationId) (file index : ℕ) → IsBefore p (at file (index + 1)) → IsBefore p (at file index) ⊎ (p ≡ at file index)
before_next p file index (inl a) = inl (inl a)
before_next p file index (inr a) = elim (cases_lt p.index index) [
  | inl lt ↦ inl (inr (a.0, lt))
  | inr le ↦
      let less = a.1 in
      let is : p.index ≡ index = omega (arith, less, le) in
      inr (ap (λ n. at n p.index) a.0 ∙ ap (at file) is)
]

pub before_later : (p : DeclarationId) (file index : ℕ) → IsBefore p (at file index) → IsBefore p (at file (index + 1))
before_later p file index (inl a) = inl a
before_later p file index (inr a) = let lt = a.1 in inr (a.0, omega (arith, lt))

pub before_next_file : (p : DeclarationId) (file index : ℕ) → IsBefore p (at file index) → IsBefore p (at (file + 1) 0)
before_next_file p file index (inl a) = inl (omega (arith, a))
before_next_file p file index (inr a) = let is = a.0 in inl (omega (arith, is))

-- before the first declaration of the next file
pub before_end : (p : DeclarationId) (file : ℕ) → IsBefore p (at (file + 1) 0) → (p.file < file) ⊎ (p.file ≡ file)
before_end p file (inl a) = elim (cases_lt p.file file) [
  | inl lt ↦ inl lt
  | inr le ↦ inr (omega (arith, a, le))
]
before_end p file (inr a) = let lt = a.1 in absurd (omega (arith, lt))

-- two lists that rise and have the same entries are one
heads : (x : DeclarationId) (xs : List DeclarationId) (y : DeclarationId) (ys : List DeclarationId) → AllPairs IsBefore (x ∷ xs) → AllPairs IsBefore (y ∷ ys) → Contains (y ∷ ys) x → Contains (x ∷ xs) y → x ≡ y
heads x xs y ys hx hy c d = elim (first_or_rest y ys x c) [
  | inl e ↦ sym e
  | inr in_ys ↦ elim (first_or_rest x xs y d) [
    | inl e ↦ e
    | inr in_xs ↦ absurd (before_not_after x y (first_before IsBefore x xs hx y in_xs) (first_before IsBefore y ys hy x in_ys))
  ]
]

tails : (x : DeclarationId) (xs : List DeclarationId) (y : DeclarationId) (ys : List DeclarationId) → AllPairs IsBefore (x ∷ xs) → x ≡ y → ((p : DeclarationId) → Contains (x ∷ xs) p → Contains (y ∷ ys) p) → (p : DeclarationId) → Contains xs p → Contains ys p
tails x xs y ys hx same to p m = elim (first_or_rest y ys p (to p (there x xs p m))) [
  | inl e ↦ absurd (before_itself p (subst (λ z. IsBefore z p) (same ∙ e) (first_before IsBefore x xs hx p m)))
  | inr rest ↦ rest
]

pub one_list : (xs ys : List DeclarationId) → AllPairs IsBefore xs → AllPairs IsBefore ys → ((p : DeclarationId) → Contains xs p → Contains ys p) → ((p : DeclarationId) → Contains ys p → Contains xs p) → xs ≡ ys
one_list [] [] hx hy to back = refl
one_list [] (y ∷ ys) hx hy to back = absurd (nothing_there y (back y (here y ys)))
one_list (x ∷ xs) [] hx hy to back = absurd (nothing_there x (to x (here x xs)))
one_list (x ∷ xs) (y ∷ ys) hx hy to back =
    let same : x ≡ y = heads x xs y ys hx hy (to x (here x xs)) (back y (here y ys)) in
    let rest : xs ≡ ys = one_list xs ys (later IsBefore x xs hx) (later IsBefore y ys hy) (tails x xs y ys hx same to) (tails y ys x xs hy (sym same) back) in
    ap (λ (z : DeclarationId). z ∷ xs) same ∙ ap (λ (l : List DeclarationId). y ∷ l) rest

pub one_protocols : (files : List File) (one other : List DeclarationId) → AreProtocols files one → AreProtocols files other → one ≡ other
one_protocols files one other h k = one_list one other h.rise k.rise (λ p c. k.all p (h.entries p c)) (λ p c. h.all p (k.entries p c))

module _ (ids : List DeclarationId) (rise : AllPairs IsBefore ids) where
  -- a declaration has one number
  pub one_number : (n m : ℕ) (p : DeclarationId) → slice_get ids n ≡ Some p → slice_get ids m ≡ Some p → n ≡ m
  one_number n m p a b = elim (cases_lt n m) [
    | inl lt ↦ absurd (before_itself p (pair_at IsBefore ids rise n m p p a b lt))
    | inr le ↦ elim (cases_lt m n) [
      | inl lt ↦ absurd (before_itself p (pair_at IsBefore ids rise m n p p b a lt))
      | inr ge ↦ omega (arith, le, ge)
    ]
  ]

  -- one of no lesser number stands no earlier
  pub not_before : (n m : ℕ) (p q : DeclarationId) → slice_get ids n ≡ Some p → slice_get ids m ≡ Some q → n ≤ m → IsBefore q p → ⊥
  not_before n m p q a b le h = elim (cases_lt n m) [
    | inl lt ↦ before_not_after q p h (pair_at IsBefore ids rise n m p q a b lt)
    | inr ge ↦
        let is : n ≡ m = omega (arith, le, ge) in
        let there : slice_get ids n ≡ Some q = subst (λ k. slice_get ids k ≡ Some q) (sym is) b in
        let both : Some p ≡ Some q = sym a ∙ there in
        let same : p ≡ q = cc in
        before_itself q (subst (IsBefore q) same h)
  ]
