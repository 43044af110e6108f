-- The first thing that is wrong, found part by part.
use Rattle.std.proofs.Common.{◌≡◌, ℕ, ◌+◌, ◌-◌, ◌<◌, ◌≤◌, sym, subst, arith, inl, inr}
use Rattle.std.proofs.lemmas.Bool.{cases_eq, cases_lt}
use Rattle.std.specs.Prelude.{Option, Some, None}
use Rattle.fidl_decode_model.specs.declared.fault.DecodeFault.{DecodeFault}
use Rattle.fidl_decode_columns.specs.declared.column.Wrong.{Wrong}
use Rattle.fidl_decode_columns.specs.Columns.{IsFirstNot, IsFirstWrong, right_before, first_of, Narrows}

-- no more are right than there are
pub right_le : (Right : ℕ → Type 0) (Breaks : ℕ → DecodeFault → Type 0) (n : ℕ) (known : Option Wrong) → IsFirstWrong Right Breaks n known → right_before n known ≤ n
right_le Right Breaks n None h = omega arith
right_le Right Breaks n (Some w) h = let lt = h.0 in omega (arith, lt)

-- a part is looked at in those that are right so far
module _ (Right Part More : ℕ → Type 0) (Breaks Fails : ℕ → DecodeFault → Type 0) (n : ℕ)
    (both : (k : ℕ) → k < n → Right k → Part k → More k)
    (breaks : (k : ℕ) → k < n → Right k → (fault : DecodeFault) → Fails k fault → Breaks k fault) where
  with_found : (known found : Option Wrong) → IsFirstWrong Right Breaks n known → IsFirstWrong Part Fails (right_before n known) found → IsFirstWrong More Breaks n (first_of known found)
  with_found None None all new = λ k lt. both k lt (all k lt) (new k lt)
  with_found None (Some w) all new = (new.0, (λ k lt. both k (let least = new.0 in omega (arith, least, lt)) (all k (let least = new.0 in omega (arith, least, lt))) (new.1 k lt)), breaks w.element new.0 (all w.element new.0) w.fault new.2)
  with_found (Some v) None all new = (all.0, (λ k lt. both k (let least = all.0 in omega (arith, least, lt)) (all.1 k lt) (new k lt)), all.2)
  with_found (Some v) (Some w) all new =
      let last = all.0 in
      let least = new.0 in
      let within : w.element < n = omega (arith, last, least) in (
        within,
        (λ k lt. both k (omega (arith, within, lt)) (all.1 k (omega (arith, least, lt))) (new.1 k lt)),
        breaks w.element within (all.1 w.element least) w.fault new.2,
      )

  pub narrowed : (known answer : Option Wrong) → IsFirstWrong Right Breaks n known → Narrows Part Fails n known answer → IsFirstWrong More Breaks n answer
  narrowed known answer all new = subst (λ (o : Option Wrong). IsFirstWrong More Breaks n o) (sym new.1) (with_found known new.0 all new.2)

-- what holds before one and of it holds up to the next
pub one_more : (Holds : ℕ → Type 0) (i : ℕ) → ((k : ℕ) → k < i → Holds k) → Holds i → (k : ℕ) → k < i + 1 → Holds k
one_more Holds i before here k lt = elim (cases_eq k i) [ inl same ↦ subst Holds (sym same) here | inr other ↦ before k (omega (arith, lt, other)) ]

-- the first of which something does not hold is found, or there is none
pub first_here : (Holds : ℕ → Type 0) (n i : ℕ) → i < n → ((k : ℕ) → k < i → Holds k) → ¬ (Holds i) → IsFirstNot Holds n i
first_here Holds n i lt before not_here = record { few = omega (arith, lt); before = before; not = λ less. not_here }

pub all_hold : (Holds : ℕ → Type 0) (n i : ℕ) → n ≤ i → ((k : ℕ) → k < i → Holds k) → IsFirstNot Holds n n
all_hold Holds n i le before = record { few = omega arith; before = λ k lt. before k (omega (arith, le, lt)); not = λ less. absurd (omega (arith, less)) }

-- all are right where none is looked for
pub none_wrong : (Holds : ℕ → Type 0) (Fails : ℕ → DecodeFault → Type 0) (n first : ℕ) → first ≡ n → IsFirstNot Holds n first → IsFirstWrong Holds Fails n None
none_wrong Holds Fails n first is h = λ k lt. h.before k (omega (arith, is, lt))

pub one_wrong : (Holds : ℕ → Type 0) (Fails : ℕ → DecodeFault → Type 0) (n : ℕ) (w : Wrong) → (w.element ≡ n → ⊥) → IsFirstNot Holds n w.element → (¬ (Holds w.element) → Fails w.element w.fault) → IsFirstWrong Holds Fails n (Some w)
one_wrong Holds Fails n w more h fails =
    let few = h.few in
    let lt : w.element < n = omega (arith, few, more) in
    (lt, h.before, fails (h.not lt))

-- where it holds for all there is none
pub always : (Holds : ℕ → Type 0) (n : ℕ) → ((k : ℕ) → Holds k) → IsFirstNot Holds n n
always Holds n h = all_hold Holds n n (omega arith) (λ k lt. h k)

-- the same of what says the same
pub same_first : (P Q : ℕ → Type 0) (n first : ℕ) → ((k : ℕ) → P k → Q k) → ((k : ℕ) → Q k → P k) → IsFirstNot P n first → IsFirstNot Q n first
same_first P Q n first f g h = record { few = h.few; before = λ k lt. f k (h.before k lt); not = λ lt q. h.not lt (g first q) }

-- things behind those that hold are looked at by themselves
module _ (At Part : ℕ → Type 0) (done count : ℕ) (same : (j : ℕ) → Part j → At (done + j)) (before : (k : ℕ) → k < done → At k) where
  pub behind_too : (n : ℕ) → ((j : ℕ) → j < n → Part j) → (k : ℕ) → k < done + n → At k
  behind_too n more k lt = elim (cases_lt k done) [
    | inl early ↦ before k early
    | inr late ↦ (let there : done + (k - done) ≡ k = omega (arith, late) in subst At there (same (k - done) (more (k - done) (omega (arith, late, lt)))))
  ]

  pub first_behind : (n first : ℕ) → done + count ≤ n → ((j : ℕ) → At (done + j) → Part j) → first < count → IsFirstNot Part count first → IsFirstNot At n (done + first)
  first_behind n first le back lt h = record { few = omega (arith, le, lt); before = behind_too first h.before; not = λ less at. h.not lt (back first at) }
