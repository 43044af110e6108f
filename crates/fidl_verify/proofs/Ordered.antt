-- The ordinals of a table or union rise, and a search by halving finds a member by them.
use Rattle.std.proofs.Common.{◌≡◌, ◌≢◌, ℕ, zero, suc, ◌+◌, ◌-◌, ◌*◌, ◌^◌, ◌<◌, ◌≤◌, List, Bool, true, false, IsTrue, Option, None, Some, if◌then◌else◌, inl, inr, refl, ap, subst, sym, ◌∙◌, arith}
use Rattle.std.specs.Prelude.{◌==◌}
use Rattle.std.specs.Option.{option_map_or}
use Rattle.std.proofs.lemmas.Bool.{cases_lt, eqb-true, eq-eqb}
use Rattle.std.proofs.Math.Nat.{pow-suc}
use Rattle.fidl_wire.specs.Term as ty
use Rattle.fidl_wire.specs.Term.{Rows, rows_of, find, nothing}
use Rattle.fidl_table_format.specs.declared.record.Header.{Header}
use Rattle.fidl_table_format.specs.declared.record.Entry.{Entry}
use Rattle.fidl_table_format.specs.declared.kind.EntryKind.{EntryKind}
use Rattle.fidl_table_format.specs.declared.kind.EntryKind.TheVariants.{Table, Union}
use Rattle.fidl_table_format.specs.Kind.{kind_of}
use Rattle.fidl_table_format.specs.Section.{row_at}
use Rattle.fidl_table_format.specs.Terms.{term_as, term_of, rows_from}
use Rattle.fidl_table_format.specs.Uses.{uses_ordinals}
use Rattle.fidl_table_format.specs.Entry.{kind_is}
use Rattle.fidl_verify.proofs.Stated.{or_last}

-- keys of which each is less than the next
module _ (key : ℕ → ℕ) (n : ℕ) (step : (k : ℕ) → suc k < n → key k < key (suc k)) where
  pub rising_keys : (i j : ℕ) → i < j → j < n → key i < key j
  rising_keys i zero p q = absurd (omega (arith, p))
  rising_keys i (suc j) p q =
      elim (or_last i j p) [
        | inl less ↦ omega (arith, rising_keys i j less (omega (arith, q)), step j q)
        | inr same ↦ subst (λ m. key m < key (suc j)) (sym same) (step j q)
      ]

  -- what is up to a key that is less is less, and what is from one on that is greater is greater
  pub less_before : (ordinal j : ℕ) → j < n → key j < ordinal → (k : ℕ) → k < j + 1 → key k < ordinal
  less_before ordinal j within less k p =
      elim (or_last k j (omega (arith, p))) [
        | inl before ↦ omega (arith, rising_keys k j before within, less)
        | inr same ↦ subst (λ i. key i < ordinal) (sym same) less
      ]

  pub more_behind : (ordinal j : ℕ) → ordinal < key j → (k : ℕ) → j ≤ k → k < n → ordinal < key k
  more_behind ordinal j more k le p =
      elim (or_last j k (omega (arith, le))) [
        | inl behind ↦ omega (arith, rising_keys j k behind p, more)
        | inr same ↦ subst (λ i. ordinal < key i) same more
      ]

-- keys that are less before a place and greater from it on are never equal
pub no_key : (key : ℕ → ℕ) (n ordinal at : ℕ) → ((k : ℕ) → k < at → key k < ordinal) → ((k : ℕ) → at ≤ k → k < n → ordinal < key k) → (k : ℕ) → k < n → key k ≢ ordinal
no_key key n ordinal at less more k p same =
    elim (cases_lt k at) [
      | inl before ↦ omega (arith, less k before, same)
      | inr from ↦ omega (arith, more k (omega (arith, from)) p, same)
    ]

-- each probe leaves at most half of the rows
fewer : (n half all spent d : ℕ) → all - spent ≡ d → 0 < n → n < 2 ^ (all - spent) → half + half ≤ n → (spent < all) × (half < 2 ^ (all - suc spent))
fewer n half all spent zero is some few both = let one : n < 1 = subst (λ k. n < 2 ^ k) is few in absurd (omega (arith, one, some))
fewer n half all spent (suc d) is some few both =
    let left : all - suc spent ≡ d = omega (arith, is) in
    let many : n < 2 ^ d * 2 = subst (λ k. n < k) (pow-suc 2 d) (subst (λ k. n < 2 ^ k) is few) in
    (omega (arith, is), subst (λ k. half < 2 ^ k) (sym left) (omega (arith, many, both)))

pub halved : (n half all spent : ℕ) → 0 < n → n < 2 ^ (all - spent) → half + half ≤ n → (spent < all) × (half < 2 ^ (all - suc spent))
halved n half all spent some few both = fewer n half all spent (all - spent) refl some few both

-- before the first probe all rows are left
pub unspent : (n probes : ℕ) → n < 2 ^ 16 → n - 0 < 2 ^ (16 - (probes - probes))
unspent n probes small = let none : 0 ≡ probes - probes = omega arith in subst (λ s. n - 0 < 2 ^ (16 - s)) none (omega (arith, small))

-- ---- the members as rows

differ : (a b : ℕ) → a ≢ b → (a == b) ≡ false
differ a b n = by (a == b) refl
  where
    by : (r : Bool) → (a == b) ≡ r → (a == b) ≡ false
    by false e = e
    by true e = absurd (n (eqb-true a b e))

module _ (bytes : List ℕ) (h : Header) (ordinal : ℕ) where
  next : (P : ℕ → Type 0) (first k : ℕ) → P (first + suc k) → P (suc first + k)
  next P first k p = let e : first + suc k ≡ suc first + k = omega arith in subst P e p

  here : (P : ℕ → Type 0) (first : ℕ) → P (first + 0) → P first
  here P first p = let e : first + 0 ≡ first = omega arith in subst P e p

  -- no row has the ordinal
  pub find_none : (first n : ℕ) → ((k : ℕ) → k < n → (row_at bytes h (first + k)).key ≢ ordinal) → find (rows_from bytes h first n) ordinal ≡ None
  find_none first zero none = refl
  find_none first (suc n) none =
      let r = row_at bytes h first in
      ap (λ b. if b then Some (ty.named r.entry) else find (rows_from bytes h (suc first) n) ordinal) (differ r.key ordinal (here (λ i. (row_at bytes h i).key ≢ ordinal) first (none 0 (omega arith))))
      ∙ find_none (suc first) n (λ k p. next (λ i. (row_at bytes h i).key ≢ ordinal) first k (none (suc k) (omega (arith, p))))

  -- the first row that has the ordinal
  pub find_at : (first n k : ℕ) → k < n → (row_at bytes h (first + k)).key ≡ ordinal → ((i : ℕ) → i < k → (row_at bytes h (first + i)).key ≢ ordinal)
      → find (rows_from bytes h first n) ordinal ≡ Some (ty.named (row_at bytes h (first + k)).entry)
  find_at first zero k p is none = absurd (omega (arith, p))
  find_at first (suc n) zero p is none =
      let r = row_at bytes h first in
      let same : first ≡ first + 0 = omega arith in
      ap (λ b. if b then Some (ty.named r.entry) else find (rows_from bytes h (suc first) n) ordinal) (eq-eqb r.key ordinal (here (λ i. (row_at bytes h i).key ≡ ordinal) first is))
      ∙ ap (λ i. Some (ty.named (row_at bytes h i).entry)) same
  find_at first (suc n) (suc k) p is none =
      let r = row_at bytes h first in
      let same : suc first + k ≡ first + suc k = omega arith in
      ap (λ b. if b then Some (ty.named r.entry) else find (rows_from bytes h (suc first) n) ordinal) (differ r.key ordinal (here (λ i. (row_at bytes h i).key ≢ ordinal) first (none 0 (omega arith))))
      ∙ find_at (suc first) n k (omega (arith, p)) (next (λ i. (row_at bytes h i).key ≡ ordinal) first k is) (λ i q. next (λ i. (row_at bytes h i).key ≢ ordinal) first i (none (suc i) (omega (arith, q))))
      ∙ ap (λ i. Some (ty.named (row_at bytes h i).entry)) same

-- what a table or union declares are its rows
rows_as : (bytes : List ℕ) (h : Header) (k : EntryKind) (e : Entry) → uses_ordinals k ≡ true → rows_of (term_as k bytes h e) ≡ rows_from bytes h e.first e.count
rows_as bytes h Table e is = refl
rows_as bytes h Union e is = refl
rows_as bytes h _ e is = absurd (let never : false ≡ true = is in cc)

pub rows_declared : (bytes : List ℕ) (h : Header) (e : Entry) → IsTrue (kind_is uses_ordinals e) → rows_of (term_of bytes h e) ≡ rows_from bytes h e.first e.count
rows_declared bytes h e = by (kind_of e.kind)
  where
    by : (o : Option EntryKind) → IsTrue (option_map_or uses_ordinals o false) → rows_of (option_map_or (λ k. term_as k bytes h e) o nothing) ≡ rows_from bytes h e.first e.count
    by None is = absurd (let never : false ≡ true = is in cc)
    by (Some k) is = rows_as bytes h k e is

-- what a probe says of the key at its place
pub is_less : (key row value ordinal : ℕ) → row ≡ key → value ≡ row → value < ordinal → key < ordinal
is_less key row value ordinal a b p = omega (arith, a, b, p)

pub is_greater : (key row value ordinal : ℕ) → row ≡ key → value ≡ row → ordinal < value → ordinal < key
is_greater key row value ordinal a b p = omega (arith, a, b, p)
