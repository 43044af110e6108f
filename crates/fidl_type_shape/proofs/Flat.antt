-- The parts of all members of a struct, a table or a union, as the code holds the members.
use Rattle.std.proofs.Common.{◌≡◌, ℕ, zero, suc, ◌<◌, List, [], ◌∷◌, ◌++◌, ◌+◌, length, get_or, take, refl, ap, sym, subst, arith}
use Rattle.std.specs.List.{Contains, AllByRecursion}
use Rattle.fidl_wire.specs.Term.{Term}
use Rattle.fidl_wire.specs.Figure as wire
use Rattle.fidl_ir.specs.declared.term.Field.{Field}
use Rattle.fidl_ir.specs.declared.term.Row.{Row}
use Rattle.fidl_ir.specs.Terms.{term_view, fields_view, rows_view}
use Rattle.fidl_type_shape.specs.declared.fault.Refusal.{Refusal}
use Rattle.fidl_type_shape.specs.Limits.{parts, parts_of_fields, parts_of_rows}
use Rattle.fidl_type_shape.specs.Excesses.{HoldsPast}
use Rattle.fidl_type_shape.proofs.Lists.{among_front, among_back, all_append, all_front, all_back}

module _ {X : Type 0} (g : X → Term) where
  -- the parts of the types of all
  abbrev pub flat : List X → List Term
  flat [] = []
  flat (x ∷ xs) = parts (g x) ++ flat xs

  pub among_flat : (xs : List X) (i : ℕ) (x : X) → i < length xs → x ≡ get_or xs i x → (u : Term) → Contains (parts (g x)) u → Contains (flat xs) u
  among_flat [] i x within is u h = absurd (omega (arith, within))
  among_flat (y ∷ ys) zero x within is u h = among_front (parts (g y)) (flat ys) u (subst (λ (k : X). Contains (parts (g k)) u) is h)
  among_flat (y ∷ ys) (suc i) x within is u h = among_back (parts (g y)) (flat ys) u (among_flat ys i x (omega (arith, within)) is u h)

  pub past_in_flat : (figures : List wire.Figure) (xs : List X) (i : ℕ) (x : X) → i < length xs → x ≡ get_or xs i x → (refusal : Refusal) → HoldsPast figures (parts (g x)) refusal → HoldsPast figures (flat xs) refusal
  past_in_flat figures xs i x within is refusal h = record { part = h.part; among = among_flat xs i x within is h.part h.among; own = h.own; past = h.past }

  flat_suc : (P : Term → Type 0) (xs : List X) (i : ℕ) (x : X) → i < length xs → x ≡ get_or xs i x → AllByRecursion P (flat (take i xs)) → AllByRecursion P (parts (g x)) → AllByRecursion P (flat (take (suc i) xs))
  flat_suc P [] i x within is h k = absurd (omega (arith, within))
  flat_suc P (y ∷ ys) zero x within is h k = all_append P (parts (g y)) [] (subst (λ (z : X). AllByRecursion P (parts (g z))) is k) tt
  flat_suc P (y ∷ ys) (suc i) x within is h k =
      all_append P (parts (g y)) (flat (take (suc i) ys)) (all_front P (parts (g y)) (flat (take i ys)) h) (flat_suc P ys i x (omega (arith, within)) is (all_back P (parts (g y)) (flat (take i ys)) h) k)

  -- what holds of the parts of some, and of those of the next, holds of one more
  pub flat_more : (P : Term → Type 0) (xs : List X) (i : ℕ) (x : X) → i < length xs → x ≡ get_or xs i x → AllByRecursion P (flat (take i xs)) → AllByRecursion P (parts (g x)) → AllByRecursion P (flat (take (i + 1) xs))
  flat_more P xs i x within is h k =
      let one_more : suc i ≡ i + 1 = omega arith in
      subst (λ (n : ℕ). AllByRecursion P (flat (take n xs))) one_more (flat_suc P xs i x within is h k)

-- the types of members
abbrev pub field_type : Field → Term
field_type f = term_view f.of

abbrev pub row_type : Row → Term
row_type r = term_view r.of

pub fields_flat : (fs : List Field) → parts_of_fields (fields_view fs) ≡ flat field_type fs
fields_flat [] = refl
fields_flat (f ∷ fs) = ap (λ (ts : List Term). parts (term_view f.of) ++ ts) (fields_flat fs)

pub rows_flat : (rs : List Row) → parts_of_rows (rows_view rs) ≡ flat row_type rs
rows_flat [] = refl
rows_flat (r ∷ rs) = ap (λ (ts : List Term). parts (term_view r.of) ++ ts) (rows_flat rs)

pub past_in_fields : (figures : List wire.Figure) (fs : List Field) (i : ℕ) (f : Field) → i < length fs → f ≡ get_or fs i f → (refusal : Refusal) → HoldsPast figures (parts (term_view f.of)) refusal → HoldsPast figures (parts_of_fields (fields_view fs)) refusal
past_in_fields figures fs i f within is refusal h = subst (λ (ts : List Term). HoldsPast figures ts refusal) (sym (fields_flat fs)) (past_in_flat field_type figures fs i f within is refusal h)

pub past_in_rows : (figures : List wire.Figure) (rs : List Row) (i : ℕ) (r : Row) → i < length rs → r ≡ get_or rs i r → (refusal : Refusal) → HoldsPast figures (parts (term_view r.of)) refusal → HoldsPast figures (parts_of_rows (rows_view rs)) refusal
past_in_rows figures rs i r within is refusal h = subst (λ (ts : List Term). HoldsPast figures ts refusal) (sym (rows_flat rs)) (past_in_flat row_type figures rs i r within is refusal h)

pub fields_more : (P : Term → Type 0) (fs : List Field) (i : ℕ) (f : Field) → i < length fs → f ≡ get_or fs i f → AllByRecursion P (parts_of_fields (fields_view (take i fs))) → AllByRecursion P (parts (term_view f.of)) → AllByRecursion P (parts_of_fields (fields_view (take (i + 1) fs)))
fields_more P fs i f within is h k = subst (AllByRecursion P) (sym (fields_flat (take (i + 1) fs))) (flat_more field_type P fs i f within is (subst (AllByRecursion P) (fields_flat (take i fs)) h) k)

pub rows_more : (P : Term → Type 0) (rs : List Row) (i : ℕ) (r : Row) → i < length rs → r ≡ get_or rs i r → AllByRecursion P (parts_of_rows (rows_view (take i rs))) → AllByRecursion P (parts (term_view r.of)) → AllByRecursion P (parts_of_rows (rows_view (take (i + 1) rs)))
rows_more P rs i r within is h k = subst (AllByRecursion P) (sym (rows_flat (take (i + 1) rs))) (flat_more row_type P rs i r within is (subst (AllByRecursion P) (rows_flat (take i rs)) h) k)
