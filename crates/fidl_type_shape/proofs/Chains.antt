-- Structs that stand in one another, for worked facts.
use Rattle.std.proofs.Common.{length, ◌≡◌, ℕ, zero, suc, List, [], ◌∷◌, refl, ap}
use Rattle.fidl_wire.specs.Term.{Term, no_fields, field}
use Rattle.fidl_wire.specs.Term as ty
use Rattle.std.specs.Prelude.{codes}
use Rattle.fidl_ir.specs.Members.{field_types}
use Rattle.fidl_type_shape.specs.Nesting.{Nested, none, empty, in_struct, by_name}
use Rattle.fidl_type_shape.specs.Samples.{holding, struct_in, bools}
use Rattle.fidl_type_shape.proofs.Lists.{among_first}

-- one more struct around
pub around_one : (terms : List Term) (n : ℕ) (t : Term) → Nested terms n t → Nested terms (suc n) (holding t)
around_one terms n t h = in_struct n (field (codes "a") t no_fields) t (among_first t []) h

-- a struct in as many others
pub nested_in : (terms : List Term) (n : ℕ) → Nested terms (suc n) (struct_in n)
nested_in terms zero = empty
nested_in terms (suc n) = around_one terms (suc n) (struct_in n) (nested_in terms n)

-- a struct that has itself as a member
pub in_itself : (n : ℕ) → Nested (holding (ty.named 0) ∷ []) n (holding (ty.named 0))
in_itself zero = none (holding (ty.named 0))
in_itself (suc n) = around_one (holding (ty.named 0) ∷ []) n (ty.named 0) (by_name n 0 (holding (ty.named 0)) refl (in_itself n))

-- as many members as were asked for
pub bools_counted : (n : ℕ) → length (field_types (bools n)) ≡ n
bools_counted zero = refl
bools_counted (suc n) = ap suc (bools_counted n)
