-- Which types hold handles, and what may hold them (docs/language.md, "Rules of definitions").
use Rattle.std.specs.Prelude.{ℕ, ◌≡◌, Bool, true, false, List, Some, get_or, slice_get}
use Rattle.std.specs.List.{AllByRecursion, list_any}
use Rattle.fidl_wire.specs.Term.{Term, nothing}
use Rattle.fidl_wire.specs.Term as ty
use Rattle.fidl_ir.specs.Members.{member_types}
use Rattle.fidl_ir_rules.specs.declared.mark.Mark.{Mark}
use Rattle.fidl_ir_rules.specs.declared.mark.Mark.TheVariants.{Resource, Value, Result}

-- a type is a handle or one of these definitions, or holds one in a vector, an array or a box; a
-- member's type refers to structs, tables and unions by their numbers
abbrev pub bears : (is_one : ℕ → Bool) → Term → Bool
bears is_one (ty.handle optional subtype rights) = true
bears is_one (ty.vector optional bound t) = bears is_one t
bears is_one (ty.array t n) = bears is_one t
bears is_one (ty.box t) = bears is_one t
bears is_one (ty.named i) = is_one i
bears is_one _ = false

-- the mark of a definition
abbrev pub mark_of : List Mark → ℕ → Mark
mark_of marks i = get_or marks i Value

abbrev pub is_marked : Mark → Bool
is_marked Resource = true
is_marked Value = false
is_marked Result = false

-- a definition is a resource by its mark, a result where a member is a handle or holds a marked
-- definition: no type refers to a result
abbrev pub is_resource_by : (is_marked : ℕ → Bool) → Mark → Term → Bool
is_resource_by marked Resource d = true
is_resource_by marked Value d = false
is_resource_by marked Result d = list_any (bears marked) (member_types d)

-- the definition of this number is a resource
abbrev pub is_resource : (terms : List Term) (marks : List Mark) → ℕ → Bool
is_resource terms marks i =
    is_resource_by (λ j. is_marked (mark_of marks j)) (mark_of marks i) (get_or terms i nothing)

-- the types of a definition's members hold no resource, where it isn't marked
abbrev pub MembersHold : (is_resource : ℕ → Bool) → Mark → Term → Type 0
MembersHold resource Value d = AllByRecursion (λ t. bears resource t ≡ false) (member_types d)
MembersHold resource Resource d = Unit {0}
MembersHold resource Result d = Unit {0}

-- what isn't marked holds no resource
abbrev pub AllResourcesMarked : (terms : List Term) (marks : List Mark) → Type 0
AllResourcesMarked terms marks =
    (i : ℕ) → MembersHold (is_resource terms marks) (mark_of marks i) (get_or terms i nothing)

-- this member of this definition, which isn't marked, holds a resource
pub record HoldsResource (terms : List Term) (marks : List Mark) (is_one : ℕ → Bool) (i m : ℕ) : Type
    0 where
  pub definition : Term
  pub member : Term
  pub stands : slice_get terms i ≡ Some definition
  pub unmarked : mark_of marks i ≡ Value
  pub among : slice_get (member_types definition) m ≡ Some member
  pub resource : bears is_one member ≡ true
