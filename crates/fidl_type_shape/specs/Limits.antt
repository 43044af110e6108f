-- The limits of types: what stands in a term, and how large and how nested it may be
-- (docs/language.md, "Figures").
use Rattle.std.specs.Prelude.{ℕ, ◌≤◌, List, [], ◌∷◌, ◌++◌, Some, length}
use Rattle.std.specs.List.{AllByRecursion}
use Rattle.fidl_limits.specs.declared.limits.TheConstants.{MAX_INLINE_SIZE, MAX_LAYOUT_MEMBERS}
use Rattle.fidl_limits.specs.declared.limits.TheConstants.{MAX_NEST}
use Rattle.fidl_wire.specs.Term.{Term, Fields, no_fields, field, Rows, no_rows, row}
use Rattle.fidl_wire.specs.Term as ty
use Rattle.fidl_ir.specs.Members.{member_types}
use Rattle.fidl_wire.specs.Figure.{Figure, Declarations, figure_of}

-- a term and all terms that stand in it; a name is not followed
abbrev mutual
  pub parts : Term → List Term
  parts (ty.vector optional bound t) = ty.vector optional bound t ∷ parts t
  parts (ty.array t n) = ty.array t n ∷ parts t
  parts (ty.box t) = ty.box t ∷ parts t
  parts (ty.struct fs) = ty.struct fs ∷ parts_of_fields fs
  parts (ty.table rows) = ty.table rows ∷ parts_of_rows rows
  parts (ty.union optional strict rows) = ty.union optional strict rows ∷ parts_of_rows rows
  parts t = t ∷ []

  pub parts_of_fields : Fields → List Term
  parts_of_fields no_fields = []
  parts_of_fields (field name t fs) = parts t ++ parts_of_fields fs

  pub parts_of_rows : Rows → List Term
  parts_of_rows no_rows = []
  parts_of_rows (row ordinal name t rows) = parts t ++ parts_of_rows rows

-- a type is small enough, and few structs and arrays stand in one another
pub record IsWithin (f : Figure) : Type 0 where
  pub small : f.size ≤ MAX_INLINE_SIZE
  pub shallow : f.nest ≤ MAX_NEST

-- all that stands in a type is within the limits
abbrev pub TypeFits : (figures : List Figure) → Term → Type 0
TypeFits figures t = AllByRecursion (λ part. IsWithin (figure_of figures part)) (parts t)

-- how many members a layout has: of an enum those that its term has, where it is strict
abbrev pub member_count : Term → ℕ
member_count (ty.enum kind (Some values)) = length values
member_count d = length (member_types d)

-- the limits hold of all that stands in declarations
pub record KeepLimits (ds : Declarations) : Type 0 where
  pub figures : AllByRecursion (TypeFits ds.figures) ds.terms
  pub members : AllByRecursion (λ d. member_count d ≤ MAX_LAYOUT_MEMBERS) ds.terms
