-- What each refusal says (docs/language.md, "Figures").
use Rattle.std.specs.Prelude.{ℕ, suc, ◌≡◌, ◌<◌, Bool, IsTrue, List, Some, slice_get}
use Rattle.std.specs.List.{Contains}
use Rattle.fidl_limits.specs.declared.limits.TheConstants.{MAX_INLINE_SIZE, MAX_LAYOUT_MEMBERS}
use Rattle.fidl_limits.specs.declared.limits.TheConstants.{MAX_NEST}
use Rattle.fidl_wire.specs.Term.{Term, IsNoName}
use Rattle.fidl_wire.specs.Figure.{Figure, figure_of}
use Rattle.fidl_type_shape.specs.declared.fault.FigureFault.{FigureFault}
use Rattle.fidl_type_shape.specs.declared.fault.FigureFault.TheVariants.{TooNested, TooLarge}
use Rattle.fidl_type_shape.specs.declared.fault.FigureFault.TheVariants.{TooManyMembers, Memory}
use Rattle.fidl_type_shape.specs.declared.fault.Excess.{Excess}
use Rattle.fidl_type_shape.specs.declared.fault.Excess.TheVariants.{Nest, Size}
use Rattle.fidl_type_shape.specs.Limits.{parts, member_count}
use Rattle.fidl_type_shape.specs.Nesting.{Nested}
use Rattle.fidl_type_shape.specs.Solutions.{is_settled, Solve}

-- in the definition of this number stands a type from which on 33 structs and arrays stand in one
-- another: the definition itself or an array, and no other definition that it names
pub record IsTooNested (terms : List Term) (i : ℕ) : Type 0 where
  pub definition : Term
  pub part : Term
  pub stands : slice_get terms i ≡ Some definition
  pub among : Contains (parts definition) part
  pub own : IsNoName part
  pub nested : Nested terms (suc MAX_NEST) part

-- in the definition of this number stands a type that is too large, by figures that solve the
-- equations of all definitions that stand inline in it: the definition itself or an array, and no
-- other definition that it names
pub record IsTooLarge (terms : List Term) (i : ℕ) : Type 0 where
  pub definition : Term
  pub part : Term
  pub stands : slice_get terms i ≡ Some definition
  pub among : Contains (parts definition) part
  pub own : IsNoName part
  pub figures : List Figure
  pub chosen : List Bool
  pub solve : Solve terms figures chosen
  pub settled : IsTrue (is_settled chosen part)
  pub large : MAX_INLINE_SIZE < (figure_of figures part).size

-- the definition of this number has too many members
pub record HasTooManyMembers (terms : List Term) (i : ℕ) : Type 0 where
  pub definition : Term
  pub stands : slice_get terms i ≡ Some definition
  pub many : MAX_LAYOUT_MEMBERS < member_count definition

-- a refusal is true of definitions; that memory ran out says nothing of them
abbrev pub IsTrueOf : (terms : List Term) → FigureFault → Type 0
IsTrueOf terms (TooNested i) = IsTooNested terms i
IsTrueOf terms (TooLarge i) = IsTooLarge terms i
IsTrueOf terms (TooManyMembers i) = HasTooManyMembers terms i
IsTrueOf terms Memory = Unit {0}

-- What is said of one type, by the figures of all definitions.

-- a figure is past a limit of types
abbrev pub IsBeyond : Excess → Figure → Type 0
IsBeyond Nest f = MAX_NEST < f.nest
IsBeyond Size f = MAX_INLINE_SIZE < f.size

-- in a type stands one that is past a limit: the type itself or an array in it, and no definition
-- that it names
pub record HoldsExcess (figures : List Figure) (t : Term) (excess : Excess) : Type 0 where
  pub part : Term
  pub among : Contains (parts t) part
  pub own : IsNoName part
  pub beyond : IsBeyond excess (figure_of figures part)
