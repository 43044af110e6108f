-- What stands in a term and is past a limit, by figures that may be of some definitions alone.
use Rattle.std.specs.Prelude.{◌<◌, Bool, IsTrue, List}
use Rattle.std.specs.List.{Contains}
use Rattle.fidl_limits.specs.declared.limits.TheConstants.{MAX_INLINE_SIZE, MAX_NEST}
use Rattle.fidl_limits.specs.declared.limits.TheConstants.{MAX_LAYOUT_MEMBERS}
use Rattle.fidl_wire.specs.Term.{Term, IsNoName}
use Rattle.fidl_wire.specs.Figure.{Figure, figure_of}
use Rattle.fidl_type_shape.specs.declared.fault.Refusal.{Refusal}
use Rattle.fidl_type_shape.specs.declared.fault.Refusal.TheVariants.{Nest, Size, Members, Memory}
use Rattle.fidl_type_shape.specs.Limits.{parts, member_count}
use Rattle.fidl_type_shape.specs.Solutions.{is_settled}

-- a figure is past a limit
abbrev pub IsPast : Refusal → Figure → Type 0
IsPast Nest f = MAX_NEST < f.nest
IsPast Size f = MAX_INLINE_SIZE < f.size
IsPast Members f = ⊥
IsPast Memory f = ⊥

-- one of these terms is past a limit, and is no name
pub record HoldsPast (figures : List Figure) (terms : List Term) (refusal : Refusal) : Type 0 where
  pub part : Term
  pub among : Contains terms part
  pub own : IsNoName part
  pub past : IsPast refusal (figure_of figures part)

-- a term that stands inline in another is past a limit and no name: it has only names that the
-- whole has
pub record HoldsPastInline (figures : List Figure) (whole : Term) (refusal : Refusal) : Type 0 where
  pub part : Term
  pub among : Contains (parts whole) part
  pub own : IsNoName part
  pub past : IsPast refusal (figure_of figures part)
  pub inline : (chosen : List Bool) → IsTrue (is_settled chosen whole)
      → IsTrue (is_settled chosen part)

-- a definition is past a limit, or what stands inline in it
abbrev pub IsDefinitionPast : (figures : List Figure) → (d : Term) → Refusal → Type 0
IsDefinitionPast figures d Nest = HoldsPastInline figures d Nest
IsDefinitionPast figures d Size = HoldsPastInline figures d Size
IsDefinitionPast figures d Members = MAX_LAYOUT_MEMBERS < member_count d
IsDefinitionPast figures d Memory = ⊥

-- what stands in a definition is past a limit, or memory ran out
abbrev pub IsPastWithin : (figures : List Figure) → (d : Term) → Refusal → Type 0
IsPastWithin figures d Nest = HoldsPast figures (parts d) Nest
IsPastWithin figures d Size = HoldsPast figures (parts d) Size
IsPastWithin figures d Members = ⊥
IsPastWithin figures d Memory = Unit {0}
