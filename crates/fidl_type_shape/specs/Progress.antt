-- What holds while figures are found: those that are known solve their equations.
use Rattle.std.specs.Prelude.{ℕ, ◌≡◌, ◌≤◌, ◌⊎◌, Bool, true, false, IsTrue, List, get_or, slice_set}
use Rattle.fidl_limits.specs.declared.limits.TheConstants.{MAX_LAYOUT_MEMBERS}
use Rattle.fidl_wire.specs.Term.{Term, nothing}
use Rattle.fidl_wire.specs.Figure.{Figure, figure, figure_of}
use Rattle.fidl_type_shape.specs.declared.fault.Refusal.{Refusal}
use Rattle.fidl_type_shape.specs.declared.fault.Refusal.TheVariants as Refusals
use Rattle.fidl_type_shape.specs.declared.fault.FigureFault.{FigureFault}
use Rattle.fidl_type_shape.specs.declared.fault.FigureFault.TheVariants.{TooNested, TooLarge}
use Rattle.fidl_type_shape.specs.declared.fault.FigureFault.TheVariants.{TooManyMembers, Memory}
use Rattle.fidl_type_shape.specs.Limits.{member_count}
use Rattle.fidl_type_shape.specs.Nesting.{Nested}
use Rattle.fidl_type_shape.specs.Solutions.{is_settled, IsSolved}

-- the figure of this definition is right
pub record IsFound (terms : List Term) (figures : List Figure) (known : List Bool) (i : ℕ) : Type
    0 where
  pub solved : IsSolved terms figures known i
  pub nested : Nested terms (get_or figures i (figure 1 1 0)).nest (get_or terms i nothing)
  pub few : member_count (get_or terms i nothing) ≤ MAX_LAYOUT_MEMBERS

-- the known figures are right
abbrev pub AreFound : (terms : List Term) (figures : List Figure) (known : List Bool) → Type 0
AreFound terms figures known =
    (i : ℕ) → IsTrue (get_or known i true) → IsFound terms figures known i

-- a definition was known, or waits for what stands inline in it, or its figure is found
pub data IsVisited (d : Term) (i : ℕ) (figures : List Figure) (known : List Bool) (figures' : List
    Figure) (known' : List Bool) : Type 0 where
  skipped : figures' ≡ figures → known' ≡ known
      → (IsTrue (get_or known i true) ⊎ (is_settled known d ≡ false))
      → IsVisited d i figures known figures' known'
  found : get_or known i true ≡ false → IsTrue (is_settled known d)
      → member_count d ≤ MAX_LAYOUT_MEMBERS → figures' ≡ slice_set figures i (figure_of figures d)
      → known' ≡ slice_set known i true → IsVisited d i figures known figures' known'

-- the definitions that aren't known wait for others that aren't
abbrev pub AllWait : (terms : List Term) (before after : List Bool) → Type 0
AllWait terms before after =
    (i : ℕ) → get_or after i true ≡ false → is_settled before (get_or terms i nothing) ≡ false

-- the refusal of a definition that is past a limit
abbrev pub fault_of : ℕ → Refusal → FigureFault
fault_of i Refusals.Nest = TooNested i
fault_of i Refusals.Size = TooLarge i
fault_of i Refusals.Members = TooManyMembers i
fault_of i Refusals.Memory = Memory
