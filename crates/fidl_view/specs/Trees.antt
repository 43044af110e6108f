-- When an owned tree is the value that a view shows (docs/views.md, "to_value").
use Rattle.std.specs.Prelude.{◌≡◌, ℕ, List, [], ◌∷◌, Option, Some, None, Result, IfOk}
use Rattle.std.specs.Option.{option_map}
use Rattle.fidl_wire.specs.Value as data_of
use Rattle.fidl_wire.specs.Value.{known, values_of, list, fields}
use Rattle.fidl_wire.specs.declared.value.Value.{Value}
use Rattle.fidl_wire.specs.declared.value.Values.{Values}
use Rattle.fidl_wire.specs.declared.value.Member.{Member}
use Rattle.fidl_wire.specs.Views.{value_view, values_view, member_view}
use Rattle.fidl_wire.specs.Term.{Term}
use Rattle.fidl_wire.specs.Figure.{Declarations}
use Rattle.fidl_view.specs.Parts.{held_of}
use Rattle.fidl_view.specs.Within.{IsPart, IsElements, IsMembers, IsValueOf, IsMember}
use Rattle.fidl_view.specs.declared.view.View.{View}

-- the tree is the value that the view shows
abbrev pub IsTree : Declarations → Term → View → Value → Type 0
IsTree ds t view tree = (v : data_of.Value) → IsPart ds t view v → value_view tree ≡ v

-- memory ran out, or the tree is that value
abbrev pub Gives : {E : Type 0} → Declarations → Term → View → Result Value E → Type 0
Gives ds t view result = (v : data_of.Value) → IsPart ds t view v
    → IfOk result (λ tree. value_view tree ≡ v)

-- the same of a value of an entry
abbrev pub GivesValue : {E : Type 0} → (table : List ℕ) (index : ℕ) → View → Result Value E → Type 0
GivesValue table index view result = (v : data_of.Value) → IsValueOf table index view v
    → IfOk result (λ tree. value_view tree ≡ v)

-- of the elements that the view shows
abbrev pub GivesElements : {E : Type 0} → (table : List ℕ) (element : ℕ) → View → Result Values E
    → Type 0
GivesElements table element view result = (t : Term) (vs : data_of.Values)
    → IsElements table element view t vs → IfOk result (λ trees. values_of (values_view trees) ≡ vs)

-- of the members of the struct that it shows
abbrev pub GivesMembers : {E : Type 0} → (table : List ℕ) (index : ℕ) → View → Result Values E
    → Type 0
GivesMembers table index view result = (t : Term) (vs : data_of.Values)
    → IsMembers table index view t vs → IfOk result (λ trees. values_of (values_view trees) ≡ vs)

-- of the known member of an ordinal whose value it shows
abbrev pub GivesMember : {E : Type 0} → (table : List ℕ) (index ordinal : ℕ) → View
    → Result Member E → Type 0
GivesMember table index ordinal view result = (v : data_of.Value)
    → IsMember table index ordinal view v → IfOk result (λ tree. member_view tree ≡ known v)

-- of what the table that it shows holds at an ordinal
abbrev pub GivesHeld : {E : Type 0} → (table : List ℕ) (index ordinal : ℕ) → View
    → Result (Option Member) E → Type 0
GivesHeld table index ordinal view result = (v : data_of.Value) → IsValueOf table index view v
    → IfOk result (λ held. option_map member_view held ≡ held_of v ordinal)

-- what is held at an ordinal as a list: nothing, or the ordinal with its member
abbrev pub listed_at : (ordinal : ℕ) → Option data_of.Member → List (ℕ × data_of.Member)
listed_at ordinal None = []
listed_at ordinal (Some x) = (ordinal, x) ∷ []
