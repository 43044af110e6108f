-- Structs that stand in one another (docs/language.md, "Rules of definitions").
use Rattle.std.specs.Prelude.{ℕ, ◌≤◌, List, [], Option, Some, None, get_or}
use Rattle.std.specs.List.{Contains, filter_map}
use Rattle.fidl_wire.specs.Term.{Term, nothing}
use Rattle.fidl_wire.specs.Term as ty
use Rattle.fidl_cycles.specs.Cycles.{Leads}
use Rattle.fidl_ir.specs.Members.{field_types}

-- the definition that a type is, or an array of it
abbrev pub inline_name : Term → Option ℕ
inline_name (ty.named i) = Some i
inline_name (ty.array t n) = inline_name t
inline_name _ = None

-- the definitions that stand in a struct as members, or as arrays of them
abbrev pub inline_names : Term → List ℕ
inline_names (ty.struct fs) = filter_map inline_name (field_types fs)
inline_names _ = []

-- one definition stands in another at once
abbrev pub HoldsInline : List Term → (outer inner : ℕ) → Type 0
HoldsInline terms outer inner = Contains (inline_names (get_or terms outer nothing)) inner

-- a definition stands in itself, at once or over others
abbrev pub StandsInItself : List Term → ℕ → Type 0
StandsInItself terms i = Leads (HoldsInline terms) i i

-- one definition stands in another at once, and neither has a lower number than this
abbrev pub HoldsInlineFrom : List Term → (first : ℕ) → (outer inner : ℕ) → Type 0
HoldsInlineFrom terms first outer inner =
    HoldsInline terms outer inner × (first ≤ outer) × (first ≤ inner)

-- a definition stands in itself, at once or over others, and is the first of these by its number
abbrev pub IsFirstInItself : List Term → ℕ → Type 0
IsFirstInItself terms i = Leads (HoldsInlineFrom terms i) i i
