-- Aliases of which it is known that what they hold has a term.
use Rattle.std.specs.Prelude.{ℕ, List}
use Rattle.std.specs.List.{Contains}
use Rattle.fidl_tree.specs.Syntax.{TypeUse}
use Rattle.fidl_tree.specs.declared.file.File.{File}
use Rattle.fidl_named.specs.declared.place.DeclarationId.{DeclarationId}
use Rattle.fidl_constraints.specs.Behind.{Target, follows, IsDeclared, RefersTo}
use Rattle.fidl_lower_types.specs.declared.node.Shape.{Shape}
use Rattle.fidl_lower_types.specs.Terms.{holds, NodeIs}
use Rattle.fidl_type_rules.specs.Made.{HasTerm}

-- a type in the file of this number is given by the name of this declaration
pub record IsNameOf (files : List File) (number : ℕ) (t : TypeUse) (p : DeclarationId) : Type 0
  where
    pub refers : (x : Target) → IsDeclared files p x → RefersTo files number t x
    pub only : (x : Target) → RefersTo files number t x → IsDeclared files p x

-- what the type of an alias holds has a term, if it holds elements
abbrev pub IsKnownAlias : List File → DeclarationId → Type 0
IsKnownAlias files p = (t : TypeUse) → IsDeclared files p (follows p.file t)
    → (number : ℕ) (u : TypeUse) (s : Shape) → NodeIs files p.file t (holds number u s)
    → HasTerm files number u

-- so it is of each of these aliases: the number of its file, and its place there
abbrev pub AreKnownAliases : List File → List (ℕ × ℕ) → Type 0
AreKnownAliases files known =
    (p : DeclarationId) → Contains known (p.file, p.index) → IsKnownAlias files p
