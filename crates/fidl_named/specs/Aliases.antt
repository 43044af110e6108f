-- Aliases: what they refer to, and what they resolve to (docs/language.md, "Aliases").
use Rattle.std.specs.Prelude.{◌≡◌, List, [], Option, Some, None, map, slice_get}
use Rattle.std.specs.Global.{Vec}
use Rattle.fidl_tree.specs.Syntax as plain
use Rattle.fidl_tree.specs.Views.{type_view}
use Rattle.fidl_tree.specs.declared.path.Path.{Path}
use Rattle.fidl_tree.specs.declared.file.File.{File}
use Rattle.fidl_tree.specs.declared.declaration.Declaration.{Declaration}
use Rattle.fidl_tree.specs.declared.declaration.AliasDeclaration.{AliasDeclaration}
use Rattle.fidl_tree.specs.declared.declaration.DeclarationBody.TheVariants.{Alias}
use Rattle.fidl_tree.specs.declared.type_constructor.TypeConstructor.{TypeConstructor}
use Rattle.fidl_tree.specs.declared.type_constructor.TypeConstructor.{out-TypeConstructor}
use Rattle.fidl_tree.specs.declared.type_constructor.NamedType.{out-NamedType}
use Rattle.fidl_tree.specs.declared.type_constructor.LayoutBody.TheOpen.{TypeConstructor-F}
use Rattle.fidl_named.specs.declared.ends.AliasEnd.{AliasEnd}
use Rattle.fidl_named.specs.declared.place.DeclarationId.{DeclarationId}
use Rattle.fidl_named.specs.declared.meaning.Wanted.{Wanted}
use Rattle.fidl_named.specs.declared.meaning.Wanted.TheVariants as wanted
use Rattle.fidl_named.specs.declared.meaning.Predeclared.TheVariants as name
use Rattle.fidl_named.specs.declared.meaning.Meaning.{Meaning}
use Rattle.fidl_named.specs.declared.meaning.Meaning.TheVariants as meaning
use Rattle.fidl_named.specs.Meanings.{components, Means}
use Rattle.fidl_named.specs.Paths.{texts}

-- What a type's name wants.

-- the kind that a type's name wants, where some heads are the array: a value for the second
-- argument of `array`, else a type
pub data Wants {X : Type 0} (IsHead : X → Type 0) : Option X → Wanted → Type 0 where
  by_itself : Wants IsHead None wanted.«Type»
  count : (head : X) → IsHead head → Wants IsHead (Some head) wanted.Value
  argument : (head : X) → (IsHead head → ⊥) → Wants IsHead (Some head) wanted.«Type»

-- it is the predeclared array
abbrev pub IsArray : List File → File → Path → Type 0
IsArray files f head =
    Means files f wanted.«Type» (components f.src.now head) (meaning.Predeclared name.Array)

abbrev pub WantsKind : List File → File → Option Path → Wanted → Type 0
WantsKind files f = Wants (IsArray files f)

-- the same of a path in plain data
abbrev pub IsArrayName : List File → File → plain.Path → Type 0
IsArrayName files f head =
    Means files f wanted.«Type» (texts f.src.now head) (meaning.Predeclared name.Array)

-- an alias, by its id
pub record IsAliasAt (files : List File) (p : DeclarationId) (f : File) (alias : AliasDeclaration)
    : Type 0 where
  pub declaration : Declaration
  pub file_at : slice_get files p.file ≡ Some f
  pub stands : slice_get f.declarations.items p.index ≡ Some declaration
  pub body : declaration.body ≡ Alias alias

-- What aliases resolve to.

-- the path of a type that is given by a name
abbrev pub type_path : TypeConstructor → Option Path
type_path t = elim (out-TypeConstructor t) as (λ _. Option Path) [
  | TypeConstructor-F.Named n ↦ Some (out-NamedType n.value).path
  | TypeConstructor-F.Layout l c ↦ None
]

-- an alias of a type that is given by a name, and what that name means
pub record Follows (files : List File) (m next : Meaning) : Type 0 where
  pub id : DeclarationId
  pub file : File
  pub alias : AliasDeclaration
  pub path : Path
  pub is : m ≡ meaning.Declared id
  pub alias_at : IsAliasAt files id file alias
  pub type_is : type_path alias.constructor ≡ Some path
  pub means : Means files file wanted.«Type» (components file.src.now path) next

-- what a meaning comes to when aliases are followed to their end
pub data ResolvesTo (files : List File) : Meaning → Meaning → Type 0 where
  itself : (m : Meaning) → ((next : Meaning) → Follows files m next → ⊥) → ResolvesTo files m m
  further : (m next end : Meaning) → Follows files m next → ResolvesTo files next end
      → ResolvesTo files m end

-- the constraints with which a type is written
abbrev pub constraints_of : plain.TypeUse → List plain.Value
constraints_of (plain.named_type _ _ constraints) = constraints
constraints_of (plain.layout_type _ _ constraints) = constraints

-- an alias that names a declaration as its type and adds no constraints to it, and that declaration
pub record PassesOn (files : List File) (m next : Meaning) : Type 0 where
  pub other : DeclarationId
  pub follows : Follows files m next
  pub bare : constraints_of (type_view follows.alias.constructor) ≡ []
  pub next_is : next ≡ meaning.Declared other

-- what a meaning comes to when aliases are followed as long as they add no constraints
pub data PassesTo (files : List File) : Meaning → Meaning → Type 0 where
  stays : (m : Meaning) → ((next : Meaning) → PassesOn files m next → ⊥) → PassesTo files m m
  passes : (m next end : Meaning) → PassesOn files m next → PassesTo files next end
      → PassesTo files m end

-- a meaning that is its own end
abbrev pub own_end : Meaning → AliasEnd
own_end m = record { resolved = m; passed = m }

-- both ends of a meaning
pub record IsEnd (files : List File) (m : Meaning) (end : AliasEnd) : Type 0 where
  pub resolved : ResolvesTo files m end.resolved
  pub passed : PassesTo files m end.passed

-- what a row has for a declaration are its ends
pub record HasEnd (files : List File) (rows : List (List AliasEnd)) (p : DeclarationId)
    : Type 0 where
  pub row : List AliasEnd
  pub end : AliasEnd
  pub row_at : slice_get rows p.file ≡ Some row
  pub end_at : slice_get row p.index ≡ Some end
  pub is : IsEnd files (meaning.Declared p) end

-- rows, one for each file, have the ends of each declaration
abbrev pub AreEnds : List File → List (List AliasEnd) → Type 0
AreEnds files rows =
    (p : DeclarationId) (f : File) (d : Declaration)
    → slice_get files p.file ≡ Some f → slice_get f.declarations.items p.index ≡ Some d
    → HasEnd files rows p

-- the same, as vectors hold them
abbrev pub rows_of : List (Vec AliasEnd) → List (List AliasEnd)
rows_of rows = map (λ v. v.items) rows
