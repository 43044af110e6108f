-- Aliases that lead back to themselves (docs/language.md, "Aliases").
use Rattle.std.specs.Prelude.{◌≡◌, List, Option}
use Rattle.std.specs.List.{Contains}
use Rattle.fidl_tree.specs.Syntax as plain
use Rattle.fidl_tree.specs.Views.{type_view}
use Rattle.fidl_tree.specs.declared.file.File.{File}
use Rattle.fidl_tree.specs.declared.declaration.AliasDeclaration.{AliasDeclaration}
use Rattle.fidl_named.specs.declared.place.Place.{Place}
use Rattle.fidl_named.specs.declared.place.DeclarationId.{DeclarationId}
use Rattle.fidl_named.specs.declared.fault.NameFault.{NameFault}
use Rattle.fidl_named.specs.declared.fault.NameFault.TheVariants.{AliasCycle, Memory}
use Rattle.fidl_named.specs.declared.meaning.Wanted.TheVariants as wanted
use Rattle.fidl_named.specs.declared.meaning.Meaning.TheVariants as meaning
use Rattle.fidl_named.specs.Meanings.{Means}
use Rattle.fidl_names.specs.OuterTypes.{outer_types}
use Rattle.fidl_named.specs.Paths.{texts}
use Rattle.fidl_named.specs.Aliases.{Wants, IsArrayName, IsAliasAt}
use Rattle.fidl_cycles.specs.Cycles.{Leads}

-- an alias refers to a declaration: it names it as a type, outside layouts
pub record Refers (files : List File) (one other : DeclarationId) : Type 0 where
  pub file : File
  pub alias : AliasDeclaration
  pub argument_of : Option plain.Path
  pub path : plain.Path
  pub alias_at : IsAliasAt files one file alias
  pub named : Contains (outer_types (type_view alias.constructor)) (argument_of, path)
  pub wants : Wants (IsArrayName files file) argument_of wanted.«Type»
  pub means : Means files file wanted.«Type» (texts file.src.now path) (meaning.Declared other)

-- an alias that leads back to itself, and the place of its name
pub record AliasesBack (files : List File) (place : Place) : Type 0 where
  pub id : DeclarationId
  pub file : File
  pub alias : AliasDeclaration
  pub alias_at : IsAliasAt files id file alias
  pub back : Leads (Refers files) id id
  pub place_is : place ≡ record { file = id.file; span = alias.name }

-- what a refusal says: an alias that leads back; nothing where memory ran out
abbrev pub IsTrueOfAliases : List File → NameFault → Type 0
IsTrueOfAliases files (AliasCycle place) = AliasesBack files place
IsTrueOfAliases files Memory = Unit {0}
IsTrueOfAliases files fault = ⊥
