-- When the names of a set of files are resolved, and what a refusal says (docs/language.md,
-- "Resolving").
use Rattle.std.specs.Prelude.{ℕ, List, Option, Some, None}
use Rattle.std.specs.List.{Contains, AllByRecursion}
use Rattle.fidl_span.specs.declared.words.Span.{Span}
use Rattle.fidl_tree.specs.Syntax.{Path, Value, ValueMember, ValuesKind, Body}
use Rattle.fidl_tree.specs.Views.{declared_view, file_view}
use Rattle.fidl_tree.specs.declared.file.File.{File}
use Rattle.fidl_tree.specs.declared.declaration.Declaration.{Declaration}
use Rattle.fidl_named.specs.declared.place.Place.{Place}
use Rattle.fidl_named.specs.declared.fault.NameFault.{NameFault}
use Rattle.fidl_named.specs.declared.fault.NameFault.TheVariants.{DuplicateName, UnknownLibrary}
use Rattle.fidl_named.specs.declared.fault.NameFault.TheVariants.{UnknownName, AmbiguousName}
use Rattle.fidl_named.specs.declared.fault.NameFault.TheVariants.{AliasCycle, ImportCycle}
use Rattle.fidl_named.specs.declared.fault.NameFault.TheVariants.{BadImport, Memory}
use Rattle.fidl_named.specs.declared.meaning.Wanted.{Wanted}
use Rattle.fidl_named.specs.declared.meaning.Meaning.{Meaning}
use Rattle.fidl_names.specs.ImportRules.{libraries_of, ImportsAreKnown}
use Rattle.fidl_named.specs.Imports.{ImportsAreApart}
use Rattle.fidl_names.specs.ImportRules.{IsTrueOfImports}
use Rattle.fidl_named.specs.Meanings.{Means}
use Rattle.fidl_named.specs.Paths.{texts}
use Rattle.fidl_named.specs.Paths.{IsTrueOfPath}
use Rattle.fidl_names.specs.MemberLists.{RepeatsMember, DistinctMembers, IsRepeatedAt}
use Rattle.fidl_names.specs.Refusals.{IsTrueOfOne}
use Rattle.fidl_names.specs.ImportCycles.{ImportsBack}
use Rattle.fidl_named.specs.Aliases.{Wants, IsArrayName, ResolvesTo}
use Rattle.fidl_names.specs.AliasCycles.{AliasesBack}
use Rattle.fidl_named.specs.Places.{NamePlace, a_name, a_type, a_layout, a_number, a_members}
use Rattle.fidl_named.specs.Places.{body_places}
use Rattle.fidl_named.specs.Constraints.{ItemsHold, ItemsFail, ValueMeans, NameOfValueFails}

-- each name in the values of members means something
abbrev pub MembersMean : List File → File → List ValueMember → Type 0
MembersMean files f members =
    AllByRecursion (λ (m : ValueMember). ValueMeans files f m.value) members

-- a name in one of them is refused
pub record MemberFails (files : List File) (f : File) (number : ℕ) (members : List ValueMember)
    (fault : NameFault) : Type 0 where
  pub member : ValueMember
  pub among : Contains members member
  pub fails : NameOfValueFails files f number member.value fault

-- each name at a place means something; a number is no name
pub data PlaceHolds (files : List File) (f : File) : NamePlace → Type 0 where
  of_name : (kind : Wanted) (p : Path) (m : Meaning) → Means files f kind (texts f.src.now p) m
      → PlaceHolds files f (a_name kind p)
  of_type : (argument_of : Option Path) (p : Path) (cs : List Value) (kind : Wanted)
      (m end : Meaning) → Wants (IsArrayName files f) argument_of kind
      → Means files f kind (texts f.src.now p) m
      → ResolvesTo files m end → ItemsHold files f (Some end) cs
      → PlaceHolds files f (a_type argument_of p cs)
  of_layout : (cs : List Value) → ItemsHold files f None cs → PlaceHolds files f (a_layout cs)
  of_number : (argument_of : Option Path) (n : Span) → PlaceHolds files f (a_number argument_of n)
  of_members : (values : ValuesKind) (underlying : Option Path) (members : List ValueMember)
      → MembersMean files f members → PlaceHolds files f (a_members values underlying members)

-- a name at a place is refused: it has no meaning, or not just one
pub data PlaceFails (files : List File) (f : File) (number : ℕ) (fault : NameFault) : NamePlace
    → Type 0 where
  of_name : (kind : Wanted) (p : Path) → IsTrueOfPath files f number kind p fault
      → PlaceFails files f number fault (a_name kind p)
  of_type : (argument_of : Option Path) (p : Path) (cs : List Value) (kind : Wanted)
      → Wants (IsArrayName files f) argument_of kind → IsTrueOfPath files f number kind p fault
      → PlaceFails files f number fault (a_type argument_of p cs)
  of_constraint : (argument_of : Option Path) (p : Path) (cs : List Value) (kind : Wanted)
      (m end : Meaning) → Wants (IsArrayName files f) argument_of kind
      → Means files f kind (texts f.src.now p) m → ResolvesTo files m end
      → ItemsFail files f number (Some end) cs fault
      → PlaceFails files f number fault (a_type argument_of p cs)
  of_layout : (cs : List Value) → ItemsFail files f number None cs fault
      → PlaceFails files f number fault (a_layout cs)
  of_members : (values : ValuesKind) (underlying : Option Path) (members : List ValueMember)
      → MemberFails files f number members fault
      → PlaceFails files f number fault (a_members values underlying members)

-- each name in a declaration of a file means something, and in each of the file's
abbrev pub DeclarationHolds : List File → File → Body → Type 0
DeclarationHolds files f body = AllByRecursion (PlaceHolds files f) (body_places body)

abbrev pub NamesHold : List File → File → Type 0
NamesHold files f =
    AllByRecursion (λ (d : Declaration). DeclarationHolds files f (declared_view d.body))
    f.declarations.items

-- a name in a declaration of a file is refused, or in one of the file's
pub record DeclarationFails (files : List File) (f : File) (number : ℕ) (body : Body)
    (fault : NameFault) : Type 0 where
  pub place : NamePlace
  pub stands : Contains (body_places body) place
  pub fails : PlaceFails files f number fault place

pub record NameFails (files : List File) (f : File) (number : ℕ) (fault : NameFault) : Type 0 where
  pub declaration : Declaration
  pub among : Contains f.declarations.items declaration
  pub fails : DeclarationFails files f number (declared_view declaration.body) fault

-- what a refusal says of the files
abbrev pub IsTrueOfResolving : List File → NameFault → Type 0
IsTrueOfResolving files (DuplicateName place) =
    IsTrueOfOne files (λ f. IsRepeatedAt (RepeatsMember (file_view f))) (DuplicateName place)
IsTrueOfResolving files (UnknownLibrary place) =
    IsTrueOfOne files (IsTrueOfImports (libraries_of files)) (UnknownLibrary place)
IsTrueOfResolving files (BadImport place) =
    IsTrueOfOne files (IsTrueOfImports (libraries_of files)) (BadImport place)
IsTrueOfResolving files (ImportCycle place) = ImportsBack files place
IsTrueOfResolving files (AliasCycle place) = AliasesBack files place
IsTrueOfResolving files (UnknownName place) =
    IsTrueOfOne files (NameFails files) (UnknownName place)
IsTrueOfResolving files (AmbiguousName place) =
    IsTrueOfOne files (NameFails files) (AmbiguousName place)
IsTrueOfResolving files Memory = Unit {0}

-- all rules of resolving but the names' own hold
pub record RulesHold (files : List File) : Type 0 where
  pub members : AllByRecursion (λ f. DistinctMembers (file_view f)) files
  pub known : AllByRecursion (ImportsAreKnown (libraries_of files)) files
  pub apart : AllByRecursion ImportsAreApart files
  pub imports : (place : Place) → ImportsBack files place → ⊥
  pub aliases : (place : Place) → AliasesBack files place → ⊥

-- the rules of resolving hold, and each name has its meaning
pub record Resolves (files : List File) : Type 0 where
  pub rules : RulesHold files
  pub names : AllByRecursion (NamesHold files) files
