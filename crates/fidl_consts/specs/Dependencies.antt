-- Which declarations and members the value of one depends on (docs/language.md, "Cycles of
-- constants").
use Rattle.std.specs.Prelude.{ℕ, ◌≡◌, List, [], ◌∷◌, Option, Some, None, map, flat_map}
use Rattle.std.specs.List.{Contains}
use Rattle.fidl_tree.specs.declared.file.File.{File}
use Rattle.fidl_tree.specs.Syntax.{Path, Value}
use Rattle.fidl_tree.specs.Views.{value_view}
use Rattle.fidl_tree.specs.declared.value_member.ValueMember.{ValueMember}
use Rattle.fidl_tree.specs.declared.declaration.Declaration.{Declaration}
use Rattle.fidl_tree.specs.declared.declaration.ConstDeclaration.{ConstDeclaration}
use Rattle.fidl_tree.specs.declared.declaration.AliasDeclaration.{AliasDeclaration}
use Rattle.fidl_tree.specs.declared.declaration.DeclarationBody.{DeclarationBody}
use Rattle.fidl_tree.specs.declared.declaration.DeclarationBody.TheVariants.{Const, Alias}
use Rattle.fidl_tree.specs.declared.type_constructor.TypeConstructor.{TypeConstructor}
use Rattle.fidl_tree.specs.declared.type_constructor.ValuesLayout.{ValuesLayout}
use Rattle.fidl_named.specs.declared.place.Place.{Place}
use Rattle.fidl_named.specs.declared.place.DeclarationId.{DeclarationId}
use Rattle.fidl_named.specs.declared.meaning.Wanted.{Wanted}
use Rattle.fidl_named.specs.declared.meaning.Wanted.TheVariants as wanted
use Rattle.fidl_named.specs.declared.meaning.Meaning.{Meaning}
use Rattle.fidl_named.specs.declared.meaning.Meaning.TheVariants as meaning
use Rattle.fidl_named.specs.Names.{name_span}
use Rattle.fidl_named.specs.Meanings.{Means}
use Rattle.fidl_named.specs.Paths.{texts}
use Rattle.fidl_named.specs.Places.{value_paths}
use Rattle.fidl_named.specs.Constraints.{IsDeclarationAt, ordinary}
use Rattle.fidl_cycles.specs.Cycles.{Leads}
use Rattle.fidl_consts.specs.Types.{IsStringType, IsValuesAt, IsMemberOf, constraints_of, own_path}

-- a name, and the kind that its place wants
abbrev pub Use : Type 0
Use = Wanted × Path

-- the names in a value
abbrev pub value_uses : Value → List (Wanted × Path)
value_uses v = map (λ p. (wanted.Value, p)) (value_paths v)

-- a type's own name
abbrev pub path_uses : Option Path → List (Wanted × Path)
path_uses None = []
path_uses (Some p) = (wanted.«Type», p) ∷ []

-- the names in the constraints of a type
abbrev pub constraint_paths : File → TypeConstructor → List Path
constraint_paths f t = flat_map value_paths (ordinary f (constraints_of t))

abbrev pub constraint_uses : File → TypeConstructor → List (Wanted × Path)
constraint_uses f t = flat_map value_uses (ordinary f (constraints_of t))

-- a type depends on a name: its own, and of a string's type one in its bounds. What another type
-- may be constrained by gives no value here
pub data TypeUses (files : List File) (f : File) (t : TypeConstructor) : Wanted → Path
    → Type 0 where
  by_name : (path : Path) → own_path t ≡ Some path → TypeUses files f t wanted.«Type» path
  bound : (path : Path) → IsStringType files f t → Contains (constraint_paths f t) path
      → TypeUses files f t wanted.Value path

-- a declaration depends on a name: a constant on those of its type and of its value, an alias on
-- those of its type
pub data BodyUses (files : List File) (f : File) : DeclarationBody → Wanted → Path → Type 0 where
  constant_type : (c : ConstDeclaration) (kind : Wanted) (path : Path)
      → TypeUses files f c.constructor kind path
      → BodyUses files f (Const c) kind path
  constant_value : (c : ConstDeclaration) (path : Path)
      → Contains (value_paths (value_view c.value)) path
      → BodyUses files f (Const c) wanted.Value path
  alias_type : (a : AliasDeclaration) (kind : Wanted) (path : Path)
      → TypeUses files f a.constructor kind path
      → BodyUses files f (Alias a) kind path

-- a declaration or a member of bits or an enum, by what names of it mean, with its file and the
-- place of its own name
pub data IsNode (files : List File) : Meaning → File → (at : Place) → Type 0 where
  declaration : (p : DeclarationId) (f : File) (d : Declaration) → IsDeclarationAt files p f d
      → IsNode files (meaning.Declared p) f (record { file = p.file; span = name_span d.body })
  member : (p : DeclarationId) (f : File) (l : ValuesLayout) (i : ℕ) (m : ValueMember)
      → IsValuesAt files p f l
      → IsMemberOf l i m
      → IsNode files (meaning.Member p i) f (record { file = p.file; span = m.name })

-- it depends on a name of its file: a member on those in its value
pub data Uses (files : List File) : Meaning → File → Wanted → Path → Type 0 where
  declaration : (p : DeclarationId) (f : File) (d : Declaration) (kind : Wanted) (path : Path)
      → IsDeclarationAt files p f d
      → BodyUses files f d.body kind path → Uses files (meaning.Declared p) f kind path
  member : (p : DeclarationId) (f : File) (l : ValuesLayout) (i : ℕ) (m : ValueMember) (path : Path)
      → IsValuesAt files p f l → IsMemberOf l i m
      → Contains (value_paths (value_view m.value)) path
      → Uses files (meaning.Member p i) f wanted.Value path

-- a meaning is a declaration or a member
pub record IsKnownNode (files : List File) (m : Meaning) : Type 0 where
  pub file : File
  pub place : Place
  pub is : IsNode files m file place

-- one of them depends on another: on a name that means it
pub record DependsOn (files : List File) (one other : Meaning) : Type 0 where
  pub file : File
  pub kind : Wanted
  pub path : Path
  pub uses : Uses files one file kind path
  pub means : Means files file kind (texts file.src.now path) other
  pub target : IsKnownNode files other

-- one that depends on itself, over however many others, and the place of its name
pub record DependsOnItself (files : List File) (place : Place) : Type 0 where
  pub node : Meaning
  pub file : File
  pub is : IsNode files node file place
  pub back : Leads (DependsOn files) node node
