-- What a name may mean (docs/language.md, "Meanings").
use Rattle.std.specs.Prelude.{ℕ, ◌≡◌, ◌⊎◌, List, [], ◌∷◌, ◌++◌, map, flat_map, Option, Some, None}
use Rattle.std.specs.Prelude.{Result, Ok, Err, codes, slice_get}
use Rattle.fidl_span.specs.declared.words.Span.{Span}
use Rattle.fidl_tree.specs.Leaf.{text_at}
use Rattle.fidl_tree.specs.declared.path.PathPart.{PathPart}
use Rattle.fidl_tree.specs.declared.path.Path.{Path}
use Rattle.fidl_tree.specs.declared.file.File.{File}
use Rattle.fidl_tree.specs.declared.declaration.Declaration.{Declaration}
use Rattle.fidl_tree.specs.declared.declaration.DeclarationBody.{DeclarationBody}
use Rattle.fidl_tree.specs.declared.declaration.DeclarationBody.TheVariants.{Const, Alias}
use Rattle.fidl_tree.specs.declared.declaration.DeclarationBody.TheVariants.{«Type» as Layout}
use Rattle.fidl_tree.specs.declared.declaration.DeclarationBody.TheVariants.{Protocol, Service}
use Rattle.fidl_tree.specs.declared.declaration.DeclarationBody.TheVariants.{Resource}
use Rattle.fidl_tree.specs.declared.type_constructor.Layout.{out-Layout}
use Rattle.fidl_tree.specs.declared.type_constructor.LayoutBody.{LayoutBody, out-LayoutBody}
use Rattle.fidl_tree.specs.declared.type_constructor.LayoutBody.TheOpen.{LayoutBody-F}
use Rattle.fidl_tree.specs.declared.type_constructor.ValuesLayout.{out-ValuesLayout}
use Rattle.fidl_tree.specs.declared.value_member.ValueMember.{ValueMember}
use Rattle.fidl_named.specs.declared.place.Place.{Place}
use Rattle.fidl_named.specs.declared.place.DeclarationId.{DeclarationId}
use Rattle.fidl_named.specs.declared.meaning.Wanted.{Wanted}
use Rattle.fidl_named.specs.declared.meaning.Wanted.TheVariants as wanted
use Rattle.fidl_named.specs.declared.meaning.Predeclared.{Predeclared}
use Rattle.fidl_named.specs.declared.meaning.Predeclared.TheVariants as name
use Rattle.fidl_named.specs.declared.meaning.Meaning.{Meaning}
use Rattle.fidl_named.specs.declared.meaning.Meaning.TheVariants as meaning
use Rattle.fidl_named.specs.declared.fault.NameFault.{NameFault}
use Rattle.fidl_named.specs.declared.fault.NameFault.TheVariants.{UnknownName, AmbiguousName}
use Rattle.fidl_named.specs.declared.fault.NameFault.TheVariants.{Memory}
use Rattle.fidl_named.specs.Names.{library_of, AreDistinct}
use Rattle.fidl_named.specs.Imports.{path_span, visible, IsEntry}
use Rattle.fidl_named.specs.FullNames.{IsDeclared}

-- the components of a path
abbrev pub components : List ℕ → Path → List (List ℕ)
components src p = text_at src p.first ∷ map (λ q. text_at src q.name) p.rest.items

-- a first component and those of parts, in a file
abbrev pub names_in : File → Span → List PathPart → List (List ℕ)
names_in f first parts = text_at f.src.now first ∷ map (λ q. text_at f.src.now q.name) parts

-- components with dots between
abbrev pub dotted : List (List ℕ) → List ℕ
dotted [] = []
dotted (c ∷ cs) = c ++ flat_map (λ d. codes "." ++ d) cs

-- what kind of name a declaration gives: none to a service
abbrev pub kind_of : DeclarationBody → Option Wanted
kind_of (Const d) = Some wanted.Value
kind_of (Alias d) = Some wanted.«Type»
kind_of (Layout d) = Some wanted.«Type»
kind_of (Protocol d) = Some wanted.Protocol
kind_of (Service d) = None
kind_of (Resource d) = Some wanted.«Type»

-- the names of the language itself
abbrev pub predeclared_text : Predeclared → List ℕ
predeclared_text name.Bool = codes "bool"
predeclared_text name.Int8 = codes "int8"
predeclared_text name.Int16 = codes "int16"
predeclared_text name.Int32 = codes "int32"
predeclared_text name.Int64 = codes "int64"
predeclared_text name.Uint8 = codes "uint8"
predeclared_text name.Uint16 = codes "uint16"
predeclared_text name.Uint32 = codes "uint32"
predeclared_text name.Uint64 = codes "uint64"
predeclared_text name.Float32 = codes "float32"
predeclared_text name.Float64 = codes "float64"
predeclared_text name.String = codes "string"
predeclared_text name.Vector = codes "vector"
predeclared_text name.Array = codes "array"
predeclared_text name.Box = codes "box"
predeclared_text name.ClientEnd = codes "client_end"
predeclared_text name.ServerEnd = codes "server_end"
predeclared_text name.Byte = codes "byte"
predeclared_text name.Bytes = codes "bytes"
predeclared_text name.Max = codes "MAX"

-- all are types but the greatest bound, which is a value
abbrev pub predeclared_kind : Predeclared → Wanted
predeclared_kind name.Max = wanted.Value
predeclared_kind _ = wanted.«Type»

-- the members of bits and enums
abbrev pub layout_members : LayoutBody → List ValueMember
layout_members body = elim (out-LayoutBody body) as (λ _. List ValueMember) [
  | LayoutBody-F.Values l ↦ (out-ValuesLayout l).members.items
  | _ ↦ []
]

abbrev pub value_members : DeclarationBody → List ValueMember
value_members (Layout d) = layout_members (out-Layout d.layout).body
value_members _ = []

-- their names, in their file
abbrev pub member_names : File → Declaration → List (List ℕ)
member_names f d = map (λ m. text_at f.src.now m.name) (value_members d.body)

-- a library's name, a slash and a name
abbrev pub joined_name : (library name : List ℕ) → List ℕ
joined_name library name = library ++ codes "/" ++ name

-- a library's declaration of this name, where it is of the wanted kind
pub record IsOwn (files : List File) (library : List ℕ) (wanted : Wanted) (name : List ℕ)
    (m : Meaning) : Type 0 where
  pub id : DeclarationId
  pub file : File
  pub declaration : Declaration
  pub declared : IsDeclared files (joined_name library name) id file declaration
  pub kind : kind_of declaration.body ≡ Some wanted
  pub means : m ≡ meaning.Declared id

-- a member of a library's bits or enum
pub record IsMember (files : List File) (library type_name name : List ℕ) (m : Meaning)
    : Type 0 where
  pub id : DeclarationId
  pub file : File
  pub declaration : Declaration
  pub number : ℕ
  pub declared : IsDeclared files (joined_name library type_name) id file declaration
  pub name_is : slice_get (member_names file declaration) number ≡ Some name
  pub means : m ≡ meaning.Member id number

-- a declaration of the library that is visible under this text
pub record IsImported (files : List File) (visible_names : List (List ℕ × List ℕ)) (kind : Wanted)
    (front n : List ℕ) (m : Meaning) : Type 0 where
  pub library : List ℕ
  pub seen : IsEntry visible_names front library
  pub own : IsOwn files library kind n m

-- a member of bits or an enum of that library
pub record IsImportedMember (files : List File) (visible_names : List (List ℕ × List ℕ))
    (front type_name n : List ℕ) (m : Meaning) : Type 0 where
  pub library : List ℕ
  pub seen : IsEntry visible_names front library
  pub member : IsMember files library type_name n m

-- a predeclared name of this kind, where the library has no declaration of it that is of this kind
pub record IsPredeclared (files : List File) (library : List ℕ) (kind : Wanted) (n : List ℕ)
    (m : Meaning) : Type 0 where
  pub predeclared : Predeclared
  pub name_is : predeclared_text predeclared ≡ n
  pub kind_is : predeclared_kind predeclared ≡ kind
  pub no_own : (other : Meaning) → IsOwn files library kind n other → ⊥
  pub means : m ≡ meaning.Predeclared predeclared

-- either of them
abbrev pub IsSimple : List File → (library : List ℕ) → Wanted → List ℕ → Meaning → Type 0
IsSimple files library kind n m =
    IsOwn files library kind n m ⊎ IsPredeclared files library kind n m

-- a declaration by its name and the components before it: with none a simple name in the own
-- library, else a declaration of the library that the file sees under them
abbrev pub IsDeclarationOf : List File → File → Wanted → (front : List (List ℕ)) → List ℕ → Meaning
    → Type 0
IsDeclarationOf files f kind [] n m = IsSimple files (library_of f) kind n m
IsDeclarationOf files f kind (c ∷ cs) n m = IsImported files (visible f) kind (dotted (c ∷ cs)) n m

-- a member by its name, its type's and the components before them: with none of a type of the own
-- library, else of the library that the file sees under them
abbrev pub IsMemberOf : List File → File → (front : List (List ℕ)) → (type_name n : List ℕ)
    → Meaning → Type 0
IsMemberOf files f [] t n m = IsMember files (library_of f) t n m
IsMemberOf files f (c ∷ cs) t n m = IsImportedMember files (visible f) (dotted (c ∷ cs)) t n m

-- the same where its type's name is the last of these components
pub record IsMemberAfter (files : List File) (f : File) (before : List (List ℕ)) (n : List ℕ)
    (m : Meaning) : Type 0 where
  pub front : List (List ℕ)
  pub type_name : List ℕ
  pub before_is : before ≡ front ++ type_name ∷ []
  pub member : IsMemberOf files f front type_name n m

-- what a name may mean in a file where this kind is wanted: a declaration or, where a value is
-- wanted, a member
pub data IsReading (files : List File) (f : File) (kind : Wanted) (name : List (List ℕ))
    (m : Meaning) : Type 0 where
  declaration : (front : List (List ℕ)) (n : List ℕ) → name ≡ front ++ n ∷ []
      → IsDeclarationOf files f kind front n m → IsReading files f kind name m
  member : (before : List (List ℕ)) (n : List ℕ) → name ≡ before ++ n ∷ [] → kind ≡ wanted.Value
      → IsMemberAfter files f before n m → IsReading files f kind name m

-- this alone, or none where there is none
abbrev pub IsJust : {X : Type 0} → (X → Type 0) → Option X → Type 0
IsJust {X} P None = (x : X) → P x → ⊥
IsJust {X} P (Some x) = P x × ((y : X) → P y → y ≡ x)

-- a name means its only reading
abbrev pub Means : List File → File → Wanted → List (List ℕ) → Meaning → Type 0
Means files f wanted name m =
    IsReading files f wanted name m
    × ((other : Meaning) → IsReading files f wanted name other → other ≡ m)

-- a name has two readings
pub record IsAmbiguous (files : List File) (f : File) (wanted : Wanted) (name : List (List ℕ))
    : Type 0 where
  pub one : Meaning
  pub other : Meaning
  pub differ : one ≡ other → ⊥
  pub first : IsReading files f wanted name one
  pub second : IsReading files f wanted name other

-- what the refusal of a name says of it
abbrev pub IsTrueOfName : List File → File → (number : ℕ) → Wanted → Path → NameFault → Type 0
IsTrueOfName files f number wanted p (UnknownName place) =
    ((m : Meaning) → IsReading files f wanted (components f.src.now p) m → ⊥)
    × (place ≡ record { file = number; span = path_span p })
IsTrueOfName files f number wanted p (AmbiguousName place) =
    IsAmbiguous files f wanted (components f.src.now p)
    × (place ≡ record { file = number; span = path_span p })
IsTrueOfName files f number wanted p Memory = Unit {0}
IsTrueOfName files f number wanted p fault = ⊥

-- members of declared bits and enums have different names
abbrev pub MembersDiffer : List File → Type 0
MembersDiffer files =
    (full : List ℕ) (p : DeclarationId) (f : File) (d : Declaration) → IsDeclared files full p f d
    → AreDistinct (member_names f d)

-- what at most two readings give
abbrev pub one_of : Option Meaning → Option Meaning → Place → Result Meaning NameFault
one_of None None place = Err (UnknownName place)
one_of (Some m) None place = Ok m
one_of None (Some m) place = Ok m
one_of (Some m) (Some other) place = Err (AmbiguousName place)
