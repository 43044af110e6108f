-- Declarations and members by their numbers, and how the columns of a table are filled.
use Rattle.std.specs.Prelude.{ℕ, zero, suc, ◌≡◌, ◌<◌, ◌+◌, ◌++◌, min, pos, List}
use Rattle.std.specs.Prelude.{[], ◌∷◌, Option, Some, None, IfSome}
use Rattle.std.specs.Prelude.{length, map, set, take, slice_get}
use Rattle.std.specs.List.{Contains}
use Rattle.std.specs.Global.{Vec}
use Rattle.fidl_tree.specs.declared.file.File.{File}
use Rattle.fidl_tree.specs.Syntax.{Path, Value}
use Rattle.fidl_tree.specs.Views.{path_view}
use Rattle.fidl_tree.specs.declared.type_constructor.ValuesLayout.{ValuesLayout, out-ValuesLayout}
use Rattle.fidl_tree.specs.declared.value_member.ValueMember.{ValueMember}
use Rattle.fidl_tree.specs.declared.declaration.Declaration.{Declaration}
use Rattle.fidl_tree.specs.declared.declaration.DeclarationBody.{DeclarationBody}
use Rattle.fidl_tree.specs.declared.declaration.AliasDeclaration.{AliasDeclaration}
use Rattle.fidl_named.specs.declared.place.DeclarationId.{DeclarationId}
use Rattle.fidl_named.specs.declared.meaning.Wanted.{Wanted}
use Rattle.fidl_named.specs.declared.meaning.Meaning.{Meaning}
use Rattle.fidl_named.specs.declared.meaning.Meaning.TheVariants as meaning
use Rattle.fidl_named.specs.Meanings.{Means}
use Rattle.fidl_named.specs.Paths.{texts}
use Rattle.fidl_named.specs.Aliases.{IsAliasAt}
use Rattle.fidl_consts.specs.declared.consts.Limits.{Limits}
use Rattle.fidl_consts.specs.declared.consts.Entry.{Entry}
use Rattle.fidl_consts.specs.declared.consts.Consts.{Consts}
use Rattle.fidl_consts.specs.PlainValues.{PlainValue, a_number}
use Rattle.fidl_const.specs.declared.graph.NameUse.{NameUse}
use Rattle.fidl_const.specs.declared.order.Found.{Found}
use Rattle.fidl_tree.specs.declared.declaration.ConstDeclaration.{ConstDeclaration}
use Rattle.fidl_consts.specs.Types.{IsConstAt, IsStringType, declared_values}
use Rattle.fidl_consts.specs.Values.{HasValue}
use Rattle.fidl_consts.specs.Dependencies.{IsKnownNode, DependsOn}
use Rattle.fidl_consts.specs.Strings.{IsConstraintOf}
use Rattle.fidl_consts.specs.Evaluated.{ConstantHolds}
use Rattle.fidl_consts.specs.Tables.{number_of, AreLimits, HasEntry, IsDone}

-- the members of the bits or the enum that a declaration is written as
abbrev members_in : Option ValuesLayout → List ValueMember
members_in None = []
members_in (Some l) = (out-ValuesLayout l).members.items

abbrev pub member_list : DeclarationBody → List ValueMember
member_list body = members_in (declared_values body)

-- the first members of bits or an enum, as many as these
abbrev pub first_members : DeclarationId → (count : ℕ) → List Meaning
first_members of zero = []
first_members of (suc count) = first_members of count ++ meaning.Member of count ∷ []

-- a declaration and its members
abbrev pub nodes_of : DeclarationId → (count : ℕ) → List Meaning
nodes_of of count = meaning.Declared of ∷ first_members of count

-- those of a file's declarations, of which the first has this number in it
abbrev pub nodes_in : (file index : ℕ) → List Declaration → List Meaning
nodes_in file index [] = []
nodes_in file index (d ∷ ds) = nodes_of (record { file = file; index = index })
    (length (member_list d.body)) ++ nodes_in file (suc index) ds

-- the numbers of a file's declarations, where this is the first one's
abbrev pub starts_in : (start : ℕ) → List Declaration → List ℕ
starts_in start [] = []
starts_in start (d ∷ ds) = start ∷ starts_in (start + 1 + length (member_list d.body)) ds

-- the number of the file of a declaration or a member
abbrev pub file_of : Meaning → ℕ
file_of (meaning.Declared p) = p.file
file_of (meaning.Member p i) = p.file
file_of (meaning.PropertyMember p n i) = p.file
file_of (meaning.Predeclared n) = 0

-- names as the code has them
abbrev pub name_uses_view : List NameUse → List (Wanted × Path)
name_uses_view uses = map (λ (u : NameUse). (u.kind, path_view u.path.now)) uses

-- names with their kinds are just those of which this is true
pub record AreNames (P : Wanted → Path → Type 0) (uses : List (Wanted × Path)) : Type 0 where
  pub all : (kind : Wanted) (path : Path) → P kind path → Contains uses (kind, path)
  pub just : (kind : Wanted) (path : Path) → Contains uses (kind, path) → P kind path

-- a name among these means the declaration or member of this number
pub record IsTarget (files : List File) (f : File) (starts : List (Vec ℕ))
    (uses : List (Wanted × Path)) (t : ℕ) : Type 0 where
  pub kind : Wanted
  pub path : Path
  pub meant : Meaning
  pub among : Contains uses (kind, path)
  pub means : Means files f kind (texts f.src.now path) meant
  pub node : IsKnownNode files meant
  pub number : t ≡ number_of starts meant

-- these are the numbers of just the declarations and members that names of a file mean
pub record AreTargets (files : List File) (f : File) (starts : List (Vec ℕ))
    (uses : List (Wanted × Path)) (row : List ℕ) : Type 0 where
  pub all : (kind : Wanted) (path : Path) (m : Meaning) → Contains uses (kind, path)
      → Means files f kind (texts f.src.now path) m → IsKnownNode files m
      → Contains row (number_of starts m)
  pub just : (t : ℕ) → Contains row t → IsTarget files f starts uses t

-- these are all declarations and members, each at its number
pub record AreNumbered (files : List File) (nodes : List Meaning) (starts : List (Vec ℕ)) : Type 0
  where
    pub node : (n : ℕ) (m : Meaning) → slice_get nodes n ≡ Some m → IsKnownNode files m
    pub numbered : (m : Meaning) → IsKnownNode files m
        → slice_get nodes (number_of starts m) ≡ Some m

-- each row of a graph has the numbers of just those on which the one at its number depends
pub record AreRows (files : List File) (nodes : List Meaning) (starts : List (Vec ℕ))
    (graph : List (List ℕ)) : Type 0 where
  pub long : length graph ≡ length nodes
  pub all : (n : ℕ) (one other : Meaning) (row : List ℕ) → slice_get nodes n ≡ Some one
      → slice_get graph n ≡ Some row → DependsOn files one other
      → Contains row (number_of starts other)
  pub just : (n : ℕ) (one : Meaning) (row : List ℕ) (t : ℕ) → slice_get nodes n ≡ Some one
      → slice_get graph n ≡ Some row → Contains row t
      → (other : Meaning) × (DependsOn files one other × (t ≡ number_of starts other))

-- the own constraints of a type in a file
pub record IsOwnConstraint (number : ℕ) (f : File) (values : List Value) (of_number : ℕ) (h : File)
    (v : Value) : Type 0 where
  pub same_number : of_number ≡ number
  pub same_file : h ≡ f
  pub among : Contains values v

-- the lesser of two limits
abbrev pub lesser : Option ℕ → Option ℕ → Option ℕ
lesser None other = other
lesser (Some a) None = Some a
lesser (Some a) (Some b) = Some (min a b)

-- a bound that a value is
abbrev pub IsBound : PlainValue → ℕ → Type 0
IsBound k n = k ≡ a_number (pos n)

-- a table has room for all, by these numbers
pub record HasRoom (files : List File) (nodes : List Meaning) (c : Consts) : Type 0 where
  pub numbered : AreNumbered files nodes c.starts.items
  pub values : length c.values.items ≡ length nodes
  pub limits : length c.limits.items ≡ length nodes

-- where it is a constant, it has a value at its type
abbrev pub HoldsIfConstant : List File → Meaning → Type 0
HoldsIfConstant files m = (p : DeclarationId) (f : File) (c : ConstDeclaration)
    → m ≡ meaning.Declared p → IsConstAt files p f c → ConstantHolds files p f c

-- what a declaration or a member has, as code found it: all of it, and nothing false
pub record IsFound (files : List File) (m : Meaning) (found : Found) : Type 0 where
  pub value : IfSome found.value (HasEntry files m)
  pub no_value : found.value ≡ None → HasValue files m → ⊥
  pub limits : (p : DeclarationId) (f : File) (a : AliasDeclaration) → m ≡ meaning.Declared p
      → IsAliasAt files p f a → IfSome found.limits
      (AreLimits files (IsConstraintOf files p.file f a.constructor))
  pub no_limits : found.limits ≡ None → (p : DeclarationId) (f : File) (a : AliasDeclaration)
      → m ≡ meaning.Declared p → IsAliasAt files p f a → IsStringType files f a.constructor → ⊥
  pub holds : HoldsIfConstant files m

-- a table has what all have that a declaration or a member depends on
abbrev pub UsesSettled : List File → Consts → Meaning → Type 0
UsesSettled files c one = (other : Meaning) → DependsOn files one other → IsDone files c other

-- a table has what another has, and room for as much
pub record Extends (files : List File) (old c : Consts) : Type 0 where
  pub starts : c.starts ≡ old.starts
  pub values : length c.values.items ≡ length old.values.items
  pub limits : length c.limits.items ≡ length old.limits.items
  pub kept : (m : Meaning) → IsKnownNode files m → IsDone files old m → IsDone files c m

-- the table with what was found of one, at its number
abbrev pub with_values : List (Option Entry) → ℕ → Found → List (Option Entry)
with_values values n found = set values n found.value

abbrev pub with_limits : List (Option Limits) → ℕ → Found → List (Option Limits)
with_limits limits n found = set limits n found.limits

-- all are in the order by their numbers, each after those that it depends on
pub record IsNodeOrder (files : List File) (nodes : List Meaning) (order : List ℕ) : Type 0 where
  pub within : (k n : ℕ) → slice_get order k ≡ Some n → n < length nodes
  pub whole : (n : ℕ) → n < length nodes → Contains order n
  pub after : (k n : ℕ) (one other : Meaning) → slice_get order k ≡ Some n
      → slice_get nodes n ≡ Some one → DependsOn files one other
      → (t : ℕ) × (Contains (take k order) t × (slice_get nodes t ≡ Some other))
