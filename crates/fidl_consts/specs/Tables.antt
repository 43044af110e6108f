-- The values of declarations and members, as a table has them by their numbers.
use Rattle.std.specs.Prelude.{ℕ, ◌≡◌, ◌+◌, pos, ◌⊎◌, true, false, List}
use Rattle.std.specs.Prelude.{[], Option, Some, None, IfSome, IsSome, IsSomeAnd, get_or}
use Rattle.std.specs.Prelude.{map}
use Rattle.std.specs.List.{Contains}
use Rattle.std.specs.Global.{Vec}
use Rattle.fidl_tree.specs.declared.file.File.{File}
use Rattle.fidl_tree.specs.Syntax.{Path, Value}
use Rattle.fidl_tree.specs.declared.type_constructor.TypeConstructor.{TypeConstructor}
use Rattle.fidl_tree.specs.declared.declaration.AliasDeclaration.{AliasDeclaration}
use Rattle.fidl_named.specs.declared.place.DeclarationId.{DeclarationId}
use Rattle.fidl_named.specs.declared.meaning.Wanted.{Wanted}
use Rattle.fidl_named.specs.declared.meaning.Wanted.TheVariants as wanted
use Rattle.fidl_named.specs.declared.meaning.Meaning.{Meaning}
use Rattle.fidl_named.specs.declared.meaning.Meaning.TheVariants as meaning
use Rattle.fidl_named.specs.Meanings.{Means}
use Rattle.fidl_named.specs.Paths.{texts}
use Rattle.fidl_named.specs.Aliases.{IsAliasAt}
use Rattle.fidl_consts.specs.declared.fault.ConstFault.{ConstFault}
use Rattle.fidl_consts.specs.declared.fault.ConstFault.TheVariants.{Memory}
use Rattle.fidl_consts.specs.declared.consts.Limits.{Limits}
use Rattle.fidl_consts.specs.declared.consts.Entry.{Entry}
use Rattle.fidl_consts.specs.declared.consts.Consts.{Consts}
use Rattle.fidl_consts.specs.declared.const_type.ConstType.{ConstType}
use Rattle.fidl_consts.specs.declared.const_type.NumberKind.TheVariants.{Uint32}
use Rattle.fidl_consts.specs.declared.const_type.ConstType.TheVariants as ty
use Rattle.fidl_consts.specs.PlainValues.{PlainValue, a_number, seen}
use Rattle.fidl_consts.specs.Types.{IsStringType}
use Rattle.fidl_consts.specs.Values.{HasValue, ValueIs, Offers}
use Rattle.fidl_consts.specs.Dependencies.{TypeUses, IsKnownNode}
use Rattle.fidl_consts.specs.Strings.{IsConstraintOf, Allows}
use Rattle.fidl_named.specs.Constraints.{is_optional}

-- the number of a declaration or a member, where these are those of each file's declarations: a
-- declaration's own, and then those of its members
abbrev pub number_of : List (Vec ℕ) → Meaning → ℕ
number_of starts (meaning.Declared p) = get_or (get_or (map (λ v. v.items) starts) p.file [])
    p.index 0
number_of starts (meaning.Member p i) = get_or (get_or (map (λ v. v.items) starts) p.file [])
    p.index 0 + 1 + i
number_of starts _ = 0

-- one of these constraints is a bound of this many bytes
pub record IsBoundAmong (files : List File) (C : ℕ → File → Value → Type 0) (bound : ℕ) : Type 0
  where
    pub of_number : ℕ
    pub file : File
    pub value : Value
    pub among : C of_number file value
    pub is : ValueIs files file (ty.Number Uint32) value (a_number (pos bound))

-- one of them is the word `optional`
pub record HasWord (C : ℕ → File → Value → Type 0) : Type 0 where
  pub of_number : ℕ
  pub file : File
  pub value : Value
  pub among : C of_number file value
  pub word : is_optional file value ≡ true

-- strings under these constraints are bounded by the limit, if there is one, and by nothing less;
-- or the word `optional` stands among them
pub record AreLimits (files : List File) (C : ℕ → File → Value → Type 0) (limits : Limits) : Type 0
  where
    pub plain : limits.optional ≡ false → (of_number : ℕ) (h : File) (v : Value) → C of_number h v
        → IsSomeAnd limits.greatest (Allows files h v)
    pub reached : IfSome limits.greatest (IsBoundAmong files C)
    pub word : limits.optional ≡ true → HasWord C

-- the value at a number of a table
abbrev pub value_at : Consts → ℕ → Option Entry
value_at c n = get_or c.values.items n None

-- the limits at a number of a table
abbrev pub limits_at : Consts → ℕ → Option Limits
limits_at c n = get_or c.limits.items n None

-- a meaning has the value of an entry, of the entry's type
abbrev pub HasEntry : List File → Meaning → Entry → Type 0
HasEntry files m e = Offers files m e.own (seen e.value)

-- an entry of this type and value
abbrev pub SomeEntry : Option Entry → ConstType → PlainValue → Type 0
SomeEntry None own k = ⊥
SomeEntry (Some e) own k = (e.own ≡ own) × (seen e.value ≡ k)

-- what a table has is true: the values of constants and members, and the limits of aliases of
-- strings
pub record AreTrue (files : List File) (c : Consts) : Type 0 where
  pub values : (m : Meaning) (e : Entry) → IsKnownNode files m
      → value_at c (number_of c.starts.items m) ≡ Some e → HasEntry files m e
  pub limits : (p : DeclarationId) (f : File) (a : AliasDeclaration) (l : Limits)
      → IsAliasAt files p f a
      → limits_at c (number_of c.starts.items (meaning.Declared p)) ≡ Some l
      → AreLimits files (IsConstraintOf files p.file f a.constructor) l

-- a table has what a declaration or a member has: a value, or limits
pub record IsDone (files : List File) (c : Consts) (m : Meaning) : Type 0 where
  pub value : HasValue files m → IsSome (value_at c (number_of c.starts.items m))
  pub limits : (p : DeclarationId) (f : File) (a : AliasDeclaration) → m ≡ meaning.Declared p
      → IsAliasAt files p f a → IsStringType files f a.constructor
      → IsSome (limits_at c (number_of c.starts.items m))

-- it has what all that these names of a file, where values are wanted, mean have
abbrev pub PathsSettled : List File → File → Consts → List Path → Type 0
PathsSettled files f c paths = (path : Path) (m : Meaning) → Contains paths path
    → Means files f wanted.Value (texts f.src.now path) m → IsKnownNode files m
    → IsDone files c m

-- the same of the names on which a type depends
abbrev pub TypeSettled : List File → File → Consts → TypeConstructor → Type 0
TypeSettled files f c t = (kind : Wanted) (path : Path) (m : Meaning) → TypeUses files f t kind path
    → Means files f kind (texts f.src.now path) m → IsKnownNode files m → IsDone files c m

-- the values and limits of all declarations and members of a set of files
pub record AreConsts (files : List File) (c : Consts) : Type 0 where
  pub are_true : AreTrue files c
  pub all : (m : Meaning) → IsKnownNode files m → IsDone files c m

-- a refusal since memory ran out, or one that says this
abbrev pub IsMemoryOr : (ConstFault → Type 0) → ConstFault → Type 0
IsMemoryOr Says fault = (fault ≡ Memory) ⊎ Says fault
