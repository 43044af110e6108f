-- What each constraint of a type gives to it, and what all of them give (docs/language.md, "What
-- constraints give").
use Rattle.std.specs.Prelude.{ℕ, zero, suc, ◌≡◌, ◌<◌, ◌^◌, pos, Bool, true, false, List}
use Rattle.std.specs.Prelude.{if◌then◌else◌, Option, Some, None, slice_get}
use Rattle.std.specs.List.{AllZip}
use Rattle.fidl_tree.specs.Syntax.{Path, Value, TypeUse, union_layout}
use Rattle.fidl_tree.specs.declared.file.File.{File}
use Rattle.fidl_named.specs.declared.meaning.Wanted.TheVariants as wanted
use Rattle.fidl_named.specs.declared.meaning.Predeclared.TheVariants as name
use Rattle.fidl_named.specs.declared.meaning.Meaning.{Meaning}
use Rattle.fidl_named.specs.declared.meaning.Meaning.TheVariants as meaning
use Rattle.fidl_named.specs.Meanings.{Means}
use Rattle.fidl_named.specs.Paths.{texts}
use Rattle.fidl_named.specs.Constraints.{path_alone}
use Rattle.fidl_consts.specs.declared.const_type.NumberKind.TheVariants.{Uint32}
use Rattle.fidl_consts.specs.declared.const_type.ConstType.TheVariants as ty
use Rattle.fidl_consts.specs.PlainValues.{a_number}
use Rattle.fidl_consts.specs.Values.{ValueIs}
use Rattle.fidl_consts.specs.Constraints.{HandleValueIs}
use Rattle.fidl_constraints.specs.declared.parts.PartKind.{PartKind}
use Rattle.fidl_constraints.specs.declared.parts.PartKind.TheVariants.{Optional, Bound, Protocol}
use Rattle.fidl_constraints.specs.declared.parts.PartKind.TheVariants.{Subtype, Rights}
use Rattle.fidl_constraints.specs.declared.parts.Part.{Part}
use Rattle.fidl_constraints.specs.Behind.{Head, word_head, layout_head, handle_head, Core, Behind}
use Rattle.fidl_constraints.specs.Items.{Item, all_items}
use Rattle.fidl_constraints.specs.Parts.{GivenOnce}

-- the word `optional` may be given: to what has an absent form, to a handle behind its other
-- constraints alone
abbrev pub may_be_absent : Head → (last : Bool) → Bool
may_be_absent (word_head name.String _) last = true
may_be_absent (word_head name.Vector _) last = true
may_be_absent (word_head name.Bytes _) last = true
may_be_absent (word_head name.ClientEnd _) last = true
may_be_absent (word_head name.ServerEnd _) last = true
may_be_absent (layout_head (union_layout strict is_resource keyword ms)) last = true
may_be_absent (handle_head p) last = last
may_be_absent _ last = false

-- what the other constraints of a handle are for, by how many stand before in the list
abbrev pub property_kind : (rank : ℕ) → Option PartKind
property_kind zero = Some Subtype
property_kind (suc zero) = Some Rights
property_kind _ = None

-- what another constraint of a type is for
abbrev pub ordinary_kind : Head → (rank : ℕ) → Option PartKind
ordinary_kind (word_head name.String _) rank = Some Bound
ordinary_kind (word_head name.Vector _) rank = Some Bound
ordinary_kind (word_head name.Bytes _) rank = Some Bound
ordinary_kind (word_head name.ClientEnd _) rank = Some Protocol
ordinary_kind (word_head name.ServerEnd _) rank = Some Protocol
ordinary_kind (handle_head p) rank = property_kind rank
ordinary_kind _ rank = None

-- what a constraint of a type is for, if it may have such a one
abbrev pub item_kind : Head → Item → Option PartKind
item_kind head x = if x.word then Some Optional else ordinary_kind head x.rank

-- this is true of the file of this number
pub record InFile (files : List File) (number : ℕ) (P : File → Type 0) : Type 0 where
  pub file : File
  pub at : slice_get files number ≡ Some file
  pub is : P file

-- a value is just the name of a protocol
pub record NamesProtocol (files : List File) (v : Value) (f : File) : Type 0 where
  pub path : Path
  pub protocol : Meaning
  pub alone : path_alone v ≡ Some path
  pub means : Means files f wanted.Protocol (texts f.src.now path) protocol

-- it has this number of 32 bits at the type of the property that it is for
abbrev pub IsOfProperty : List File → Head → (rank : ℕ) → Value → ℕ → File → Type 0
IsOfProperty files (handle_head p) rank v n f =
    HandleValueIs files f (meaning.Declared p) rank v (a_number (pos n)) × (n < 2 ^ 32)
IsOfProperty files _ rank v n f = ⊥

-- a constraint gives this number to a type, where it is for this
abbrev pub IsAmount : List File → Head → Item → PartKind → ℕ → Type 0
IsAmount files head x Optional n = (may_be_absent head x.last ≡ true) × (n ≡ 0)
IsAmount files head x Bound n =
    InFile files x.file (λ f. ValueIs files f (ty.Number Uint32) x.value (a_number (pos n)))
IsAmount files head x Protocol n = InFile files x.file (NamesProtocol files x.value) × (n ≡ 0)
IsAmount files head x Subtype n = InFile files x.file (IsOfProperty files head x.rank x.value n)
IsAmount files head x Rights n = InFile files x.file (IsOfProperty files head x.rank x.value n)

-- a constraint gives this part to a type
pub record Gives (files : List File) (head : Head) (x : Item) (p : Part) : Type 0 where
  pub kind : item_kind head x ≡ Some p.kind
  pub amount : IsAmount files head x p.kind p.amount

-- each of these constraints gives its part
abbrev pub EachGives : List File → Head → List Item → List Part → Type 0
EachGives files head xs ps = AllZip (Gives files head) xs ps

-- what a type in the file of this number is behind its aliases, and what all its constraints give,
-- nothing twice
pub record IsGathered (files : List File) (number : ℕ) (t : TypeUse) (core : Core)
    (parts : List Part) : Type 0 where
  pub behind : Behind files number t core
  pub gives : EachGives files core.head (all_items files core.given) parts
  pub once : GivenOnce parts
