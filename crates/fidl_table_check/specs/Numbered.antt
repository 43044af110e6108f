-- Coding tables whose entries are the types of a list (docs/table.md, "Tables that show their
-- types").
use Rattle.std.specs.Prelude.{◌≡◌, ℕ, List, length, Some, slice_get}
use Rattle.fidl_wire.specs.Value.{Value}
use Rattle.fidl_wire.specs.Term.{Term}
use Rattle.fidl_wire.specs.Term as ty
use Rattle.fidl_wire.specs.Figure.{Declarations}
use Rattle.fidl_equivalence.specs.Alike.{AreNumbered, IsOne}
use Rattle.fidl_table_format.specs.Section.{header_of, entry_at, name_at}
use Rattle.fidl_table_format.specs.Terms.{declarations_of}

-- as many entries as types, and each entry declares its type one level deep, with its parts named
-- by their numbers in the list
pub record AreEntries (ds : Declarations) (types : List Term) (bytes : List ℕ) : Type 0 where
  pub count : (header_of bytes).entries ≡ length types
  pub levels : AreNumbered ds (declarations_of bytes) types

-- the entry of each type's number has the type's values, with their encodings, depths and texts
abbrev pub ShowsTypes : Declarations → List Term → List ℕ → Type 0
ShowsTypes ds types bytes = (number : ℕ) (t : Term) → slice_get types number ≡ Some t
    → (v : Value) → IsOne ds (declarations_of bytes) t (ty.named number) v

-- the name of the entry of this number
abbrev pub entry_name : List ℕ → (number : ℕ) → List ℕ
entry_name bytes number =
    let e = entry_at bytes number in
    name_at bytes (header_of bytes) e.name_place e.name_length

-- the entry of each layout has the layout's name: names are those of the definitions, by number
abbrev pub HaveNames : (names : List (List ℕ)) (types : List Term) (bytes : List ℕ) → Type 0
HaveNames names types bytes = (number i : ℕ) → slice_get types number ≡ Some (ty.named i)
    → slice_get names i ≡ Some (entry_name bytes number)
