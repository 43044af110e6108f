-- Methods that are found by their names.
use Rattle.std.specs.Prelude.{◌≡◌, ◌≢◌, ◌<◌, ◌≤◌, ℕ, List, length, Option, MatchOption}
use Rattle.std.specs.BTreeMap.{BTreeMap, get_by}
use Rattle.std.specs.Global.{Vec}
use Rattle.std.specs.Cmp.Lexicographic.{slice_cmp}
use Rattle.std.specs.Ordering.{nat_cmp}
use Rattle.fidl_table_format.specs.Section.{header_of}
use Rattle.fidl_table_format.specs.Method.{method_name, method_number}
use Rattle.fidl_verify.specs.Lookups.{TableProtocol, protocol_record}
use Rattle.fidl_script.specs.declared.methods.TheConstants.{LONGEST_NAME}

-- the name of the method at a place of a protocol
abbrev pub name_of_method : TableProtocol → (place : ℕ) → List ℕ
name_of_method p place = method_name p.table (header_of p.table)
    (method_number p.table (header_of p.table) p.number place)

-- no method at the first places has the name
abbrev pub HasNoneNamed : TableProtocol → (count : ℕ) → (name : List ℕ) → Type 0
HasNoneNamed p count name = (k : ℕ) → k < count → name_of_method p k ≢ name

-- the first method of the name is at this place, one of the first places
pub record IsFirstNamed (p : TableProtocol) (count : ℕ) (name : List ℕ) (place : ℕ) : Type 0 where
  pub within : place < count
  pub named : name_of_method p place ≡ name
  pub first : HasNoneNamed p place name

-- the place that a map has at a name
abbrev pub place_at : BTreeMap (Vec ℕ) ℕ → (name : List ℕ) → Option ℕ
place_at places name = get_by (λ key. slice_cmp nat_cmp name key.items) places

-- a map has the place of the first method of each name that is not long, among the first places
abbrev pub Finds : TableProtocol → (count : ℕ) → BTreeMap (Vec ℕ) ℕ → Type 0
Finds p count places = (name : List ℕ) → length name ≤ LONGEST_NAME
    → MatchOption (place_at places name) (HasNoneNamed p count name) (IsFirstNamed p count name)

-- a map has the places of all methods of the protocol
abbrev pub FindsAll : TableProtocol → BTreeMap (Vec ℕ) ℕ → Type 0
FindsAll p places = Finds p (protocol_record p).methods places
