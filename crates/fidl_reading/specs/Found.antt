-- Rows that are found by their names.
use Rattle.std.specs.Prelude.{◌≡◌, ◌+◌, ◌<◌, ◌≤◌, ℕ, List, length, Option, None, IfSome}
use Rattle.std.specs.Prelude.{MatchOption, get_or}
use Rattle.std.specs.BTreeMap.{BTreeMap, get_by}
use Rattle.std.specs.Global.{Vec}
use Rattle.std.specs.Cmp.Lexicographic.{slice_cmp}
use Rattle.std.specs.Ordering.{nat_cmp}
use Rattle.fidl_table_format.specs.declared.record.Entry.{Entry}
use Rattle.fidl_table_format.specs.Section.{header_of, entry_at}
use Rattle.fidl_reading.specs.declared.named_rows.TheConstants.{LONGEST_NAME}
use Rattle.fidl_reading.specs.Keys.{name_of_row, HasNoRow}

-- the row that a map has at a name
abbrev pub row_of : BTreeMap (Vec ℕ) ℕ → (name : List ℕ) → Option ℕ
row_of rows name = get_by (λ key. slice_cmp nat_cmp name key.items) rows

-- the first of some rows that bears the name
pub record IsFirst (table : List ℕ) (first count : ℕ) (name : List ℕ) (row : ℕ) : Type 0 where
  pub k : ℕ
  pub within : k < count
  pub place : row ≡ first + k
  pub bears : name_of_row table (first + k) ≡ name
  pub lowest : HasNoRow table first k name

-- a map has the first of some rows of each name that is not long
abbrev pub Finds : (table : List ℕ) (first count : ℕ) → BTreeMap (Vec ℕ) ℕ → Type 0
Finds table first count rows = (name : List ℕ) → length name ≤ LONGEST_NAME
    → MatchOption (row_of rows name)
    (HasNoRow table first count name) (IsFirst table first count name)

-- a map, where there is one, has the rows of an entry
abbrev pub FindsOf : (table : List ℕ) → Entry → Option (BTreeMap (Vec ℕ) ℕ) → Type 0
FindsOf table e rows = IfSome rows (Finds table e.first e.count)

-- and so for each entry
abbrev pub AreFound : (table : List ℕ) → List (Option (BTreeMap (Vec ℕ) ℕ)) → Type 0
AreFound table all = (index : ℕ) → index < (header_of table).entries
    → FindsOf table (entry_at table index) (get_or all index None)
