-- What each fault says of a table (docs/table.md, "Faults").
use Rattle.std.specs.Prelude.{◌≡◌, ◌≢◌, ℕ, ◌<◌, ◌≤◌, List, length, codes}
use Rattle.fidl_limits.specs.declared.limits.TheConstants.{MAX_ENTRIES}
use Rattle.fidl_table_format.specs.declared.section.TheConstants.{HEADER_SIZE}
use Rattle.fidl_table_format.specs.declared.record.Header.{Header}
use Rattle.fidl_table_format.specs.Section.{header_of, entry_at, protocol_at, method_at, table_length}
use Rattle.fidl_table_format.specs.Entry.{HasShape, HasChildren, Follows, HasOffsets, HasSize, HasNest}
use Rattle.fidl_table_format.specs.Entry.{IsSorted, HasNames, rows_before, values_before, entry_figure}
use Rattle.fidl_table_format.specs.Uses.{uses_rows, uses_values}
use Rattle.fidl_table_format.specs.Root.{HasEntry, HasRootName, Rises}
use Rattle.fidl_table_format.specs.Protocol.{IsOpenness, HasProtocolName, ProtocolRises, HasMethods}
use Rattle.fidl_table_format.specs.Protocol.{methods_before}
use Rattle.fidl_table_format.specs.Method.{HasMethodShape, HasMethodName, OrdinalRises}
use Rattle.fidl_table_format.specs.WellFormed.{table_magic, IsVersion}
use Rattle.fidl_verify.specs.declared.fault.TableFault.{TableFault}
use Rattle.fidl_verify.specs.declared.fault.TableFault.TheVariants.{BadMagic, BadVersion, Truncated}
use Rattle.fidl_verify.specs.declared.fault.TableFault.TheVariants.{Surplus, BadKind, BadIndex}
use Rattle.fidl_verify.specs.declared.fault.TableFault.TheVariants.{BadOffset, BadSize, BadNest}
use Rattle.fidl_verify.specs.declared.fault.TableFault.TheVariants.{NotSorted, BadName, BadMethod}

-- the fault's number
abbrev pub number_of : TableFault → ℕ
number_of (BadMagic at) = 1
number_of (BadVersion at) = 2
number_of (Truncated at) = 3
number_of (Surplus at) = 4
number_of (BadKind at) = 5
number_of (BadIndex at) = 6
number_of (BadOffset at) = 7
number_of (BadSize at) = 8
number_of (BadNest at) = 9
number_of (NotSorted at) = 10
number_of (BadName at) = 11
number_of (BadMethod at) = 12

-- the fault's name, as its variant is spelled
abbrev pub name_of : TableFault → List ℕ
name_of (BadMagic at) = codes "BadMagic"
name_of (BadVersion at) = codes "BadVersion"
name_of (Truncated at) = codes "Truncated"
name_of (Surplus at) = codes "Surplus"
name_of (BadKind at) = codes "BadKind"
name_of (BadIndex at) = codes "BadIndex"
name_of (BadOffset at) = codes "BadOffset"
name_of (BadSize at) = codes "BadSize"
name_of (BadNest at) = codes "BadNest"
name_of (NotSorted at) = codes "NotSorted"
name_of (BadName at) = codes "BadName"
name_of (BadMethod at) = codes "BadMethod"

-- the number of the record at fault
abbrev pub place_of : TableFault → ℕ
place_of (BadMagic at) = at
place_of (BadVersion at) = at
place_of (Truncated at) = at
place_of (Surplus at) = at
place_of (BadKind at) = at
place_of (BadIndex at) = at
place_of (BadOffset at) = at
place_of (BadSize at) = at
place_of (BadNest at) = at
place_of (NotSorted at) = at
place_of (BadName at) = at
place_of (BadMethod at) = at

-- a header that states what it must not; all are reported at 0
pub data BreaksHeader (bytes : List ℕ) (h : Header) : TableFault → Type 0 where
  magic : h.magic ≢ table_magic → BreaksHeader bytes h (BadMagic 0)
  version : ¬ IsVersion h → BreaksHeader bytes h (BadVersion 0)
  short : length bytes < table_length h → BreaksHeader bytes h (Truncated 0)
  long : table_length h < length bytes → BreaksHeader bytes h (Surplus 0)

-- a record that breaks the rule that is named, or too many or too few of them
pub data BreaksRecord (bytes : List ℕ) (h : Header) : TableFault → Type 0 where
  many_entries : MAX_ENTRIES < h.entries → BreaksRecord bytes h (BadIndex 0)
  shape : (at : ℕ) → at < h.entries → ¬ HasShape (entry_at bytes at)
      → BreaksRecord bytes h (BadKind at)
  children : (at : ℕ) → at < h.entries → ¬ HasChildren bytes h (entry_at bytes at)
      → BreaksRecord bytes h (BadIndex at)
  rows : (at : ℕ) → at < h.entries → ¬ Follows uses_rows (rows_before bytes at) (entry_at bytes at)
      → BreaksRecord bytes h (BadIndex at)
  values : (at : ℕ) → at < h.entries
      → ¬ Follows uses_values (values_before bytes at) (entry_at bytes at)
      → BreaksRecord bytes h (BadIndex at)
  offsets : (at : ℕ) → at < h.entries → ¬ HasOffsets bytes h (entry_at bytes at)
      → BreaksRecord bytes h (BadOffset at)
  size : (at : ℕ) → at < h.entries
      → ¬ HasSize (entry_figure bytes h (entry_at bytes at)) (entry_at bytes at)
      → BreaksRecord bytes h (BadSize at)
  nest : (at : ℕ) → at < h.entries
      → ¬ HasNest (entry_figure bytes h (entry_at bytes at)) (entry_at bytes at)
      → BreaksRecord bytes h (BadNest at)
  sorted : (at : ℕ) → at < h.entries → ¬ IsSorted bytes h (entry_at bytes at)
      → BreaksRecord bytes h (NotSorted at)
  names : (at : ℕ) → at < h.entries → ¬ HasNames bytes h (entry_at bytes at)
      → BreaksRecord bytes h (BadName at)
  -- the first row that no entry has, and the first value that no entry has
  row : rows_before bytes h.entries < h.rows
      → BreaksRecord bytes h (BadIndex (rows_before bytes h.entries))
  value : values_before bytes h.entries < h.values
      → BreaksRecord bytes h (BadIndex (values_before bytes h.entries))
  root : (at : ℕ) → at < h.roots → ¬ HasEntry bytes h at → BreaksRecord bytes h (BadIndex at)
  root_name : (at : ℕ) → at < h.roots → ¬ HasRootName bytes h at → BreaksRecord bytes h (BadName at)
  root_order : (at : ℕ) → at < h.roots → ¬ Rises bytes h at → BreaksRecord bytes h (NotSorted at)
  openness : (at : ℕ) → at < h.protocols → ¬ IsOpenness (protocol_at bytes h at)
      → BreaksRecord bytes h (BadMethod at)
  protocol_name : (at : ℕ) → at < h.protocols → ¬ HasProtocolName bytes h at
      → BreaksRecord bytes h (BadName at)
  protocol_order : (at : ℕ) → at < h.protocols → ¬ ProtocolRises bytes h at
      → BreaksRecord bytes h (NotSorted at)
  protocol_methods : (at : ℕ) → at < h.protocols → ¬ HasMethods bytes h at
      → BreaksRecord bytes h (BadIndex at)
  -- methods that no protocol has
  method : methods_before bytes h h.protocols < h.methods
      → BreaksRecord bytes h (BadIndex h.protocols)
  method_shape : (at : ℕ) → at < h.methods → ¬ HasMethodShape bytes h (method_at bytes h at)
      → BreaksRecord bytes h (BadMethod at)
  method_name : (at : ℕ) → at < h.methods → ¬ HasMethodName bytes h (method_at bytes h at)
      → BreaksRecord bytes h (BadName at)
  method_order : (at : ℕ) → at < h.methods → ¬ OrdinalRises bytes h at
      → BreaksRecord bytes h (NotSorted at)

-- what each fault says of a table: it has no header, or its header breaks the rule, or, in a table
-- whose sections fill it, a record does
pub data Breaks (bytes : List ℕ) : TableFault → Type 0 where
  no_header : length bytes < HEADER_SIZE → Breaks bytes (Truncated 0)
  header : (fault : TableFault) → HEADER_SIZE ≤ length bytes
      → BreaksHeader bytes (header_of bytes) fault → Breaks bytes fault
  record_at : (fault : TableFault) → length bytes ≡ table_length (header_of bytes)
      → BreaksRecord bytes (header_of bytes) fault → Breaks bytes fault
