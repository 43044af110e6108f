-- Structs of which any bytes are a value, but for zeros behind their members.
use Rattle.std.specs.Prelude.{◌≡◌, ℕ, ◌+◌, ◌<◌, ◌≤◌, List, Some, None}
use Rattle.fidl_table_format.specs.declared.kind.EntryKind.TheVariants.{Struct}
use Rattle.fidl_table_format.specs.Kind.{kind_of}
use Rattle.fidl_table_format.specs.Section.{header_of, entry_at}
use Rattle.fidl_decode_model.specs.declared.frame.Remaining.TheVariants.{Rows}
use Rattle.fidl_decode_model.specs.State.{Message}
use Rattle.fidl_decode_model.specs.Machine.{Passes}
use Rattle.fidl_decode_values.specs.declared.passing_structs.FreeStruct.{FreeStruct}

-- what is known of the struct of an entry is so: its size, and that its members, which stand in the
-- first so many of its bytes, take any
pub record IsFreeStruct (t : List ℕ) (m : Message) (s : FreeStruct) : Type 0 where
  pub entry : s.entry < (header_of t).entries
  pub is : kind_of (entry_at t s.entry).kind ≡ Some Struct
  pub size : (entry_at t s.entry).size ≡ s.size
  pub wide : (entry_at t s.entry).count ≤ s.done
  pub passes : let d = entry_at t s.entry in
      Passes t m (Rows d.first d.count) d.count (d.first + d.count) 0 s.done None
