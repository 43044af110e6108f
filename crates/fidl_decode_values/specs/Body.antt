-- The envelopes of a table's value, and the members that are passed over without a turn of their own.
use Rattle.std.specs.Prelude.{◌≡◌, ℕ, ◌+◌, ◌-◌, ◌*◌, ◌<◌, ◌≤◌, List, true, Some}
use Rattle.std.specs.Int.{next_multiple_of}
use Rattle.fidl_table_format.specs.declared.kind.EntryKind.{EntryKind}
use Rattle.fidl_table_format.specs.declared.kind.EntryKind.TheVariants.{Table}
use Rattle.fidl_table_format.specs.Kind.{kind_of}
use Rattle.fidl_table_format.specs.Section.{header_of, entry_at, row_place}
use Rattle.fidl_table_format.specs.WellFormed.{WellFormed}
use Rattle.fidl_decode_model.specs.declared.frame.Frame.{Frame}
use Rattle.fidl_decode_model.specs.declared.frame.Remaining.TheVariants.{Elements, Envelopes}
use Rattle.fidl_decode_values.specs.declared.body.TableBody.{TableBody}
use Rattle.fidl_decode_values.specs.declared.body.Cursor.{Cursor}
use Rattle.fidl_decode_values.specs.declared.body.Passing.{Passing}
use Rattle.fidl_decode_values.specs.declared.body.Passing.TheVariants.{Inside, Below}
use Rattle.fidl_decode_model.specs.Invariants.{is_free}
use Rattle.fidl_decode_model.specs.Machine.{most_nest}

-- what is noted of a table's entry is so: where the first of its rows stands, and how many of them
-- name members of these envelopes
pub record BodyFine (t : List ℕ) (b : TableBody) : Type 0 where
  pub table : b.table.now ≡ t
  pub well : WellFormed t
  pub entry : b.entry < (header_of t).entries
  pub is : kind_of (entry_at t b.entry).kind ≡ Some Table
  pub rows : b.rows ≡ row_place (header_of t) (entry_at t b.entry).first
  pub known : b.known ≤ (entry_at t b.entry).count
  pub few : b.known ≤ b.count

-- the cursor notes where the row of the next envelope stands, where no ordinal below it is missing
abbrev pub IsNext : TableBody → Cursor → Type 0
IsNext b at = at.row ≡ b.rows + 16 * at.read

-- the frame of so many envelopes of a value of an entry, of which these are read
abbrev pub envelopes_behind : (entry base count depth read : ℕ) → Frame
envelopes_behind entry base count depth read =
    record {
      left = Envelopes entry read (count - read);
      base = base;
      done = 8 * read;
      size = 8 * count;
      nest = most_nest;
      depth = depth;
      in_envelope = 0;
    }

-- the same, by what is noted of the entry
abbrev pub rest_of : TableBody → (read : ℕ) → Frame
rest_of b read = envelopes_behind b.entry b.base b.count b.depth read

-- the frame of so many envelopes of a value of an entry, of which none is read
abbrev pub envelopes_of : (entry base count depth : ℕ) → Frame
envelopes_of entry base count depth =
    record {
      left = Envelopes entry 0 count;
      base = base;
      done = 0;
      size = 8 * count;
      nest = most_nest;
      depth = depth;
      in_envelope = 0;
    }

-- the frame of so many elements of a value of a vector's entry, of which none is read
abbrev pub elements_of : List ℕ → (entry base count depth : ℕ) → Frame
elements_of t entry base count depth =
    let d = entry_at t entry in
    let each = entry_at t d.first in
    record {
      left = Elements d.first each.size count;
      base = base;
      done = 0;
      size = next_multiple_of (each.size * count) 8;
      nest = each.nest + 1;
      depth = depth;
      in_envelope = 0;
    }

-- any bytes are a value of the entry, and are so many
abbrev pub IsFreeOf : List ℕ → (entry size : ℕ) → Type 0
IsFreeOf t entry size = ((kind : EntryKind) × (kind_of (entry_at t entry).kind ≡ Some kind)
    × (is_free kind (entry_at t entry) ≡ true)) × ((entry_at t entry).size ≡ size)

-- numbers of the entry are passed over so
abbrev pub IsPassing : List ℕ → (entry : ℕ) → Passing → Type 0
IsPassing t entry Inside = IsFreeOf t entry 4
IsPassing t entry Below = IsFreeOf t entry 8
