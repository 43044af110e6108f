-- Structs that stand behind one another, whose members are numbers alone: what a column of their
-- members is, and what it means that the first of them are read up to a member.
use Rattle.std.specs.Prelude.{◌≡◌, ℕ, zero, suc, ◌+◌, ◌-◌, ◌*◌, ◌/◌, ◌%◌, ◌^◌, ◌<◌, ◌≤◌, List}
use Rattle.std.specs.Prelude.{length, slice_index, slice_index_or, Bool, false, IsTrue, bit_or}
use Rattle.std.specs.Prelude.{true, Option, Some, None, IfSome, Contains, pos}
use Rattle.fidl_wire.specs.Term as ty
use Rattle.fidl_wire.specs.Typed.{InMask}
use Rattle.fidl_links.specs.Links.{Written, AreFree}
use Rattle.fidl_table_format.specs.declared.kind.EntryKind.{EntryKind}
use Rattle.fidl_table_format.specs.declared.kind.EntryKind.TheVariants.{Bool as Boolean, Bits, Enum}
use Rattle.fidl_table_format.specs.declared.record.Entry.{Entry}
use Rattle.fidl_table_format.specs.Kind.{kind_of}
use Rattle.fidl_table_format.specs.Number.{number_standing}
use Rattle.fidl_table_format.specs.Section.{header_of, entry_at, row_at}
use Rattle.fidl_table_format.specs.Terms.{underlying, mask_of, strict_values, value_number}
use Rattle.fidl_table_format.specs.Terms.{values_from}
use Rattle.fidl_table_format.specs.Uses.{is_number}
use Rattle.fidl_decode_model.specs.declared.fault.DecodeFault.{DecodeFault}
use Rattle.fidl_decode_model.specs.declared.frame.Frame.{Frame}
use Rattle.fidl_decode_model.specs.declared.frame.Remaining.TheVariants.{Rows}
use Rattle.fidl_decode_model.specs.State.{Message, Position}
use Rattle.fidl_decode_model.specs.Machine.{StateFine, FrameFine, BreaksFrame, Turns, behind_rows}
use Rattle.fidl_decode_columns.specs.declared.column.Column.{Column}
use Rattle.fidl_decode_columns.specs.declared.column.Wrong.{Wrong}
use Rattle.fidl_decode_columns.specs.declared.structs.Structs.{Structs}
use Rattle.fidl_decode_columns.specs.declared.window.Window.{Window}

-- values of the kind are numbers
abbrev pub has_numbers : EntryKind → Bool
has_numbers Boolean = true
has_numbers Bits = true
has_numbers Enum = true
has_numbers k = is_number k

-- values of the entry with this index are numbers
abbrev pub IsNumericAt : List ℕ → (entry : ℕ) → Type 0
IsNumericAt t i = (k : EntryKind) × (kind_of (entry_at t i).kind ≡ Some k) × (has_numbers k ≡ true)

-- the members of so many rows, from the first on, are numbers
abbrev pub AreNumbers : List ℕ → (first count : ℕ) → Type 0
AreNumbers t first count = (i : ℕ) → first ≤ i → i < first + count
    → IsNumericAt t (row_at t (header_of t) i).entry

-- the number at a place is a value of the entry, which is of this kind
abbrev pub IsGoodAt : (t m : List ℕ) → Entry → EntryKind → (place : ℕ) → Type 0
IsGoodAt t m e Boolean place = slice_index m place ≤ 1
IsGoodAt t m e Bits place =
    IfSome (mask_of e) (λ mask. InMask mask (number_standing (underlying e) m place))
IsGoodAt t m e Enum place =
    IfSome (strict_values t (header_of t) e)
    (λ values. Contains values (number_standing (underlying e) m place))
IsGoodAt t m e k place = Unit {0}

-- each number of the type is what 64 bits are without a sign
abbrev pub HasNoSign : ty.Kind → Type 0
HasNoSign kind = (n : ℕ) → value_number kind n ≡ pos n

-- the numbers with a true at their place are values of the enum with this index
abbrev pub AreValues : (t : List ℕ) → (entry : ℕ) → (noted : List Bool) → Type 0
AreValues t i noted =
    let e = entry_at t i in
    (n : ℕ) → IsTrue (slice_index_or noted n false)
    → Contains (values_from t (header_of t) (underlying e) e.first e.count)
    (value_number (underlying e) n)

-- where the member of the struct with this number begins
abbrev pub place_of : Column → (k : ℕ) → ℕ
place_of c k = c.base + c.size * k + c.offset

-- the first n structs lie in the message, no link stands there, and so many bytes of the member lie
-- in each
pub record HasRoom (m : Written) (c : Column) (width n : ℕ) : Type 0 where
  pub within : c.base + c.size * n ≤ length m.came
  pub free : AreFree m c.base (c.base + c.size * n)
  pub member : c.offset + width ≤ c.size

-- the number of so many bytes at a place, the lowest first
abbrev pub bits_at : List ℕ → (place n : ℕ) → ℕ
bits_at m place zero = 0
bits_at m place (suc n) = slice_index m place + bits_at m (place + 1) n * 256

-- Of structs of a size, the first of which begins at a base, eight bytes were gathered of each of
-- so many. Each bit of such a byte is set in what was gathered, where the byte is the struct's own.
abbrev pub IsWindow : List ℕ → (base size : ℕ) → Window → Type 0
IsWindow m base size w = (k i : ℕ) → k < w.count → i < 8 → base ≤ w.start + i
    → w.start + i < base + size
    → bit_or (slice_index m (w.start + i + size * k)) (w.seen / 2 ^ (8 * i) % 2 ^ 8)
    ≡ w.seen / 2 ^ (8 * i) % 2 ^ 8

-- of n things the first of which something does not hold; n where it holds for all
pub record IsFirstNot (Holds : ℕ → Type 0) (n first : ℕ) : Type 0 where
  pub few : first ≤ n
  pub before : (k : ℕ) → k < first → Holds k
  pub not : first < n → ¬ (Holds first)

-- of n structs none is wrong, or this is the first, by its fault
abbrev pub IsFirstWrong : (Right : ℕ → Type 0) → (Breaks : ℕ → DecodeFault → Type 0) → (n : ℕ)
    → Option Wrong → Type 0
IsFirstWrong Right Breaks n None = (k : ℕ) → k < n → Right k
IsFirstWrong Right Breaks n (Some w) = (w.element < n) × ((k : ℕ) → k < w.element → Right k)
    × Breaks w.element w.fault

-- how many of n structs come before the first that is wrong
abbrev pub right_before : (n : ℕ) → Option Wrong → ℕ
right_before n None = n
right_before n (Some w) = w.element

-- what is found among those is the first that is wrong; else the one that was known is
abbrev pub first_of : (known found : Option Wrong) → Option Wrong
first_of known None = known
first_of known (Some w) = Some w

-- the frame of the struct with this number
abbrev pub struct_at : Structs → (k : ℕ) → Frame
struct_at x k =
    record {
      left = Rows x.entry.first x.entry.count;
      base = x.base + x.entry.size * k;
      done = 0;
      size = x.entry.size;
      nest = x.entry.nest;
      depth = x.depth;
      in_envelope = x.in_envelope;
    }

-- the structs are of an entry of the table, and each lies in the message
pub record StructsFine (t m : List ℕ) (x : Structs) : Type 0 where
  pub some : 0 < x.count
  pub within : x.base + x.entry.size * x.count ≤ length m
  pub frames : (k : ℕ) → k < x.count → FrameFine t m (struct_at x k)

-- the struct with this number is read up to this row, and so many of its bytes, a step a row
abbrev pub IsReadTo : List ℕ → Message → Structs → (row done k : ℕ) → Type 0
IsReadTo t m x row done k = (s : Position) → StateFine m s
    → Turns t m (struct_at x k) s s (row - x.entry.first)
    (record {
      below = None;
      rest =
          Some (behind_rows (struct_at x k) row (x.entry.first + x.entry.count - row) done);
    })

-- it is read to its end, a step a row
abbrev pub IsRead : List ℕ → Message → Structs → (k : ℕ) → Type 0
IsRead t m x k = (s : Position) → StateFine m s
    → Turns t m (struct_at x k) s s x.entry.count (record { below = None; rest = None })

-- it breaks a rule
abbrev pub IsBroken : List ℕ → Message → Structs → (k : ℕ) → DecodeFault → Type 0
IsBroken t m x k fault = (s : Position) → StateFine m s → BreaksFrame t m (struct_at x k) s fault

-- of n structs of which this one, if any, was known to be the first that is wrong, a part is looked
-- at in each before it: the answer is the first that is wrong now
abbrev pub Narrows : (Right : ℕ → Type 0) → (Breaks : ℕ → DecodeFault → Type 0) → (n : ℕ)
    → (known answer : Option Wrong) → Type 0
Narrows Right Breaks n known answer =
    (found : Option Wrong) × (answer ≡ first_of known found)
    × IsFirstWrong Right Breaks (right_before n known) found
