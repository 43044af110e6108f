-- What is read of the bytes as they stand, in structs over which no link stands, is what came.
use Rattle.std.proofs.Common.{◌≡◌, ℕ, ◌+◌, ◌-◌, ◌*◌, ◌<◌, ◌≤◌, pos, List, length, slice_index, refl, sym, ap, ◌∙◌, arith}
use Rattle.std.specs.Prelude.{◌↔◌}
use Rattle.std.specs.Int.{Width, byte_len, from_le_bytes, w8, w16, w32, w64, cast_signed}
use Rattle.fidl_wire.specs.Encoding.{zeros}
use Rattle.fidl_wire.specs.Field.{number_at}
use Rattle.fidl_wire.specs.Standing.{Stands}
use Rattle.fidl_wire.specs.Term.{Kind, int8, int16, int32, int64, uint8, uint16, uint32, uint64, width}
use Rattle.fidl_wire.proofs.Stand.{copies_stand, copies_are}
use Rattle.fidl_links.specs.Links.{Written, IsFree, AreFree}
use Rattle.fidl_links.proofs.Free.{agreed_part}
use Rattle.fidl_table_format.specs.Number.{number_standing}
use Rattle.fidl_decode_model.specs.declared.fault.DecodeFault.{DecodeFault}
use Rattle.fidl_decode_model.specs.declared.fault.DecodeFault.TheVariants.{Padding}
use Rattle.fidl_decode_model.specs.Breaks.{IsPadding}
use Rattle.fidl_decode_columns.specs.declared.column.Column.{Column}
use Rattle.fidl_decode_columns.specs.Columns.{place_of, HasRoom}
use Rattle.fidl_decode_columns.proofs.Sizes.{struct_room, fewer_room}

-- bytes that stand, with those that came where no link stands, as `raw` gives them
pub record Agrees (m : Written) (raw : List ℕ) : Type 0 where
  pub len : length raw ≡ length m.came
  pub byte : (k : ℕ) → k < length m.came → IsFree m k → slice_index raw k ≡ slice_index m.came k

-- the member of one of some structs lies in the message
pub member_within_came : (m : Written) (c : Column) (wide n i : ℕ) → HasRoom m c wide n → i < n → place_of c i + wide ≤ length m.came
member_within_came m c wide n i room lt =
    let inside : c.base + c.size * i + c.size ≤ c.base + c.size * n = struct_room (c.base + c.size * i) c.base c.size i n (c.base + c.size * n) refl lt (omega arith) in
    omega (arith, inside, room.member, room.within)

module _ (m : Written) (raw : List ℕ) (a : Agrees m raw) where
  -- zeros where no link stands
  pub zeros_came : (p n : ℕ) → p + n ≤ length m.came → AreFree m p (p + n) → Stands raw p (zeros n) → Stands m.came p (zeros n)
  zeros_came p n room free s = copies_stand m.came 0 n p room (λ k from to. sym (a.byte k (omega (arith, to, room)) (free k from to)) ∙ copies_are raw 0 n p s k from to)

  pub zeros_stand_still : (p n : ℕ) → p + n ≤ length m.came → AreFree m p (p + n) → Stands m.came p (zeros n) → Stands raw p (zeros n)
  zeros_stand_still p n room free s =
      copies_stand raw 0 n p (omega (arith, room, a.len)) (λ k from to. a.byte k (omega (arith, to, room)) (free k from to) ∙ copies_are m.came 0 n p s k from to)

  -- and the first byte that is none
  pub padding_came : (from to : ℕ) → from ≤ to → to ≤ length m.came → AreFree m from to → (fault : DecodeFault) → IsPadding raw from to fault → IsPadding m.came from to fault
  padding_came from to le room free (Padding at) h = (
    h.0,
    h.1,
    zeros_came from (at - from) (omega (arith, h.0, h.1, room)) (λ k ge lt. free k ge (omega (arith, lt, h.0, h.1))) h.2,
    (λ e. h.3 (a.byte at (omega (arith, h.1, room)) (free at h.0 h.1) ∙ e)),
  )
  padding_came from to le room free fault h = absurd h

  -- a number where no link stands
  pub wide_came : (w : Width) (p : ℕ) → p + byte_len w ≤ length m.came → AreFree m p (p + byte_len w) → number_at w raw p ≡ number_at w m.came p
  wide_came w p room free = ap (λ l. from_le_bytes w l) (agreed_part m raw a.len a.byte p (p + byte_len w) room free)

  pub number_came : (kind : Kind) (p : ℕ) → p + byte_len (width kind) ≤ length m.came → AreFree m p (p + byte_len (width kind)) → number_standing kind raw p ≡ number_standing kind m.came p
  number_came int8 p room free = ap (cast_signed w8) (a.byte p (omega (arith, room)) (free p (omega arith) (omega arith)))
  number_came int16 p room free = ap (cast_signed w16) (wide_came w16 p room free)
  number_came int32 p room free = ap (cast_signed w32) (wide_came w32 p room free)
  number_came int64 p room free = ap (cast_signed w64) (wide_came w64 p room free)
  number_came uint8 p room free = ap pos (a.byte p (omega (arith, room)) (free p (omega arith) (omega arith)))
  number_came uint16 p room free = ap pos (wide_came w16 p room free)
  number_came uint32 p room free = ap pos (wide_came w32 p room free)
  number_came uint64 p room free = ap pos (wide_came w64 p room free)

  -- the member of one of some structs
  module _ (c : Column) (wide n i : ℕ) (room : HasRoom m c wide n) (lt : i < n) where
    inside : c.base + c.size * i + c.size ≤ c.base + c.size * n
    inside = struct_room (c.base + c.size * i) c.base c.size i n (c.base + c.size * n) refl lt (omega arith)

    pub member_within : place_of c i + wide ≤ length m.came
    member_within = member_within_came m c wide n i room lt

    pub member_free : AreFree m (place_of c i) (place_of c i + wide)
    member_free k from to = room.free k (omega (arith, from)) (omega (arith, to, inside, room.member))

    pub member_zeros : Stands raw (place_of c i) (zeros wide) ↔ Stands m.came (place_of c i) (zeros wide)
    member_zeros = (zeros_came (place_of c i) wide member_within member_free, zeros_stand_still (place_of c i) wide member_within member_free)

    pub member_padding : (fault : DecodeFault) → IsPadding raw (place_of c i) (place_of c i + wide) fault → IsPadding m.came (place_of c i) (place_of c i + wide) fault
    member_padding = padding_came (place_of c i) (place_of c i + wide) (omega arith) member_within member_free

  pub member_byte : (c : Column) (n i : ℕ) → HasRoom m c 1 n → i < n → slice_index raw (place_of c i) ≡ slice_index m.came (place_of c i)
  member_byte c n i room lt = a.byte (place_of c i) (let within = member_within c 1 n i room lt in omega (arith, within)) (member_free c 1 n i room lt (place_of c i) (omega arith) (omega arith))

  pub member_number : (kind : Kind) (c : Column) (n i : ℕ) → HasRoom m c (byte_len (width kind)) n → i < n → number_standing kind raw (place_of c i) ≡ number_standing kind m.came (place_of c i)
  member_number kind c n i room lt = number_came kind (place_of c i) (member_within c (byte_len (width kind)) n i room lt) (member_free c (byte_len (width kind)) n i room lt)

-- fewer structs have room too
pub fewer_free : (m : Written) (base size limit n : ℕ) → limit ≤ n → AreFree m base (base + size * n) → AreFree m base (base + size * limit)
fewer_free m base size limit n le free k from to =
    let up : base + size * limit ≤ base + size * n = fewer_room base size limit n (base + size * n) le (omega arith) in
    free k from (omega (arith, to, up))

-- some of the structs behind some others
pub part_room : (m : Written) (c : Column) (wide limit done n : ℕ) → done + n ≤ limit → HasRoom m c wide limit → HasRoom m (record { base = c.base + c.size * done; size = c.size; offset = c.offset }) wide n
part_room m c wide limit done n le room =
    let up : c.base + c.size * (done + n) ≤ c.base + c.size * limit = fewer_room c.base c.size (done + n) limit (c.base + c.size * limit) le (omega arith) in
    let parts : c.size * (done + n) ≡ c.size * done + c.size * n = omega arith in
    record {
      within = omega (arith, up, parts, room.within);
      free = λ k from to. room.free k (omega (arith, from)) (omega (arith, to, up, parts));
      member = room.member;
    }

pub part_place : (c : Column) (done k : ℕ) → place_of (record { base = c.base + c.size * done; size = c.size; offset = c.offset }) k ≡ place_of c (done + k)
part_place c done k = let parts : c.size * (done + k) ≡ c.size * done + c.size * k = omega arith in omega (arith, parts)
