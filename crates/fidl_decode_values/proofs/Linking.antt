-- What a call that writes a link asks for, of bytes that can be read.
use Rattle.std.proofs.Common.{◌≡◌, ℕ, ◌+◌, ◌/◌, ◌%◌, ◌<◌, ◌≤◌, List, length, replicate, slice_index, slice_set, sym, ap, subst, ◌∙◌, arith, get_or-set_other}
use Rattle.fidl_limits.specs.declared.limits.TheConstants.{MAX_MESSAGE_BYTES, MAX_MESSAGE_HANDLES}
use Rattle.fidl_wire.specs.Encoding.{present}
use Rattle.fidl_wire.specs.Envelope.{bytes_below, handles_below, flags_at}
use Rattle.fidl_wire.specs.Standing.{Stands}
use Rattle.fidl_links.specs.Links.{Written, IsFree, IsFreeWord}
use Rattle.fidl_decode_model.specs.State.{Message, Position}
use Rattle.fidl_decode_model.specs.Frontier.{IsAhead, CanRead}

-- a marker whose object begins at a place
pub record MarkerAt (w : Written) (marker object : ℕ) : Type 0 where
  pub aligned : marker % 8 ≡ 0
  pub within : marker + 8 ≤ length w.came
  pub present : Stands w.came marker present
  pub some : 0 < object
  pub few : object ≤ MAX_MESSAGE_BYTES
  pub free : IsFreeWord w marker

-- a handle that has the record with this index
pub record HandleAt (w : Written) (place index : ℕ) : Type 0 where
  pub aligned : place % 4 ≡ 0
  pub within : place / 8 < length w.came / 8
  pub present : Stands w.came place (replicate 4 255)
  pub few : index < MAX_MESSAGE_HANDLES
  pub free : IsFree w place

-- an envelope of so many bytes, whose member is the object at a place, with handles from this one on
pub record OutsideAt (w : Written) (envelope at index : ℕ) : Type 0 where
  pub aligned : envelope % 8 ≡ 0
  pub within : envelope + 8 ≤ length w.came
  pub flags : flags_at w.came envelope ≡ 0
  pub eights : bytes_below w.came envelope % 8 ≡ 0
  pub short : bytes_below w.came envelope ≤ MAX_MESSAGE_BYTES
  pub handles : handles_below w.came envelope < 128
  pub object : at % 8 ≡ 0
  pub some : 0 < at
  pub few : at ≤ MAX_MESSAGE_BYTES
  pub first : index < 128
  pub free : IsFreeWord w envelope

-- an envelope in which its member stands, with handles from this one on
pub record InsideAt (w : Written) (envelope index : ℕ) : Type 0 where
  pub aligned : envelope % 8 ≡ 0
  pub within : envelope + 8 ≤ length w.came
  pub flags : flags_at w.came envelope ≡ 1
  pub handles : handles_below w.came envelope < 128
  pub first : index < 128
  pub free : IsFreeWord w envelope

-- a byte behind an envelope is free after the envelope is linked, if it was before
behind_free : (w v : Written) (envelope object first k : ℕ) → v.objects ≡ slice_set w.objects (envelope / 8) object → v.records ≡ slice_set w.records ((envelope + 4) / 4) first → envelope % 8 ≡ 0 → envelope + 8 ≤ k → IsFree w k → IsFree v k
behind_free w v envelope object first k objects records even le free = (
  ap (λ (l : List ℕ). slice_index l (k / 8)) objects ∙ get_or-set_other w.objects (envelope / 8) (k / 8) object 0 (λ e. absurd (omega (arith, e, even, le))) ∙ free.0,
  ap (λ (l : List ℕ). slice_index l (k / 4)) records ∙ get_or-set_other w.records ((envelope + 4) / 4) (k / 4) first 0 (λ e. absurd (omega (arith, e, even, le))) ∙ free.1,
)

pub word_behind : (w v : Written) (envelope object first word : ℕ) → v.objects ≡ slice_set w.objects (envelope / 8) object → v.records ≡ slice_set w.records ((envelope + 4) / 4) first → envelope % 8 ≡ 0 → envelope + 8 ≤ word → IsFreeWord w word → IsFreeWord v word
word_behind w v envelope object first word objects records even le free =
    (behind_free w v envelope object first word objects records even le free.0, behind_free w v envelope object first (word + 4) objects records even (omega (arith, le)) free.1)

-- the position of a state with these links
abbrev pub at : Written → (next handle : ℕ) → Position
at w next handle = record { next = next; handle = handle; objects = w.objects; records = w.records }

module _ (w : Written) (m : Message) (holds : w.came ≡ m.bytes) (next handle : ℕ) (reach : next ≤ length m.bytes) (short : length m.bytes ≤ MAX_MESSAGE_BYTES) where
  same_long : length w.came ≡ length m.bytes
  same_long = ap length holds

  free_word : (place size word : ℕ) → CanRead (at w next handle) place size → place ≤ word → word + 8 ≤ place + size → IsFreeWord w word
  free_word place size word can from to = (can.free word from (omega (arith, to)), can.free (word + 4) (omega (arith, from)) (omega (arith, to)))

  pub marker_at : (place size marker : ℕ) → CanRead (at w next handle) place size → marker % 8 ≡ 0 → place ≤ marker → marker + 8 ≤ place + size → Stands m.bytes marker present → MarkerAt w marker next
  marker_at place size marker can even from to stands = record {
    aligned = even;
    within = omega (arith, to, can.before, reach, same_long);
    present = subst (λ (b : List ℕ). Stands b marker present) (sym holds) stands;
    some = omega (arith, to, can.before);
    few = omega (arith, reach, short);
    free = free_word place size marker can from to;
  }

  pub handle_at : (place : ℕ) → IsAhead m (at w next handle) → CanRead (at w next handle) place 4 → place % 4 ≡ 0 → Stands m.bytes place (replicate 4 255) → handle < length m.handles → length m.handles ≤ MAX_MESSAGE_HANDLES → HandleAt w place handle
  handle_at place ahead can even stands some few = record {
    aligned = even;
    within = omega (arith, can.before, ahead.even, reach, same_long);
    present = subst (λ (b : List ℕ). Stands b place (replicate 4 255)) (sym holds) stands;
    few = omega (arith, some, few);
    free = can.free place (omega arith) (omega arith);
  }

  module _ (envelope : ℕ) (ahead : IsAhead m (at w next handle)) (can : CanRead (at w next handle) envelope 8) (even : envelope % 8 ≡ 0) (had : handle ≤ length m.handles) (few : length m.handles ≤ MAX_MESSAGE_HANDLES) where
    pub outside_at : flags_at m.bytes envelope ≡ 0 → bytes_below m.bytes envelope % 8 ≡ 0 → bytes_below m.bytes envelope ≤ MAX_MESSAGE_BYTES → handles_below m.bytes envelope ≤ MAX_MESSAGE_HANDLES → OutsideAt w envelope next handle
    outside_at flags eights counted handles = record {
      aligned = even;
      within = omega (arith, can.before, reach, same_long);
      flags = subst (λ (b : List ℕ). flags_at b envelope ≡ 0) (sym holds) flags;
      eights = subst (λ (b : List ℕ). bytes_below b envelope % 8 ≡ 0) (sym holds) eights;
      short = subst (λ (b : List ℕ). bytes_below b envelope ≤ MAX_MESSAGE_BYTES) (sym holds) (omega (arith, counted));
      handles = subst (λ (b : List ℕ). handles_below b envelope < 128) (sym holds) (omega (arith, handles));
      object = ahead.even;
      some = omega (arith, can.before);
      few = omega (arith, reach, short);
      first = omega (arith, had, few);
      free = free_word envelope 8 envelope can (omega arith) (omega arith);
    }

    pub inside_at : flags_at m.bytes envelope ≡ 1 → handles_below m.bytes envelope ≤ MAX_MESSAGE_HANDLES → InsideAt w envelope handle
    inside_at flags handles = record {
      aligned = even;
      within = omega (arith, can.before, reach, same_long);
      flags = subst (λ (b : List ℕ). flags_at b envelope ≡ 1) (sym holds) flags;
      handles = subst (λ (b : List ℕ). handles_below b envelope < 128) (sym holds) (omega (arith, handles));
      first = omega (arith, had, few);
      free = free_word envelope 8 envelope can (omega arith) (omega arith);
    }
