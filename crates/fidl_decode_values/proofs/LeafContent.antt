-- The content of an envelope that is read whole: its value and its end, in one turn.
use Rattle.std.proofs.Common.{◌≡◌, ℕ, ◌+◌, ◌-◌, ◌*◌, ◌<◌, ◌≤◌, List, length, refl, sym, subst, arith}
use Rattle.std.specs.Prelude.{Some, None}
use Rattle.fidl_wire.specs.Term.{resolve}
use Rattle.fidl_wire.specs.Term as ty
use Rattle.fidl_wire.specs.Figure.{Declarations}
use Rattle.fidl_wire.specs.Encoding.{zeros}
use Rattle.fidl_wire.specs.Standing.{Stands}
use Rattle.fidl_table_format.specs.Section.{header_of, entry_at}
use Rattle.fidl_table_format.specs.Terms.{declarations_of}
use Rattle.fidl_decode_model.specs.declared.fault.DecodeFault.{DecodeFault}
use Rattle.fidl_decode_model.specs.declared.fault.DecodeFault.TheVariants.{WrongCounts}
use Rattle.fidl_decode_model.specs.declared.frame.Frame.{Frame}
use Rattle.fidl_decode_model.specs.declared.frame.Until.{Until}
use Rattle.fidl_decode_model.specs.declared.frame.Remaining.TheVariants.{Content}
use Rattle.fidl_decode_model.specs.Frontier.{AreFree}
use Rattle.fidl_decode_model.specs.Invariants.{IsFine}
use Rattle.fidl_decode_model.specs.State.{Message, Position}
use Rattle.fidl_decode_model.specs.Breaks.{IsPadding, Breaks}
use Rattle.fidl_decode_model.specs.Machine.{BreaksFrame, StateFine, FrameFine, Visits, Turns, inline_work, frame_work, byte_work, probes}
use Rattle.fidl_decode_model.specs.Worth.{ReadsWorth}
use Rattle.fidl_decode_model.specs.Envelopes.{IsUntil}
use Rattle.fidl_decode_values.specs.Ready.{FrameReady}
use Rattle.fidl_decode_values.proofs.ContentTurns.{content_end_room, content_over, content_miscounted, content_end_breaks, content_known, content_size, content_room, content_pays, content_breaks, content_turns, content_worth}
use Rattle.fidl_decode_columns.proofs.Leaves.{going_on, same_frame, left_over, turns_then, turns_break}

module _ (t : List ℕ) (fine : IsFine t) (m : Message) (f : Frame) (e size count : ℕ) (u : Until) (is : f.left ≡ Content e size count u) (one : count ≡ 1) (old : Position) (ff : FrameFine t m.bytes f) (state : StateFine m old) where
  abbrev ds : Declarations
  ds = declarations_of t

  abbrev g : Frame
  g = going_on f (Content e size count u) f.done

  same : f ≡ g
  same = same_frame f (Content e size count u) is

  gf : FrameFine t m.bytes g
  gf = subst (λ (f : Frame). FrameFine t m.bytes f) same ff

  some : 0 < count
  some = omega (arith, one)

  pub leaf_known : e < (header_of t).entries
  leaf_known = content_known t fine m f e size count u old gf state some

  pub leaf_size : (entry_at t e).size ≡ size
  leaf_size = content_size t fine m f e size count u old gf state some

  -- it lies within the frame and the message, and there is work for it
  pub leaf_room : (f.done + (entry_at t e).size ≤ f.size) × (f.base + f.size ≤ length m.bytes) × (0 + 2 + probes ≤ frame_work f)
  leaf_room = content_room t fine m f e size count u old gf state some

  -- and for what the value may make, with a turn more
  pub leaf_pays : inline_work (entry_at t e).nest * (entry_at t e).size + 1 + 1 ≤ frame_work f
  leaf_pays = content_pays t fine m f e size count u old gf state some

  pub leaf_breaks : (fault : DecodeFault) → Breaks ds m f.depth (resolve ds.terms (ty.named e)) (f.base + f.done) old fault → BreaksFrame t m f old fault
  leaf_breaks fault b = subst (λ (f : Frame). BreaksFrame t m f old fault) (sym same) (content_breaks t fine m f e size count u old gf state some fault b)

  -- the value is read
  module _ (new : Position) (spent : ℕ) (v : Visits t m f.depth e (f.base + f.done) old new spent None) where
    abbrev h : Frame
    h = going_on f (Content e size (count - 1) u) (f.done + size)

    none : count - 1 ≡ 0
    none = omega (arith, one)

    read : Turns t m f old new (1 + spent) (left_over (Some h))
    read = subst (λ (f : Frame). Turns t m f old new (1 + spent) (left_over (Some h))) (sym same) (content_turns t fine m f e size count u old gf state some None new spent (1 + spent) refl v tt)

    pub end_room : (f.done + size ≤ f.size) × (f.size - (f.done + size) + 1 ≤ frame_work h)
    end_room = let room = content_end_room t fine m h e size (count - 1) u new read.rest_fine.0 read.state in (room.0, room.2)

    pub end_less : byte_work * (length m.bytes - new.next) + frame_work h + (1 + spent) ≤ byte_work * (length m.bytes - old.next) + frame_work f
    end_less = omega (arith, read.less)

    pub leaf_over : Stands m.bytes (f.base + (f.done + size)) (zeros (f.base + f.size - (f.base + (f.done + size)))) → IsUntil u new → (n : ℕ) → n ≡ 1 + spent + (f.base + f.size - (f.base + (f.done + size)) + 1) → Turns t m f old new n (left_over None)
    leaf_over z own n is = turns_then t m f old new (1 + spent) h read new (f.base + f.size - (f.base + (f.done + size)) + 1) n (left_over None) (omega (arith, is)) (content_over t fine m h e size (count - 1) u new read.rest_fine.0 read.state none z own _ refl)

    -- it is worth no more than its value
    pub leaf_worth : Stands m.bytes (f.base + (f.done + size)) (zeros (f.base + f.size - (f.base + (f.done + size)))) → IsUntil u new → ReadsWorth t m f old new (spent + 1)
    leaf_worth z own = subst (λ (f : Frame). ReadsWorth t m f old new (spent + 1)) (sym same) (content_worth t fine m f e size count u old gf state one new spent v z own)

    pub leaf_miscounted : Stands m.bytes (f.base + (f.done + size)) (zeros (f.base + f.size - (f.base + (f.done + size)))) → (IsUntil u new → ⊥) → BreaksFrame t m f old (WrongCounts u.envelope)
    leaf_miscounted z other = turns_break t m f old new (1 + spent) h read (WrongCounts u.envelope) (content_miscounted t fine m h e size (count - 1) u new read.rest_fine.0 read.state none z other)

    pub leaf_end_breaks : (fault : DecodeFault) → IsPadding m.bytes (f.base + (f.done + size)) (f.base + f.size) fault → BreaksFrame t m f old fault
    leaf_end_breaks fault p = turns_break t m f old new (1 + spent) h read fault (content_end_breaks t fine m h e size (count - 1) u new read.rest_fine.0 read.state none fault p)

    -- what is behind it can be read
    pub leaf_end_free : FrameReady t m old f → AreFree new (f.base + (f.done + size)) (f.base + f.size)
    leaf_end_free ready = (read.moves ready.0 ready.1).rest_clear.free
