use Rattle.std.proofs.Common.{◌≡◌, ℕ, ◌+◌, ◌%◌, List, length, ap, sym, subst, ◌∙◌, arith}
use Rattle.std.specs.Prelude.{slice_range}
use Rattle.std.specs.Int.{w16, w32}
use Rattle.std.proofs.Math.Logic.{∥∥₁_elim}
use Rattle.std.proofs.Math.Bridge.{le_prop}
use Rattle.fidl_wire.specs.Value.{unknown}
use Rattle.fidl_wire.specs.Encoding.{present}
use Rattle.fidl_wire.specs.Field.{number_at}
use Rattle.fidl_decode_model.specs.Placed.{object_at}
use Rattle.fidl_view.proofs.Raw as raw
use denote.Struct.Props.{props}
use Rattle.fidl_decode_model.specs.Links.{Linked}
use Rattle.fidl_decode_model.specs.Readable.{AreUnlinked}
use Rattle.fidl_view.proofs.Unlinked as unlinked
use Rattle.fidl_view.proofs.envelope.Envelope.raw_bytes.Goals as goal

pub came_flags-requires : goal.came_flags-requires
came_flags-requires c =
    let d = c.args.self.decoded.now in
    let i = c.args.self.index in
    let o = c.args.self.ordinal in
    let p = c.args.self.place in
    let aligned : p % 8 ≡ 0 = ∥∥₁_elim c.args.self.shown (hlevel props) (λ h. (raw.raw_there d i o p c.args.self.short c.args.self.few c.requires h.0 h.1).aligned) in
    let long = ap length c.links-links.ensures.came in
    record { aligned = aligned; within = omega (arith, long, c.args.self.room) }

pub counted_bytes-count-requires : goal.counted_bytes-count-requires
counted_bytes-count-requires c =
    let d = c.args.self.decoded.now in
    let i = c.args.self.index in
    let o = c.args.self.ordinal in
    let p = c.args.self.place in
    let aligned : p % 8 ≡ 0 = ∥∥₁_elim c.args.self.shown (hlevel props) (λ h. (raw.raw_there d i o p c.args.self.short c.args.self.few c.requires h.0 h.1).aligned) in
    let long = ap length c.links-links.ensures.came in
    record { aligned = aligned; within = omega (arith, long, c.args.self.room) }

pub part-requires : goal.part-requires
part-requires c =
    let d = c.args.self.decoded.now in
    let i = c.args.self.index in
    let o = c.args.self.ordinal in
    let p = c.args.self.place in
    let flag : c.came_flags.result ≡ number_at w16 d.bytes (p + 6) = c.came_flags.ensures ∙ ap (λ (b : List ℕ). number_at w16 b (p + 6)) c.links-links.ensures.came in
    let long = ap length c.links-links.ensures.came in
    record {
      order = omega arith;
      room = omega (arith, long, c.args.self.room);
      free = ∥∥₁_elim c.args.self.shown (hlevel props)
          (λ h. unlinked.free c.links-links.result.now d.bytes d.links c.links-links.ensures.came c.links-links.ensures.noted p (p + 4)
          (raw.raw_inline_free d i o p h.0 (raw.raw_there d i o p c.args.self.short c.args.self.few c.requires h.0 h.1) (sym flag ∙ c.if-came_flags-eq1.true)));
    }

pub returns-then-came_flags-eq1 : goal.returns-then-came_flags-eq1
returns-then-came_flags-eq1 c inline bytes handles h =
    let d = c.args.self.decoded.now in
    let i = c.args.self.index in
    let o = c.args.self.ordinal in
    let p = c.args.self.place in
    let flag : c.came_flags.result ≡ number_at w16 d.bytes (p + 6) = c.came_flags.ensures ∙ ap (λ (b : List ℕ). number_at w16 b (p + 6)) c.links-links.ensures.came in
    c.part.ensures ∙ ap (λ (b : List ℕ). slice_range b p (p + 4)) c.links-links.ensures.came
    ∙ raw.raw_inline d i o p (unknown inline bytes handles) (raw.raw_there d i o p c.args.self.short c.args.self.few c.requires (unknown inline bytes handles) h) (sym flag ∙ c.if-came_flags-eq1.true)

pub object_of_envelope-from-requires : goal.object_of_envelope-from-requires
object_of_envelope-from-requires c =
    let d = c.args.self.decoded.now in
    let i = c.args.self.index in
    let o = c.args.self.ordinal in
    let p = c.args.self.place in
    let flag : c.came_flags.result ≡ number_at w16 d.bytes (p + 6) = c.came_flags.ensures ∙ ap (λ (b : List ℕ). number_at w16 b (p + 6)) c.links-links.ensures.came in
    let other = λ (e : number_at w16 d.bytes (p + 6) ≡ 1). c.if-came_flags-eq1.false (flag ∙ e) in
    let aligned : p % 8 ≡ 0 = ∥∥₁_elim c.args.self.shown (hlevel props) (λ h. (raw.raw_there d i o p c.args.self.short c.args.self.few c.requires h.0 h.1).aligned) in
    let long = ap length c.links-links.ensures.came in
    let few = ∥∥₁_elim c.args.self.shown le_prop (λ h. (raw.raw_there d i o p c.args.self.short c.args.self.few c.requires h.0 h.1).flag_byte) in
    record {
      aligned = aligned;
      within = omega (arith, long, c.args.self.room);
      no_marker = λ ones. raw.no_ones d.bytes p p 8 (omega arith) (omega arith) few (unlinked.stood c.links-links.result.now d.bytes d.links c.links-links.ensures.came c.links-links.ensures.noted p present ones);
      linked = ∥∥₁_elim c.args.self.shown (hlevel props) (λ h. unlinked.linked c.links-links.result.now d.bytes d.links c.links-links.ensures.came c.links-links.ensures.noted p (raw.raw_out_free d i o p h.0 (raw.raw_there d i o p c.args.self.short c.args.self.few c.requires h.0 h.1) other).0);
    }

pub overflow_add-from : goal.overflow_add-from
overflow_add-from c =
    let d = c.args.self.decoded.now in
    let i = c.args.self.index in
    let o = c.args.self.ordinal in
    let p = c.args.self.place in
    let flag : c.came_flags.result ≡ number_at w16 d.bytes (p + 6) = c.came_flags.ensures ∙ ap (λ (b : List ℕ). number_at w16 b (p + 6)) c.links-links.ensures.came in
    let other = λ (e : number_at w16 d.bytes (p + 6) ≡ 1). c.if-came_flags-eq1.false (flag ∙ e) in
    let count : c.counted_bytes-count.result ≡ number_at w32 d.bytes p = c.counted_bytes-count.ensures ∙ ap (λ (b : List ℕ). number_at w32 b p) c.links-links.ensures.came in
    let from : c.object_of_envelope-from.result ≡ object_at d.links p = c.object_of_envelope-from.ensures ∙ ap (λ (l : Linked). object_at l p) c.links-links.ensures.noted in
    let room = ∥∥₁_elim c.args.self.shown le_prop (λ h. (raw.raw_out d i o p h.0 (raw.raw_there d i o p c.args.self.short c.args.self.few c.requires h.0 h.1) other).0) in
    record { fits = omega (arith, room, count, from, c.args.self.short) }

pub part-requires-2 : goal.part-requires-2
part-requires-2 c =
    let d = c.args.self.decoded.now in
    let i = c.args.self.index in
    let o = c.args.self.ordinal in
    let p = c.args.self.place in
    let flag : c.came_flags.result ≡ number_at w16 d.bytes (p + 6) = c.came_flags.ensures ∙ ap (λ (b : List ℕ). number_at w16 b (p + 6)) c.links-links.ensures.came in
    let other = λ (e : number_at w16 d.bytes (p + 6) ≡ 1). c.if-came_flags-eq1.false (flag ∙ e) in
    let count : c.counted_bytes-count.result ≡ number_at w32 d.bytes p = c.counted_bytes-count.ensures ∙ ap (λ (b : List ℕ). number_at w32 b p) c.links-links.ensures.came in
    let from : c.object_of_envelope-from.result ≡ object_at d.links p = c.object_of_envelope-from.ensures ∙ ap (λ (l : Linked). object_at l p) c.links-links.ensures.noted in
    let room = ∥∥₁_elim c.args.self.shown le_prop (λ h. (raw.raw_out d i o p h.0 (raw.raw_there d i o p c.args.self.short c.args.self.few c.requires h.0 h.1) other).0) in
    let long = ap length c.links-links.ensures.came in
    record {
      order = omega arith;
      room = omega (arith, room, count, from, long);
      free = ∥∥₁_elim c.args.self.shown (hlevel props)
          (λ h. unlinked.free c.links-links.result.now d.bytes d.links c.links-links.ensures.came c.links-links.ensures.noted c.object_of_envelope-from.result (c.object_of_envelope-from.result + c.counted_bytes-count.result)
          (subst (λ k. AreUnlinked d.links k (k + c.counted_bytes-count.result)) (sym from)
          (subst (λ k. AreUnlinked d.links (object_at d.links p) (object_at d.links p + k)) (sym count) (raw.raw_out_free d i o p h.0 (raw.raw_there d i o p c.args.self.short c.args.self.few c.requires h.0 h.1) other).1)));
    }

pub returns : goal.returns
returns c inline bytes handles h =
    let d = c.args.self.decoded.now in
    let i = c.args.self.index in
    let o = c.args.self.ordinal in
    let p = c.args.self.place in
    let flag : c.came_flags.result ≡ number_at w16 d.bytes (p + 6) = c.came_flags.ensures ∙ ap (λ (b : List ℕ). number_at w16 b (p + 6)) c.links-links.ensures.came in
    let other = λ (e : number_at w16 d.bytes (p + 6) ≡ 1). c.if-came_flags-eq1.false (flag ∙ e) in
    let count : c.counted_bytes-count.result ≡ number_at w32 d.bytes p = c.counted_bytes-count.ensures ∙ ap (λ (b : List ℕ). number_at w32 b p) c.links-links.ensures.came in
    let from : c.object_of_envelope-from.result ≡ object_at d.links p = c.object_of_envelope-from.ensures ∙ ap (λ (l : Linked). object_at l p) c.links-links.ensures.noted in
    c.part-2.ensures ∙ (λ j. slice_range (c.links-links.ensures.came j) (from j) (from j + count j)) ∙ (raw.raw_out d i o p (unknown inline bytes handles) (raw.raw_there d i o p c.args.self.short c.args.self.few c.requires (unknown inline bytes handles) h) other).1
