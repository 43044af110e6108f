use Rattle.std.proofs.Common.{◌≡◌, ℕ, ◌+◌, ◌%◌, List, length, ap, sym, ◌∙◌, arith}
use Rattle.std.specs.Prelude.{slice_range, replicate}
use Rattle.std.specs.Int.{w16}
use Rattle.std.proofs.Math.Logic.{∥∥₁_elim}
use Rattle.std.proofs.Math.Bridge.{le_prop}
use Rattle.fidl_wire.specs.Value.{unknown}
use Rattle.fidl_wire.specs.Field.{number_at}
use Rattle.fidl_decode_model.specs.Placed.{first_record_at}
use Rattle.fidl_view.proofs.Raw as raw
use denote.Struct.Props.{props}
use Rattle.fidl_decode_model.specs.Links.{Linked}
use Rattle.fidl_view.proofs.Unlinked as unlinked
use Rattle.fidl_view.proofs.envelope.Envelope.raw_handles.Goals as goal

pub returns-then-count-eq0 : goal.returns-then-count-eq0
returns-then-count-eq0 c inline bytes handles h =
    let d = c.args.self.decoded.now in
    let i = c.args.self.index in
    let o = c.args.self.ordinal in
    let p = c.args.self.place in
    let count : c.counted_handles-count.result ≡ number_at w16 d.bytes (p + 4) = c.counted_handles-count.ensures ∙ ap (λ (b : List ℕ). number_at w16 b (p + 4)) c.links-links.ensures.came in
    raw.raw_none d i o p (unknown inline bytes handles) (raw.raw_there d i o p c.args.self.short c.args.self.few c.requires (unknown inline bytes handles) h) (sym count ∙ c.if-count-eq0.true)

pub overflow_add-result : goal.overflow_add-result
overflow_add-result c =
    let d = c.args.self.decoded.now in
    let i = c.args.self.index in
    let o = c.args.self.ordinal in
    let p = c.args.self.place in
    let count : c.counted_handles-count.result ≡ number_at w16 d.bytes (p + 4) = c.counted_handles-count.ensures ∙ ap (λ (b : List ℕ). number_at w16 b (p + 4)) c.links-links.ensures.came in
    let some = λ (e : number_at w16 d.bytes (p + 4) ≡ 0). c.if-count-eq0.false (count ∙ e) in
    let from : c.first_record-first.result ≡ first_record_at d.links p = c.first_record-first.ensures ∙ ap (λ (l : Linked). first_record_at l p) c.links-links.ensures.noted in
    let room = ∥∥₁_elim c.args.self.shown le_prop (λ h. (raw.raw_some d i o p h.0 (raw.raw_there d i o p c.args.self.short c.args.self.few c.requires h.0 h.1) some).0) in
    record { fits = omega (arith, room, count, from, c.args.self.few) }

pub offset_bounds-handles-first : goal.offset_bounds-handles-first
offset_bounds-handles-first c =
    let d = c.args.self.decoded.now in
    let i = c.args.self.index in
    let o = c.args.self.ordinal in
    let p = c.args.self.place in
    let count : c.counted_handles-count.result ≡ number_at w16 d.bytes (p + 4) = c.counted_handles-count.ensures ∙ ap (λ (b : List ℕ). number_at w16 b (p + 4)) c.links-links.ensures.came in
    let some = λ (e : number_at w16 d.bytes (p + 4) ≡ 0). c.if-count-eq0.false (count ∙ e) in
    let from : c.first_record-first.result ≡ first_record_at d.links p = c.first_record-first.ensures ∙ ap (λ (l : Linked). first_record_at l p) c.links-links.ensures.noted in
    let room = ∥∥₁_elim c.args.self.shown le_prop (λ h. (raw.raw_some d i o p h.0 (raw.raw_there d i o p c.args.self.short c.args.self.few c.requires h.0 h.1) some).0) in
    record { fits = omega (arith, room, from, c.args.self.few) }

pub slice_bounds-result-end-2 : goal.slice_bounds-result-end-2
slice_bounds-result-end-2 c =
    let d = c.args.self.decoded.now in
    let i = c.args.self.index in
    let o = c.args.self.ordinal in
    let p = c.args.self.place in
    let count : c.counted_handles-count.result ≡ number_at w16 d.bytes (p + 4) = c.counted_handles-count.ensures ∙ ap (λ (b : List ℕ). number_at w16 b (p + 4)) c.links-links.ensures.came in
    let some = λ (e : number_at w16 d.bytes (p + 4) ≡ 0). c.if-count-eq0.false (count ∙ e) in
    let from : c.first_record-first.result ≡ first_record_at d.links p = c.first_record-first.ensures ∙ ap (λ (l : Linked). first_record_at l p) c.links-links.ensures.noted in
    let room = ∥∥₁_elim c.args.self.shown le_prop (λ h. (raw.raw_some d i o p h.0 (raw.raw_there d i o p c.args.self.short c.args.self.few c.requires h.0 h.1) some).0) in
    let long = ap length c.handles.ensures in
    omega (arith, room, count, from, long)

pub returns : goal.returns
returns c inline bytes handles h =
    let d = c.args.self.decoded.now in
    let i = c.args.self.index in
    let o = c.args.self.ordinal in
    let p = c.args.self.place in
    let count : c.counted_handles-count.result ≡ number_at w16 d.bytes (p + 4) = c.counted_handles-count.ensures ∙ ap (λ (b : List ℕ). number_at w16 b (p + 4)) c.links-links.ensures.came in
    let some = λ (e : number_at w16 d.bytes (p + 4) ≡ 0). c.if-count-eq0.false (count ∙ e) in
    let from : c.first_record-first.result ≡ first_record_at d.links p = c.first_record-first.ensures ∙ ap (λ (l : Linked). first_record_at l p) c.links-links.ensures.noted in
    (λ j. slice_range (c.handles.ensures j) (from j) (from j + count j)) ∙ (raw.raw_some d i o p (unknown inline bytes handles) (raw.raw_there d i o p c.args.self.short c.args.self.few c.requires (unknown inline bytes handles) h) some).1

pub counted_handles-count-requires : goal.counted_handles-count-requires
counted_handles-count-requires c =
    let d = c.args.self.decoded.now in
    let i = c.args.self.index in
    let o = c.args.self.ordinal in
    let p = c.args.self.place in
    let aligned : p % 8 ≡ 0 = ∥∥₁_elim c.args.self.shown (hlevel props) (λ h. (raw.raw_there d i o p c.args.self.short c.args.self.few c.requires h.0 h.1).aligned) in
    let long = ap length c.links-links.ensures.came in
    record { aligned = aligned; within = omega (arith, long, c.args.self.room) }

pub first_record-first-requires : goal.first_record-first-requires
first_record-first-requires c =
    let d = c.args.self.decoded.now in
    let i = c.args.self.index in
    let o = c.args.self.ordinal in
    let p = c.args.self.place in
    let aligned : p % 8 ≡ 0 = ∥∥₁_elim c.args.self.shown (hlevel props) (λ h. (raw.raw_there d i o p c.args.self.short c.args.self.few c.requires h.0 h.1).aligned) in
    let long = ap length c.links-links.ensures.came in
    let few = ∥∥₁_elim c.args.self.shown le_prop (λ h. (raw.raw_there d i o p c.args.self.short c.args.self.few c.requires h.0 h.1).flag_byte) in
    record {
      aligned = aligned;
      within = omega (arith, long, c.args.self.room);
      no_handle = λ ones. raw.no_ones d.bytes p (p + 4) 4 (omega arith) (omega arith) few (unlinked.stood c.links-links.result.now d.bytes d.links c.links-links.ensures.came c.links-links.ensures.noted (p + 4) (replicate 4 255) ones);
      linked = ∥∥₁_elim c.args.self.shown (hlevel props) (λ h. unlinked.recorded c.links-links.result.now d.bytes d.links c.links-links.ensures.came c.links-links.ensures.noted (p + 4) (raw.raw_there d i o p c.args.self.short c.args.self.few c.requires h.0 h.1).recorded);
    }
