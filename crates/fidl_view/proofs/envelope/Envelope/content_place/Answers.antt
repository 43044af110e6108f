use Rattle.std.proofs.Common.{◌≡◌, ℕ, ◌<◌, List, length, ap, sym, subst, ◌∙◌, arith}
use Rattle.std.proofs.Math.Logic.{∥∥₁_elim}
use denote.Struct.Props.{props}
use Rattle.fidl_wire.specs.Encoding.{present}
use Rattle.fidl_table_format.specs.declared.record.Entry.{Entry}
use Rattle.fidl_table_format.specs.Section.{entry_at}
use Rattle.fidl_table_format.specs.WellFormed.{WellFormed}
use Rattle.fidl_decode_model.specs.Links.{Linked}
use Rattle.fidl_decode_model.specs.Placed.{enclosed_at, object_at}
use Rattle.fidl_view.proofs.Keyed as keyed
use Rattle.fidl_view.proofs.Raw as raw
use Rattle.fidl_view.proofs.Unlinked as unlinked
use Rattle.fidl_view.proofs.envelope.Envelope.content_place.Goals as goal

pub object_of_envelope-requires : goal.object_of_envelope-requires
object_of_envelope-requires c =
    let d = c.args.self.decoded.now in
    let i = c.args.self.index in
    let o = c.args.self.ordinal in
    let p = c.args.self.place in
    let w : WellFormed d.table = subst (λ (b : List ℕ). WellFormed b) c.table.ensures c.entry.ensures.well_formed in
    let size : c.entry.result.size ≡ (entry_at d.table c.args.entry).size = ap (λ (e : Entry). e.size) (c.entry.ensures.value ∙ ap (λ (b : List ℕ). entry_at b c.args.entry) c.table.ensures) in
    let more : 4 < (entry_at d.table c.args.entry).size = omega (arith, size, c.if-entry-le4.false) in
    let out = ∥∥₁_elim c.args.self.shown (hlevel props) (λ h. keyed.known_out d w i o p c.args.entry c.requires.below c.requires.known more h.0 h.1) in
    let flags = out.2 in
    let long = ap length c.links.ensures.came in
    record {
      aligned = out.0;
      within = omega (arith, long, c.args.self.room);
      no_marker = λ ones. raw.no_ones d.bytes p p 8 (omega arith) (omega arith) (omega (arith, flags)) (unlinked.stood c.links.result.now d.bytes d.links c.links.ensures.came c.links.ensures.noted p present ones);
      linked = unlinked.linked c.links.result.now d.bytes d.links c.links.ensures.came c.links.ensures.noted p out.1;
    }

pub returns-then-entry-le4 : goal.returns-then-entry-le4
returns-then-entry-le4 c =
    let d = c.args.self.decoded.now in
    let i = c.args.self.index in
    let o = c.args.self.ordinal in
    let p = c.args.self.place in
    let w : WellFormed d.table = subst (λ (b : List ℕ). WellFormed b) c.table.ensures c.entry.ensures.well_formed in
    let size : c.entry.result.size ≡ (entry_at d.table c.args.entry).size = ap (λ (e : Entry). e.size) (c.entry.ensures.value ∙ ap (λ (b : List ℕ). entry_at b c.args.entry) c.table.ensures) in
    record {
      place = ap (λ b. enclosed_at d.links b p) (sym (keyed.few_bytes (entry_at d.table c.args.entry).size (omega (arith, size, c.if-entry-le4.true))));
      well_formed = w;
    }

pub returns-else-entry-le4 : goal.returns-else-entry-le4
returns-else-entry-le4 c =
    let d = c.args.self.decoded.now in
    let i = c.args.self.index in
    let o = c.args.self.ordinal in
    let p = c.args.self.place in
    let w : WellFormed d.table = subst (λ (b : List ℕ). WellFormed b) c.table.ensures c.entry.ensures.well_formed in
    let size : c.entry.result.size ≡ (entry_at d.table c.args.entry).size = ap (λ (e : Entry). e.size) (c.entry.ensures.value ∙ ap (λ (b : List ℕ). entry_at b c.args.entry) c.table.ensures) in
    record {
      place = c.object_of_envelope.ensures ∙ ap (λ (l : Linked). object_at l p) c.links.ensures.noted ∙ ap (λ b. enclosed_at d.links b p) (sym (keyed.more_bytes (entry_at d.table c.args.entry).size (omega (arith, size, c.if-entry-le4.false))));
      well_formed = w;
    }
