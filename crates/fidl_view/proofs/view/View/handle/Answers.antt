use Rattle.std.proofs.Common.{◌≡◌, List, ap, sym, ◌∙◌, length, arith}
use Rattle.fidl_table_format.specs.declared.kind.EntryKind.TheVariants.{Handle}
use Rattle.fidl_table_format.specs.Section.{header_of, entry_at}
use Rattle.fidl_table_format.specs.Terms.{declarations_of, is_optional}
use Rattle.fidl_decode_model.specs.Faults.{message_of}
use Rattle.fidl_decode_model.specs.Placed.{record_at}
use Rattle.fidl_wire.specs.declared.handle.HandleInfo.{HandleInfo}
use Rattle.std.specs.Prelude.{slice_get}
use Rattle.fidl_view.proofs.Viewing as viewing
use Rattle.fidl_view.proofs.Content as content
use Rattle.fidl_view.proofs.Blank as blank
use Rattle.fidl_decode_model.specs.Links.{Linked}
use Rattle.fidl_view.proofs.view.View.handle.Goals as goal

pub returns-in_default : goal.returns-in_default
returns-in_default c v s =
    let d = c.args.self.decoded.now in
    let i = c.args.self.index in
    let p = c.args.self.place in
    let e = entry_at d.table i in
    content.no_handle (declarations_of d.table) d.table (header_of d.table) e c.kind.result c.in_default.not-Handle v
    (viewing.lies d c.kind.ensures.well_formed i p c.args.self.in_range c.kind.result c.kind.ensures.of v s).0

pub is_blank_handle-requires : goal.is_blank_handle-requires
is_blank_handle-requires c =
    let d = c.args.self.decoded.now in
    let i = c.args.self.index in
    let p = c.args.self.place in
    let lt = c.args.self.in_range in
    let w = c.kind.ensures.well_formed in
    let wide = viewing.handle_size d w i p lt c.in-Handle.ensures.of in
    let long = ap length c.links.ensures.came in
    record {
      aligned = blank.handle_aligned d w i p lt c.links.result.now c.links.ensures.came c.links.ensures.noted c.in-Handle.ensures.of c.args.self.shown;
      room = omega (arith, wide, long, c.args.self.room);
    }

pub returns-then-is_blank_handle : goal.returns-then-is_blank_handle
returns-then-is_blank_handle c v s =
    let d = c.args.self.decoded.now in
    let i = c.args.self.index in
    let p = c.args.self.place in
    let lt = c.args.self.in_range in
    let w = c.kind.ensures.well_formed in
    let e = entry_at d.table i in
    let x = content.handle_found (declarations_of d.table) (message_of d.bytes d.handles) d.links p (is_optional e) e.subtype e.rights v (viewing.lies d w i p lt Handle c.in-Handle.ensures.of v s) in
    x.0 (sym c.if-is_blank_handle.true ∙ blank.handle_says d w i p lt c.links.result.now c.links.ensures.came c.links.ensures.noted c.in-Handle.ensures.of c.is_blank_handle.result c.is_blank_handle.ensures.absent c.is_blank_handle.ensures.linked v s)

pub record_of-requires : goal.record_of-requires
record_of-requires c =
    let d = c.args.self.decoded.now in
    let i = c.args.self.index in
    let p = c.args.self.place in
    let lt = c.args.self.in_range in
    let w = c.kind.ensures.well_formed in
    let wide = viewing.handle_size d w i p lt c.in-Handle.ensures.of in
    let long = ap length c.links-in-Handle.ensures.came in
    let there = blank.handle_linked d w i p lt c.links-in-Handle.result.now c.links-in-Handle.ensures.came c.links-in-Handle.ensures.noted c.in-Handle.ensures.of c.args.self.shown
    (λ v s. sym c.if-is_blank_handle.false ∙ blank.handle_says d w i p lt c.links.result.now c.links.ensures.came c.links.ensures.noted c.in-Handle.ensures.of c.is_blank_handle.result c.is_blank_handle.ensures.absent c.is_blank_handle.ensures.linked v s) in
    record {
      aligned = blank.handle_aligned d w i p lt c.links-in-Handle.result.now c.links-in-Handle.ensures.came c.links-in-Handle.ensures.noted c.in-Handle.ensures.of c.args.self.shown;
      room = omega (arith, wide, long, c.args.self.room);
      present = λ half. there.0;
      linked = there.1;
    }

pub returns-else-is_blank_handle : goal.returns-else-is_blank_handle
returns-else-is_blank_handle c v s =
    let d = c.args.self.decoded.now in
    let i = c.args.self.index in
    let p = c.args.self.place in
    let lt = c.args.self.in_range in
    let w = c.kind.ensures.well_formed in
    let e = entry_at d.table i in
    let x = content.handle_found (declarations_of d.table) (message_of d.bytes d.handles) d.links p (is_optional e) e.subtype e.rights v (viewing.lies d w i p lt Handle c.in-Handle.ensures.of v s) in
    let there = x.1 (sym c.if-is_blank_handle.false ∙ blank.handle_says d w i p lt c.links.result.now c.links.ensures.came c.links.ensures.noted c.in-Handle.ensures.of c.is_blank_handle.result c.is_blank_handle.ensures.absent c.is_blank_handle.ensures.linked v s) in
    let own : c.record_of.result ≡ record_at d.links p = c.record_of.ensures ∙ ap (λ (l : Linked). record_at l p) c.links-in-Handle.ensures.noted in
    c.copied.ensures ∙ content.lent_item c.handles.result.now c.record_of.result c.get.result c.get.ensures.lookup
    ∙ ap (λ k. slice_get c.handles.result.now k) own ∙ ap (λ (hs : List HandleInfo). slice_get hs (record_at d.links p)) c.handles.ensures ∙ there
