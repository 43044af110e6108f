use Rattle.std.proofs.Common.{◌+◌, ap, ◌∙◌, length, arith}
use Rattle.std.specs.Prelude.{◌==◌}
use Rattle.std.specs.Int.{w64}
use Rattle.std.proofs.Math.Logic.{∥∥₁_elim}
use denote.Struct.Props.{props}
use Rattle.fidl_table_format.specs.declared.kind.EntryKind.TheVariants.{Union}
use Rattle.fidl_table_format.specs.Section.{header_of, entry_at}
use Rattle.fidl_table_format.specs.Terms.{declarations_of, is_optional, is_strict, rows_from}
use Rattle.fidl_wire.specs.Field.{number_at}
use Rattle.fidl_decode_model.specs.Faults.{message_of}
use Rattle.fidl_view.proofs.Viewing as viewing
use Rattle.fidl_view.proofs.Content as content
use Rattle.fidl_view.proofs.Unlinked as unlinked
use Rattle.fidl_view.proofs.Blank as blank
use Rattle.fidl_view.proofs.view.View.is_absent.Goals as goal

pub returns-in-Box : goal.returns-in-Box
returns-in-Box c v s =
    let d = c.args.self.decoded.now in
    let i = c.args.self.index in
    let p = c.args.self.place in
    let lt = c.args.self.in_range in
    let w = c.kind.ensures.well_formed in
    blank.says d w i p lt c.links.result.now c.links.ensures.came c.links.ensures.noted p (viewing.box_marks d w i p lt c.in-Box.ensures.of) c.is_blank.result c.is_blank.ensures v s

pub is_blank-requires : goal.is_blank-requires
is_blank-requires c =
    let d = c.args.self.decoded.now in
    let i = c.args.self.index in
    let p = c.args.self.place in
    let lt = c.args.self.in_range in
    let w = c.kind.ensures.well_formed in
    let wide = viewing.box_size d w i p lt c.in-Box.ensures.of in
    let long = ap length c.links.ensures.came in
    record {
      aligned = blank.aligned d w i p lt c.links.result.now c.links.ensures.came c.links.ensures.noted p (viewing.box_marks d w i p lt c.in-Box.ensures.of) c.args.self.shown;
      within = omega (arith, wide, long, c.args.self.room);
    }

pub returns-in-String : goal.returns-in-String
returns-in-String c v s =
    let d = c.args.self.decoded.now in
    let i = c.args.self.index in
    let p = c.args.self.place in
    let lt = c.args.self.in_range in
    let w = c.kind.ensures.well_formed in
    blank.says d w i p lt c.links-in-String.result.now c.links-in-String.ensures.came c.links-in-String.ensures.noted (p + 8) (viewing.string_marks d w i p lt c.in-String.ensures.of) c.is_blank-in-String.result c.is_blank-in-String.ensures v s

pub is_blank-requires-in-String : goal.is_blank-requires-in-String
is_blank-requires-in-String c =
    let d = c.args.self.decoded.now in
    let i = c.args.self.index in
    let p = c.args.self.place in
    let lt = c.args.self.in_range in
    let w = c.kind.ensures.well_formed in
    let wide = viewing.string_size d w i p lt c.in-String.ensures.of in
    let long = ap length c.links-in-String.ensures.came in
    record {
      aligned = blank.aligned d w i p lt c.links-in-String.result.now c.links-in-String.ensures.came c.links-in-String.ensures.noted (p + 8) (viewing.string_marks d w i p lt c.in-String.ensures.of) c.args.self.shown;
      within = omega (arith, wide, long, c.args.self.room);
    }

pub overflow_add-self : goal.overflow_add-self
overflow_add-self c =
    let d = c.args.self.decoded.now in
    let wide = viewing.string_size d c.kind.ensures.well_formed c.args.self.index c.args.self.place c.args.self.in_range c.in-String.ensures.of in
    record { fits = omega (arith, wide, c.args.self.room, c.args.self.short) }

pub returns-in-Vector : goal.returns-in-Vector
returns-in-Vector c v s =
    let d = c.args.self.decoded.now in
    let i = c.args.self.index in
    let p = c.args.self.place in
    let lt = c.args.self.in_range in
    let w = c.kind.ensures.well_formed in
    blank.says d w i p lt c.links-in-Vector.result.now c.links-in-Vector.ensures.came c.links-in-Vector.ensures.noted (p + 8) (viewing.vector_marks d w i p lt c.in-Vector.ensures.of) c.is_blank-in-Vector.result c.is_blank-in-Vector.ensures v s

pub is_blank-requires-in-Vector : goal.is_blank-requires-in-Vector
is_blank-requires-in-Vector c =
    let d = c.args.self.decoded.now in
    let i = c.args.self.index in
    let p = c.args.self.place in
    let lt = c.args.self.in_range in
    let w = c.kind.ensures.well_formed in
    let wide = viewing.vector_size d w i p lt c.in-Vector.ensures.of in
    let long = ap length c.links-in-Vector.ensures.came in
    record {
      aligned = blank.aligned d w i p lt c.links-in-Vector.result.now c.links-in-Vector.ensures.came c.links-in-Vector.ensures.noted (p + 8) (viewing.vector_marks d w i p lt c.in-Vector.ensures.of) c.args.self.shown;
      within = omega (arith, wide, long, c.args.self.room);
    }

pub overflow_add-self-in-Vector : goal.overflow_add-self-in-Vector
overflow_add-self-in-Vector c =
    let d = c.args.self.decoded.now in
    let wide = viewing.vector_size d c.kind.ensures.well_formed c.args.self.index c.args.self.place c.args.self.in_range c.in-Vector.ensures.of in
    record { fits = omega (arith, wide, c.args.self.room, c.args.self.short) }

pub returns-in-Handle : goal.returns-in-Handle
returns-in-Handle c v s =
    let d = c.args.self.decoded.now in
    let i = c.args.self.index in
    let p = c.args.self.place in
    let lt = c.args.self.in_range in
    let w = c.kind.ensures.well_formed in
    blank.handle_says d w i p lt c.links-in-Handle.result.now c.links-in-Handle.ensures.came c.links-in-Handle.ensures.noted c.in-Handle.ensures.of c.is_blank_handle.result c.is_blank_handle.ensures.absent c.is_blank_handle.ensures.linked v s

pub is_blank_handle-requires : goal.is_blank_handle-requires
is_blank_handle-requires c =
    let d = c.args.self.decoded.now in
    let i = c.args.self.index in
    let p = c.args.self.place in
    let lt = c.args.self.in_range in
    let w = c.kind.ensures.well_formed in
    let wide = viewing.handle_size d w i p lt c.in-Handle.ensures.of in
    let long = ap length c.links-in-Handle.ensures.came in
    record {
      aligned = blank.handle_aligned d w i p lt c.links-in-Handle.result.now c.links-in-Handle.ensures.came c.links-in-Handle.ensures.noted c.in-Handle.ensures.of c.args.self.shown;
      room = omega (arith, wide, long, c.args.self.room);
    }

pub returns-in-Union : goal.returns-in-Union
returns-in-Union c v s =
    let d = c.args.self.decoded.now in
    let i = c.args.self.index in
    let p = c.args.self.place in
    let lt = c.args.self.in_range in
    let w = c.kind.ensures.well_formed in
    let e = entry_at d.table i in
    ap (λ n. n == 0) (c.u64_at.ensures ∙ ap (λ b. number_at w64 b p) c.links-in-Union.ensures.came)
    ∙ content.union_absence (declarations_of d.table) (message_of d.bytes d.handles) d.links p (is_optional e) (is_strict e) (rows_from d.table (header_of d.table) e.first e.count) v (viewing.lies d w i p lt Union c.in-Union.ensures.of v s)

pub u64_at-requires : goal.u64_at-requires
u64_at-requires c =
    let d = c.args.self.decoded.now in
    let i = c.args.self.index in
    let p = c.args.self.place in
    let lt = c.args.self.in_range in
    let w = c.kind.ensures.well_formed in
    let wide = viewing.union_size d w i p lt c.in-Union.ensures.of in
    let long = ap length c.links-in-Union.ensures.came in
    record {
      room = omega (arith, wide, long, c.args.self.room);
      free = ∥∥₁_elim c.args.self.shown (hlevel props) (λ h. unlinked.free c.links-in-Union.result.now d.bytes d.links c.links-in-Union.ensures.came c.links-in-Union.ensures.noted p (p + 8) (viewing.ordinal_free d w i p lt c.in-Union.ensures.of h.0 h.1));
    }

pub returns-in_default : goal.returns-in_default
returns-in_default c v s =
    let d = c.args.self.decoded.now in
    let i = c.args.self.index in
    let p = c.args.self.place in
    let lt = c.args.self.in_range in
    let w = c.kind.ensures.well_formed in
    content.no_absence (declarations_of d.table) d.table (header_of d.table) (entry_at d.table i) c.kind.result c.in_default.not-Box c.in_default.not-Handle c.in_default.not-String c.in_default.not-Vector c.in_default.not-Union v
    (viewing.lies d w i p lt c.kind.result c.kind.ensures.of v s).0
