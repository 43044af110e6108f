use Rattle.std.proofs.Common.{◌+◌, get_or, ap, ◌∙◌, length, arith}
use Rattle.std.specs.Prelude.{Some, ◌==◌}
use Rattle.std.proofs.Math.Logic.{∥∥₁_elim}
use denote.Struct.Props.{props}
use Rattle.fidl_table_format.specs.declared.kind.EntryKind.TheVariants.{Bool as Boolean}
use Rattle.fidl_table_format.specs.Section.{header_of, entry_at}
use Rattle.fidl_table_format.specs.Terms.{declarations_of}
use Rattle.fidl_view.proofs.Viewing as viewing
use Rattle.fidl_view.proofs.Reading as reading
use Rattle.fidl_view.proofs.Unlinked as unlinked
use Rattle.fidl_view.proofs.view.View.as_bool.Goals as goal

pub returns-in-Bool : goal.returns-in-Bool
returns-in-Bool c v s =
    let d = c.args.self.decoded.now in
    let i = c.args.self.index in
    let p = c.args.self.place in
    let read = c.byte_at.ensures ∙ ap (λ b. get_or b p 0) c.links.ensures.came in
    ap (λ n. Some (n == 1)) read
    ∙ reading.bool_is (declarations_of d.table) d.table (header_of d.table) (entry_at d.table i) d.bytes p v (viewing.stood d c.kind.ensures.well_formed i p c.args.self.in_range Boolean c.in-Bool.ensures.of v s)

pub returns-in_default : goal.returns-in_default
returns-in_default c v s =
    let d = c.args.self.decoded.now in
    let i = c.args.self.index in
    let p = c.args.self.place in
    reading.no_bool (declarations_of d.table) d.table (header_of d.table) (entry_at d.table i) d.bytes p c.kind.result c.in_default.not-Bool v (viewing.stood d c.kind.ensures.well_formed i p c.args.self.in_range c.kind.result c.kind.ensures.of v s)

pub byte_at-requires : goal.byte_at-requires
byte_at-requires c =
    let d = c.args.self.decoded.now in
    let i = c.args.self.index in
    let p = c.args.self.place in
    let lt = c.args.self.in_range in
    let w = c.kind.ensures.well_formed in
    let wide = viewing.has_byte d w i p lt in
    let long = ap length c.links.ensures.came in
    record {
      room = omega (arith, wide, long, c.args.self.room);
      free = ∥∥₁_elim c.args.self.shown (hlevel props)
          (λ h. unlinked.free c.links.result.now d.bytes d.links c.links.ensures.came c.links.ensures.noted p (p + 1) (viewing.bool_free d w i p lt c.in-Bool.ensures.of h.0 h.1) p (omega arith) (omega arith));
    }
