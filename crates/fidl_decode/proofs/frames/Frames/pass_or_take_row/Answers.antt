use Rattle.fidl_decode_values.specs.Reading.{message}
use Rattle.std.proofs.Common.{◌≡◌, ◌+◌, ◌-◌, sym, ap, subst, ◌∙◌, arith}
use Rattle.std.specs.Prelude.{Some, None}
use Rattle.fidl_table_format.specs.declared.record.Row as raw
use Rattle.fidl_table_format.specs.declared.record.Entry.{Entry}
use Rattle.fidl_table_format.specs.Section.{header_of, entry_at, row_at}
use Rattle.fidl_decode_model.specs.declared.frame.Frame.{Frame}
use Rattle.fidl_decode_model.specs.declared.frame.Remaining.TheVariants.{Rows}
use Rattle.fidl_decode_model.specs.Machine.{Turns, at_of}
use Rattle.fidl_decode_columns.proofs.Leaves.{going_on}
use Rattle.fidl_decode.proofs.Front.{front_room}
use Rattle.fidl_decode.proofs.frames.Frames.pass_or_take_row.Goals as goal

pub rows_from-requires : goal.rows_from-requires
rows_from-requires c =
    let t = c.args.self.now.decoder.table.now in
    let m = message c.args.self.now.decoder in
    let some = c.pass_row.ensures.some c.if-not-pass_row.false in
    let room = front_room t c.args.self.now.decoder.fine m c.args.frame c.args.first c.args.count c.row-row.result c.requires.left some c.row-row.ensures.value (at_of c.args.state.now) c.requires.frame c.requires.state in
    let is = ap (λ (d : Entry). d.size) c.entry.ensures.value in
    record { small = omega (arith, is, room.1, room.2, c.args.self.now.decoder.short) }

pub returns-clause-ok : goal.returns-clause-ok
returns-clause-ok c =
    let t = c.args.self.now.decoder.table.now in
    let rest = going_on c.args.frame (Rows (c.args.first + 1) (c.args.count - 1)) in
    let size : (row_at t (header_of t) c.args.first).key + (entry_at t (row_at t (header_of t) c.args.first).entry).size ≡ c.row-row.result.key + c.entry.result.size
    = ap (λ (w : raw.Row). w.key + (entry_at t w.entry).size) (sym c.row-row.ensures.value) ∙ ap (λ (d : Entry). c.row-row.result.key + d.size) (sym c.entry.ensures.value) in
    subst (λ (g : Frame). Turns t (message c.args.self.now.decoder) c.args.frame (at_of c.args.state.now) (at_of c.pass_row.new.state) (c.pass_row.new.state.steps - c.args.state.now.steps) (record { below = None; rest = Some g }))
    (ap (λ d. rest d) size ∙ sym c.rows_from.ensures) (c.pass_row.ensures.passed c.if-not-pass_row.false)

pub returns-clause-spends : goal.returns-clause-spends
returns-clause-spends c = c.pass_row.ensures.spends c.if-not-pass_row.false
