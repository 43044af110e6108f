use Rattle.fidl_decode_values.proofs.Unchanged.{same_le}
use Rattle.std.proofs.Common.{◌-◌, arith}
use Rattle.std.specs.Prelude.{Some}
use Rattle.fidl_verify.proofs.Members.{lies_within, if_some}
use Rattle.fidl_decode.proofs.frames.Frames.row_of.Goals as goal

pub overflow_add-parts : goal.overflow_add-parts
overflow_add-parts c =
    let within = lies_within c.args.self.now.decoder.table.now c.rows-rows.ensures.well_formed c.args.entry c.requires.entry c.requires.kind c.args.parts.now c.requires.parts in
    record { fits = omega (arith, within, c.requires.some, c.if-ordinal-parts.true, c.rows-rows.ensures.value) }

pub row-row-requires : goal.row-row-requires
row-row-requires c =
    let within = lies_within c.args.self.now.decoder.table.now c.rows-rows.ensures.well_formed c.args.entry c.requires.entry c.requires.kind c.args.parts.now c.requires.parts in
    omega (arith, within, c.requires.some, c.if-ordinal-parts.true)

pub returns-then-row-ordinal-clause-some : goal.returns-then-row-ordinal-clause-some
returns-then-row-ordinal-clause-some c =
    if_some c.args.self.now.decoder.table.now c.rows-rows.ensures.well_formed c.args.entry c.requires.entry c.requires.kind c.args.parts.now c.requires.parts c.args.ordinal (Some c.row-row.result)
    (c.args.ordinal - 1, omega (arith, c.requires.some, c.if-ordinal-parts.true), c.row-row.ensures.value, c.if-row-ordinal.true)

pub returns-then-row-ordinal-clause-grows : goal.returns-then-row-ordinal-clause-grows
returns-then-row-ordinal-clause-grows c = same_le _

pub member-requires-clause-entry : goal.member-requires-clause-entry
member-requires-clause-entry c = c.requires.entry

pub member-requires-clause-kind : goal.member-requires-clause-kind
member-requires-clause-kind c = c.requires.kind

pub member-requires-clause-budget : goal.member-requires-clause-budget
member-requires-clause-budget c = c.requires.budget
