use Rattle.std.proofs.Common.{◌-◌, sym, ◌∙◌, arith}
use Rattle.std.specs.Prelude.{Some}
use Rattle.fidl_verify.proofs.Members.{lies_within, if_some}
use Rattle.fidl_encode.proofs.envelope.row_of.Goals as goal

pub overflow_add-parts : goal.overflow_add-parts
overflow_add-parts c =
    let within = lies_within c.args.table.now c.rows-rows.ensures.well_formed c.args.index c.requires.entry c.requires.kind c.args.parts.now c.requires.parts in
    record { fits = omega (arith, within, c.requires.some, c.if-ordinal-from.true, c.rows-rows.ensures.value) }

pub row-row-requires : goal.row-row-requires
row-row-requires c =
    let within = lies_within c.args.table.now c.rows-rows.ensures.well_formed c.args.index c.requires.entry c.requires.kind c.args.parts.now c.requires.parts in
    omega (arith, within, c.requires.some, c.if-ordinal-from.true)

pub returns-then-from-ordinal-clause-some : goal.returns-then-from-ordinal-clause-some
returns-then-from-ordinal-clause-some c =
    if_some c.args.table.now c.rows-rows.ensures.well_formed c.args.index c.requires.entry c.requires.kind c.args.parts.now c.requires.parts c.args.ordinal (Some c.row-row.result)
    (c.args.ordinal - 1, omega (arith, c.requires.some, c.if-ordinal-from.true), c.row-row.ensures.value, sym c.from-then-ordinal-from.ensures ∙ c.if-from-ordinal.true)
