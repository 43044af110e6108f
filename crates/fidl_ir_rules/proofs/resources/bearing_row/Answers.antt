use Rattle.std.proofs.Common.{◌≡◌, ◌∙◌, length, take, sym, ap, subst, arith}
use Rattle.std.proofs.lemmas.List.{take_all}
use Rattle.std.proofs.Math.ListN.{length-map}
use Rattle.fidl_ir.specs.Terms.{rows_view}
use Rattle.fidl_ir.specs.Members.{row_types}
use Rattle.fidl_ir_rules.specs.Flags.{is_flagged, NoneBears}
use Rattle.fidl_ir_rules.proofs.Seen.{row_type, rows_seen, bears_at, none_more}
use Rattle.fidl_ir_rules.proofs.resources.bearing_row.Goals as goal

pub returns-then-bears-clause-some : goal.returns-then-bears-clause-some
returns-then-bears-clause-some c = bears_at row_type (row_types (rows_view c.args.rows.now)) c.args.rows.now (rows_seen c.args.rows.now) c.loop-number.number c.index-rows-number.result c.loop-number-test.true c.index-rows-number.is (is_flagged c.args.flags.now) (sym c.bears.ensures ∙ c.if-bears.true)

pub loop-number-preserved : goal.loop-number-preserved
loop-number-preserved c = none_more row_type (row_types (rows_view c.args.rows.now)) c.args.rows.now (rows_seen c.args.rows.now) c.loop-number.number c.index-rows-number.result c.loop-number-test.true c.index-rows-number.is (is_flagged c.args.flags.now) c.loop-number.invariant (sym c.bears.ensures ∙ c.if-bears.false)

pub returns-clause-none : goal.returns-clause-none
returns-clause-none c = λ none.
    let types = row_types (rows_view c.args.rows.now) in
    let all : take c.loop-number.number types ≡ types = take_all c.loop-number.number types (omega (arith, c.loop-number-test.false, ap length (rows_seen c.args.rows.now), length-map c.args.rows.now row_type)) in
    subst (NoneBears (is_flagged c.args.flags.now)) all c.loop-number.invariant
