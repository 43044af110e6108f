use Rattle.std.proofs.Common.{◌≡◌, ◌∙◌, length, take, sym, ap, subst, arith}
use Rattle.std.proofs.lemmas.List.{take_all}
use Rattle.std.proofs.Math.ListN.{length-map}
use Rattle.fidl_ir.specs.Terms.{fields_view}
use Rattle.fidl_ir.specs.Members.{field_types}
use Rattle.fidl_ir_rules.specs.Flags.{is_flagged, NoneBears}
use Rattle.fidl_ir_rules.proofs.Seen.{field_type, fields_seen, bears_at, none_more}
use Rattle.fidl_ir_rules.proofs.resources.bearing_field.Goals as goal

pub returns-then-bears-clause-some : goal.returns-then-bears-clause-some
returns-then-bears-clause-some c = bears_at field_type (field_types (fields_view c.args.fields.now)) c.args.fields.now (fields_seen c.args.fields.now) c.loop-number.number c.index-fields-number.result c.loop-number-test.true c.index-fields-number.is (is_flagged c.args.flags.now) (sym c.bears.ensures ∙ c.if-bears.true)

pub loop-number-preserved : goal.loop-number-preserved
loop-number-preserved c = none_more field_type (field_types (fields_view c.args.fields.now)) c.args.fields.now (fields_seen c.args.fields.now) c.loop-number.number c.index-fields-number.result c.loop-number-test.true c.index-fields-number.is (is_flagged c.args.flags.now) c.loop-number.invariant (sym c.bears.ensures ∙ c.if-bears.false)

pub returns-clause-none : goal.returns-clause-none
returns-clause-none c = λ none.
    let types = field_types (fields_view c.args.fields.now) in
    let all : take c.loop-number.number types ≡ types = take_all c.loop-number.number types (omega (arith, c.loop-number-test.false, ap length (fields_seen c.args.fields.now), length-map c.args.fields.now field_type)) in
    subst (NoneBears (is_flagged c.args.flags.now)) all c.loop-number.invariant
