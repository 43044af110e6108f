use Rattle.fidl_decode_values.specs.Reading.{message}
use Rattle.std.proofs.Common.{◌-◌, inl, inr, sym, subst, ◌∙◌, arith}
use Rattle.std.specs.Prelude.{None}
use Rattle.std.proofs.lemmas.Result.{IfErr-weaker}
use Rattle.fidl_decode_model.specs.declared.frame.Remaining.{Remaining}
use Rattle.fidl_decode_model.specs.Machine.{BreaksFrame, at_of}
use Rattle.fidl_decode_model.proofs.Turning.{on_ok_from}
use Rattle.fidl_decode_columns.proofs.Leaves.{left_over, turns_then, turns_break}
use Rattle.fidl_decode.specs.Over.{AreRowsOfLeaves}
use Rattle.fidl_decode_values.proofs.Fitting.{one_more}
use Rattle.fidl_decode.proofs.frames.Frames.read_struct_of_leaves.Goals as goal

pub read_fields-requires-clause-leaves : goal.read_fields-requires-clause-leaves
read_fields-requires-clause-leaves c =
    let are = λ (l : Remaining). AreRowsOfLeaves c.args.self.now.decoder.table.now l in
    elim c.pass_over-rest.ensures.left [
      | inl same ↦ subst are (sym same ∙ c.in-Rows.is) c.requires.leaves
      | inr behind ↦ subst are (sym behind ∙ c.in-Rows.is) c.requires.behind
    ]

pub returns-clause-ok : goal.returns-clause-ok
returns-clause-ok c =
    let t = c.args.self.now.decoder.table.now in
    let m = message c.args.self.now.decoder in
    let g = c.pass_over-rest.result in
    let old = at_of c.args.state.now in
    let mid = at_of c.pass_over-rest.new.state in
    let new = at_of c.read_fields.new.state in
    let first = c.pass_over-rest.new.state.steps - c.args.state.now.steps in
    let spent = c.read_fields.new.state.steps - c.pass_over-rest.new.state.steps in
    let all = c.read_fields.new.state.steps - c.args.state.now.steps in
    let more = one_more _ _ _ c.read_fields.ensures.spends in
    on_ok_from c.read_fields.result (λ two. turns_then t m c.args.frame old mid first g c.pass_over-rest.ensures.turns new spent all (left_over None) (omega (arith, c.pass_over-rest.ensures.grows, more)) two)
    c.read_fields.ensures.ok

pub returns-clause-rises : goal.returns-clause-rises
returns-clause-rises c =
    let more = one_more _ _ _ c.read_fields.ensures.spends in
    on_ok_from c.read_fields.result (λ two. omega (arith, c.pass_over-rest.ensures.grows, more)) c.read_fields.ensures.ok

pub returns-clause-fault_is_true : goal.returns-clause-fault_is_true
returns-clause-fault_is_true c =
    let t = c.args.self.now.decoder.table.now in
    let m = message c.args.self.now.decoder in
    let old = at_of c.args.state.now in
    let mid = at_of c.pass_over-rest.new.state in
    let first = c.pass_over-rest.new.state.steps - c.args.state.now.steps in
    IfErr-weaker c.read_fields.result _ (BreaksFrame t m c.args.frame old)
    (λ fault b. turns_break t m c.args.frame old mid first c.pass_over-rest.result c.pass_over-rest.ensures.turns fault b) c.read_fields.ensures.fault_is_true
