use Rattle.fidl_decode_values.specs.Reading.{message}
use Rattle.std.proofs.Common.{◌-◌, subst, arith}
use Rattle.std.specs.Prelude.{Option, Some}
use Rattle.std.proofs.lemmas.Result.{IfOk-weaker, IfErr-weaker}
use Rattle.fidl_decode_model.specs.declared.frame.Frame.{Frame}
use Rattle.fidl_decode_model.specs.Machine.{Turns, Visits, VisitFine, at_of, height}
use Rattle.fidl_decode_model.proofs.Turning.{fine_from, if_ok_on, on_ok_from}
use Rattle.fidl_decode_columns.proofs.Leaves.{left_over}
use Rattle.fidl_decode_columns.proofs.Wholly.{leaf_cost}
use Rattle.fidl_decode_values.proofs.BodyTurns.{visits_on}
use Rattle.fidl_decode_columns.proofs.Items.{visit_work}
use Rattle.fidl_decode.proofs.frames.Frames.read_item.Goals as goal

pub returns-in_err-below-clause-cost : goal.returns-in_err-below-clause-cost
returns-in_err-below-clause-cost c =
    let within = leaf_cost c.args.self.now.decoder.table.now c.args.self.now.decoder.fine c.args.self.now.decoder.bytes.value.came c.args.state.now.next c.args.entry c.requires.entry in
    omega (arith, within, c.in_err-below.ensures.spends.most)

pub returns-in_default-clause-cost : goal.returns-in_default-clause-cost
returns-in_default-clause-cost c =
    let within = leaf_cost c.args.self.now.decoder.table.now c.args.self.now.decoder.fine c.args.self.now.decoder.bytes.value.came c.args.state.now.next c.args.entry c.requires.entry in
    omega (arith, within, c.in_ok-below.ensures.spends.most)

pub read_leaves-requires-clause-frame : goal.read_leaves-requires-clause-frame
read_leaves-requires-clause-frame c =
    (subst (λ (o : Option Frame). VisitFine c.args.self.now.decoder.table.now (message c.args.self.now.decoder) c.args.depth c.args.in_envelope c.args.entry o) c.in-Some.is c.in_ok-below.ensures.fine).0

pub read_leaves-requires-clause-budget : goal.read_leaves-requires-clause-budget
read_leaves-requires-clause-budget c =
    let t = c.args.self.now.decoder.table.now in
    let m = message c.args.self.now.decoder in
    let old = c.args.state.now in
    let mid = c.visit.new.state in
    let v = subst (λ (o : Option Frame). Visits t m c.args.depth c.args.entry c.args.place (at_of old) (at_of mid) (mid.steps - old.steps) o) c.in-Some.is c.in_ok-below.ensures.ok in
    let work = visit_work t c.args.self.now.decoder.fine m c.args.depth c.args.entry c.args.place (at_of old) (at_of mid) (mid.steps - old.steps) (Some c.in-Some.below) c.requires.entry v in
    omega (arith, work, c.requires.budget, c.in_ok-below.ensures.spends.least)

pub returns-clause-ok : goal.returns-clause-ok
returns-clause-ok c =
    let t = c.args.self.now.decoder.table.now in
    let m = message c.args.self.now.decoder in
    let old = c.args.state.now in
    let mid = c.visit.new.state in
    let new = c.read_leaves.new.state in
    let v = subst (λ (o : Option Frame). Visits t m c.args.depth c.args.entry c.args.place (at_of old) (at_of mid) (mid.steps - old.steps) o) c.in-Some.is c.in_ok-below.ensures.ok in
    if_ok_on c.read_leaves.result (λ o. Turns t m c.in-Some.below (at_of mid) (at_of new) (new.steps - mid.steps) (left_over o)) (Visits t m c.args.depth c.args.entry c.args.place (at_of old) (at_of new) (new.steps - old.steps))
    (λ o turns more. visits_on t m c.args.depth c.args.entry c.args.place (at_of old) (at_of mid) (mid.steps - old.steps)
    c.in-Some.below v (at_of new) (new.steps - mid.steps) (new.steps - old.steps) o (omega (arith, c.in_ok-below.ensures.spends.least, more)) turns) c.read_leaves.ensures.ok c.read_leaves.ensures.grows

pub returns-clause-fine : goal.returns-clause-fine
returns-clause-fine c =
    let t = c.args.self.now.decoder.table.now in
    let m = message c.args.self.now.decoder in
    let fine = subst (λ (o : Option Frame). VisitFine t m c.args.depth c.args.in_envelope c.args.entry o) c.in-Some.is c.in_ok-below.ensures.fine in
    IfOk-weaker c.read_leaves.result _ _ (λ o turns. fine_from t m.bytes (height c.in-Some.below) _ o fine.1 turns.rest_fine) c.read_leaves.ensures.ok

pub returns-clause-grows : goal.returns-clause-grows
returns-clause-grows c = on_ok_from c.read_leaves.result (λ grows. omega (arith, grows, c.in_ok-below.ensures.spends.least)) c.read_leaves.ensures.grows

pub returns-clause-cost : goal.returns-clause-cost
returns-clause-cost c =
    let t = c.args.self.now.decoder.table.now in
    let m = message c.args.self.now.decoder in
    let old = c.args.state.now in
    let mid = c.visit.new.state in
    let v = subst (λ (o : Option Frame). Visits t m c.args.depth c.args.entry c.args.place (at_of old) (at_of mid) (mid.steps - old.steps) o) c.in-Some.is c.in_ok-below.ensures.ok in
    let work = visit_work t c.args.self.now.decoder.fine m c.args.depth c.args.entry c.args.place (at_of old) (at_of mid) (mid.steps - old.steps) (Some c.in-Some.below) c.requires.entry v in
    omega (arith, work, c.read_leaves.ensures.cost, c.in_ok-below.ensures.spends.least)

pub returns-clause-fault_is_true : goal.returns-clause-fault_is_true
returns-clause-fault_is_true c =
    let t = c.args.self.now.decoder.table.now in
    let m = message c.args.self.now.decoder in
    let old = c.args.state.now in
    let mid = c.visit.new.state in
    let v = subst (λ (o : Option Frame). Visits t m c.args.depth c.args.entry c.args.place (at_of old) (at_of mid) (mid.steps - old.steps) o) c.in-Some.is c.in_ok-below.ensures.ok in
    IfErr-weaker c.read_leaves.result _ _ v.breaks c.read_leaves.ensures.fault_is_true
