use Rattle.fidl_decode_values.specs.Reading.{message}
use Rattle.std.proofs.Common.{◌≡◌, ◌+◌, ◌-◌, ap, subst, arith}
use Rattle.std.specs.Prelude.{Option, IfSome}
use Rattle.std.proofs.lemmas.Result.{IfErr-weaker}
use Rattle.fidl_decode_model.specs.declared.frame.Frame.{Frame}
use Rattle.fidl_decode_values.specs.Body.{elements_of}
use Rattle.fidl_decode_model.specs.Breaks.{count_at}
use Rattle.fidl_decode_model.specs.Machine.{Visits, VisitFine, at_of}
use Rattle.fidl_decode_values.proofs.Fitting.{le_more, spends_any}
use Rattle.fidl_decode_model.proofs.Turning.{on_ok_from, passed_on}
use Rattle.fidl_decode_model.proofs.Listed.{vector_breaks}
use Rattle.fidl_decode_columns.proofs.Wholly.{visits_over}
use Rattle.fidl_table_format.specs.declared.kind.EntryKind.TheVariants.{Vector}
use Rattle.fidl_decode_values.proofs.ReadyPlaces.{value_of}
use Rattle.fidl_decode_values.proofs.decoder.Decoder.pass_numbers.Goals as goal

pub returns-in_err-frame-clause-fault_is_true : goal.returns-in_err-frame-clause-fault_is_true
returns-in_err-frame-clause-fault_is_true c =
    passed_on c.from_residual.result c.in_err-frame.field-0.0 _ c.from_residual.ensures.1
    (vector_breaks c.args.self.now.table.now c.args.self.now.fine (message c.args.self.now) c.args.depth c.args.entry c.args.place (at_of c.args.state.now)
    c.requires.entry c.requires.kind c.requires.state c.requires.depth _ c.in_err-frame.ensures.fault_is_true)

pub pass_elements-requires-clause-frame : goal.pass_elements-requires-clause-frame
pass_elements-requires-clause-frame c =
    (subst (λ (o : Option Frame). VisitFine c.args.self.now.table.now (message c.args.self.now) c.args.depth 0 c.args.entry o) c.in-Some.is (c.in_ok-frame.ensures.fine 0 (le_more 0 1))).0

pub returns-clause-ok : goal.returns-clause-ok
returns-clause-ok c =
    let t = c.args.self.now.table.now in
    let m = message c.args.self.now in
    let old = c.args.state.now in
    let mid = c.read_vector.new.state in
    let new = c.pass_elements.new.state in
    let v = subst (λ (o : Option Frame). Visits t m c.args.depth c.args.entry c.args.place (at_of old) (at_of mid) (mid.steps - old.steps) o) c.in-Some.is c.in_ok-frame.ensures.ok in
    let least = c.pass_elements.ensures.spends.least in
    on_ok_from c.pass_elements.result (visits_over t m c.args.depth c.args.entry c.args.place (at_of old) (at_of mid) (mid.steps - old.steps) c.in-Some.frame v (at_of new) (new.steps - mid.steps) (new.steps - old.steps) (omega (arith, c.in_ok-frame.ensures.steps, least))) c.pass_elements.ensures.ok

pub returns-clause-fault_is_true : goal.returns-clause-fault_is_true
returns-clause-fault_is_true c =
    let t = c.args.self.now.table.now in
    let m = message c.args.self.now in
    let old = c.args.state.now in
    let mid = c.read_vector.new.state in
    let v = subst (λ (o : Option Frame). Visits t m c.args.depth c.args.entry c.args.place (at_of old) (at_of mid) (mid.steps - old.steps) o) c.in-Some.is c.in_ok-frame.ensures.ok in
    IfErr-weaker c.pass_elements.result _ _ v.breaks c.pass_elements.ensures.fault_is_true

pub returns-clause-spends : goal.returns-clause-spends
returns-clause-spends c =
    let t = c.args.self.now.table.now in
    let m = message c.args.self.now in
    let still = c.in_ok-frame.ensures.steps in
    let whole = c.pass_elements.ensures.spends in
    let room = (subst (λ (o : Option Frame). VisitFine t m c.args.depth 0 c.args.entry o) c.in-Some.is (c.in_ok-frame.ensures.fine 0 (le_more 0 1))).0.room in
    let found = subst (λ (o : Option Frame). IfSome o (λ f. f ≡ elements_of t c.args.entry c.args.state.now.next (count_at c.args.self.now.bytes.value.came c.args.place) (c.args.depth + 1))) c.in-Some.is c.in_ok-frame.ensures.frame in
    let base : c.in-Some.frame.base ≡ c.args.state.now.next = ap (λ (f : Frame). f.base) found in
    spends_any _ _ _ (omega (arith, still, whole.least)) (omega (arith, still, whole.most, room, base))

pub pass_elements-requires-clause-ready : goal.pass_elements-requires-clause-ready
pass_elements-requires-clause-ready c =
    let t = c.args.self.now.table.now in
    let m = message c.args.self.now in
    let old = at_of c.args.state.now in
    let mid = c.read_vector.new.state in
    let v = subst (λ (o : Option Frame). Visits t m c.args.depth c.args.entry c.args.place old (at_of mid) (mid.steps - c.args.state.now.steps) o) c.in-Some.is c.in_ok-frame.ensures.ok in
    let ready = value_of t c.args.self.now.fine m old c.args.entry c.args.place Vector c.requires.entry c.requires.kind c.requires.ready in
    let moves = v.moves ready.0 ready.1 ready.2 in
    (moves.ahead, moves.below_clear)
