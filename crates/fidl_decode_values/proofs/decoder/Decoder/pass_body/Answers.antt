use Rattle.fidl_decode_values.specs.Reading.{message}
use Rattle.std.proofs.Common.{◌+◌, ◌-◌, sym, subst, arith}
use Rattle.std.specs.Prelude.{Some}
use Rattle.fidl_decode_model.specs.declared.frame.State.{State}
use Rattle.fidl_decode_values.specs.Body.{rest_of}
use Rattle.fidl_decode_model.specs.Machine.{Turns, at_of}
use Rattle.fidl_decode_columns.proofs.Leaves.{left_over, turns_then, turns_stay}
use Rattle.fidl_decode_values.proofs.decoder.Decoder.pass_body.Goals.{else-loop-at-test, then-loop-at-test+then-next-at}
use Rattle.fidl_decode_values.proofs.decoder.Decoder.pass_body.Goals as goal

pub loop-at-init : goal.loop-at-init
loop-at-init c = record {
  holds = c.requires.holds;
  turns = turns_stay c.args.self.now.table.now (message c.args.self.now) (rest_of c.args.body.now 0) (at_of c.args.state.now) c.requires.frame c.requires.state _ (omega arith);
  few = omega arith;
  at = omega arith;
  grows = omega arith;
  pays = omega arith;
}

pub loop-at-preserved : goal.loop-at-preserved
loop-at-preserved c =
    let t = c.args.self.now.table.now in
    let m = message c.args.self.now in
    let body = c.args.body.now in
    let i = c.loop-at.invariant in
    let begun = i.grows in
    let new = c.pass_some-next.new.state in
    let grows = c.pass_some-next.ensures.grows in
    let order = c.pass_some-next.ensures.order in
    record {
      holds = c.pass_some-next.ensures.holds;
      turns = turns_then t m (rest_of body 0) (at_of c.args.state.now) (at_of c.loop-at.state)
          (c.loop-at.state.steps + c.loop-at.at.read - c.args.state.now.steps) (rest_of body c.loop-at.at.read) i.turns (at_of new)
          (new.steps + (c.pass_some-next.result.read - c.loop-at.at.read) - c.loop-at.state.steps)
          (new.steps + c.pass_some-next.result.read - c.args.state.now.steps) (left_over (Some (rest_of body c.pass_some-next.result.read)))
          (omega (arith, begun, grows, order)) c.pass_some-next.ensures.turns;
      few = c.pass_some-next.ensures.few;
      at = c.pass_some-next.ensures.at;
      grows = omega (arith, begun, grows);
      pays = omega (arith, c.pass_some-next.ensures.pays, i.pays, order);
    }

pub returns-clause-turns : goal.returns-clause-turns
returns-clause-turns c =
    let t = c.args.self.now.table.now in
    let m = message c.args.self.now in
    let body = c.args.body.now in
    let old = c.args.state.now in
    let l = c.loop-at.state in
    let x = left_over (Some (rest_of body c.loop-at.at.read)) in
    let i = c.loop-at.invariant in
    let begun = i.grows in
    let so_far : Turns t m (rest_of body 0) (at_of old) (at_of c.loop-at-test.state) (c.loop-at-test.state.steps + c.loop-at.at.read - old.steps) x = elim c.loop-at-test.branch [
      | else-loop-at-test w ↦ subst (λ (s : State). Turns t m (rest_of body 0) (at_of old) (at_of s) (s.steps + c.loop-at.at.read - old.steps) x) (sym w.state-is) i.turns
      | then-loop-at-test+then-next-at w ↦
          let new = w.pass_some-next.new.state in
          let grows = w.pass_some-next.ensures.grows in
          let same = w.if-next-at.true in
          let two = subst (λ n. Turns t m (rest_of body c.loop-at.at.read) (at_of l) (at_of new) (new.steps + (n - c.loop-at.at.read) - l.steps) (left_over (Some (rest_of body n)))) same w.pass_some-next.ensures.turns in
          let run = turns_then t m (rest_of body 0) (at_of old) (at_of l) (l.steps + c.loop-at.at.read - old.steps) (rest_of body c.loop-at.at.read)
          i.turns (at_of new) (new.steps + (c.loop-at.at.read - c.loop-at.at.read) - l.steps) (new.steps + c.loop-at.at.read - old.steps) x
          (omega (arith, begun, grows)) two in
          subst (λ (s : State). Turns t m (rest_of body 0) (at_of old) (at_of s) (s.steps + c.loop-at.at.read - old.steps) x) (sym w.state-is) run
    ] in
    subst (λ n. Turns t m (rest_of body 0) (at_of old) (at_of c.loop-at-test.state) (c.loop-at-test.state.steps + n - old.steps) x) (sym c.from.ensures) so_far

pub pass_some-next-requires-clause-body : goal.pass_some-next-requires-clause-body
pass_some-next-requires-clause-body c = c.requires.body
