use Rattle.fidl_decode_values.specs.Reading.{message}
use Rattle.std.proofs.Common.{◌≡◌, ◌+◌, ◌-◌, sym, ap, subst, arith}
use Rattle.std.specs.Prelude.{Some}
use Rattle.fidl_decode_model.specs.State.{Position}
use Rattle.fidl_decode_values.specs.Body.{rest_of}
use Rattle.fidl_decode_model.specs.Machine.{Turns, at_of}
use Rattle.fidl_decode_columns.proofs.Leaves.{left_over, turns_then, turns_stay}
use Rattle.fidl_decode_values.proofs.decoder.Decoder.pass_run.Goals as goal

pub loop-at-init : goal.loop-at-init
loop-at-init c = record {
  holds = c.requires.holds;
  turns = turns_stay c.args.self.now.table.now (message c.args.self.now) (rest_of c.args.body.now c.args.from.read) (at_of c.args.state.now) c.requires.frame c.requires.state _ (omega arith);
  order = omega arith;
  few = c.requires.more;
  at = c.requires.at;
  grows = omega arith;
  pays = omega arith;
}

pub loop-at-preserved : goal.loop-at-preserved
loop-at-preserved c =
    let t = c.args.self.now.table.now in
    let m = message c.args.self.now in
    let body = c.args.body.now in
    let i = c.loop-at.invariant in
    let new = c.pass_next.new.state in
    let old = at_of c.args.state.now in
    let f = rest_of body c.args.from.read in
    let one = i.turns in
    let order = i.order in
    let begun = i.grows in
    let grows = c.pass_next.ensures.grows in
    let pays = c.pass_next.ensures.pays in
    let few = i.few in
    record {
      holds = c.pass_next.ensures.holds;
      turns = subst (λ r. Turns t m f old (at_of new) (new.steps + (r - c.args.from.read) - c.args.state.now.steps) (left_over (Some (rest_of body r)))) (sym c.behind-at.ensures.read)
          (turns_then t m f old (at_of c.loop-at.state) _ (rest_of body c.loop-at.at.read) one
          (at_of new) (new.steps + 1 - c.loop-at.state.steps) (new.steps + (c.loop-at.at.read + 1 - c.args.from.read) - c.args.state.now.steps)
          (left_over (Some (rest_of body (c.loop-at.at.read + 1)))) (omega (arith, order, begun, grows))
          (c.pass_next.ensures.passed c.if-pass_next.true));
      order = omega (arith, order, c.behind-at.ensures.read);
      few = omega (arith, few, c.loop-at-test.true, c.behind-at.ensures.read);
      at = c.behind-at.ensures.at;
      grows = omega (arith, begun, grows);
      pays = omega (arith, pays, i.pays);
    }

pub returns-else-pass_next-clause-turns : goal.returns-else-pass_next-clause-turns
returns-else-pass_next-clause-turns c =
    let t = c.args.self.now.table.now in
    let m = message c.args.self.now in
    let f = rest_of c.args.body.now c.args.from.read in
    let old = at_of c.args.state.now in
    let x = left_over (Some (rest_of c.args.body.now c.loop-at.at.read)) in
    let l = c.loop-at.state in
    let s = c.pass_next.new.state in
    let kept = c.pass_next.ensures.kept c.if-pass_next.false in
    let next : s.next ≡ l.next = ap (λ (s : Position). s.next) kept in
    let grows = c.pass_next.ensures.grows in
    let pays = c.pass_next.ensures.pays in
    let count : l.steps + (c.loop-at.at.read - c.args.from.read) - c.args.state.now.steps ≡ s.steps + (c.loop-at.at.read - c.args.from.read) - c.args.state.now.steps = omega (arith, next, grows, pays) in
    subst (λ (u : Position). Turns t m f old u (s.steps + (c.loop-at.at.read - c.args.from.read) - c.args.state.now.steps) x) (sym kept) (subst (λ n. Turns t m f old (at_of l) n x) count c.loop-at.invariant.turns)

pub pass_next-requires-clause-body : goal.pass_next-requires-clause-body
pass_next-requires-clause-body c = c.requires.body

pub pass_next-requires-clause-entry : goal.pass_next-requires-clause-entry
pass_next-requires-clause-entry c = c.requires.entry

pub pass_next-requires-clause-how : goal.pass_next-requires-clause-how
pass_next-requires-clause-how c = c.requires.how
