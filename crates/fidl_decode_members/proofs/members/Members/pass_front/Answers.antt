use Rattle.fidl_decode_values.specs.Reading.{message}
use Rattle.std.proofs.Common.{◌≡◌, ◌+◌, ◌-◌, sym, ap, subst, arith}
use Rattle.std.specs.Prelude.{Some}
use Rattle.fidl_decode_model.specs.declared.frame.State.{State}
use Rattle.fidl_decode_model.specs.State.{Position}
use Rattle.fidl_decode_model.specs.Machine.{Turns, at_of}
use Rattle.fidl_decode_columns.proofs.Leaves.{left_over, turns_then, turns_stay}
use Rattle.fidl_decode_members.specs.Members.{rest_of}
use Rattle.fidl_decode_members.proofs.members.Members.pass_front.Goals.{then-loop-read-test+else-pass_next, else-loop-read-test}
use Rattle.fidl_decode_members.proofs.members.Members.pass_front.Goals as goal

pub loop-read-init : goal.loop-read-init
loop-read-init c =
    let d = c.args.decoder.now in
    record {
      holds = c.requires.holds;
      turns = turns_stay d.table.now (message d) (rest_of c.args.self.now c.args.envelopes.now 0) (at_of c.args.state.now) c.requires.frame c.requires.state _ (omega arith);
      few = omega arith;
      grows = omega arith;
      pays = omega arith;
    }

pub loop-read-preserved : goal.loop-read-preserved
loop-read-preserved c =
    let d = c.args.decoder.now in
    let x = c.args.self.now in
    let e = c.args.envelopes.now in
    let i = c.loop-read.invariant in
    let old = c.args.state.now in
    let mid = c.loop-read.state in
    let new = c.pass_next.new.state in
    let begun = i.grows in
    let few = i.few in
    let grows = c.pass_next.ensures.grows in
    let pays = c.pass_next.ensures.pays in
    record {
      holds = c.pass_next.ensures.holds;
      turns = turns_then d.table.now (message d) (rest_of x e 0) (at_of old) (at_of mid) (mid.steps + c.loop-read.read - old.steps) (rest_of x e c.loop-read.read) i.turns
          (at_of new) (new.steps + 1 - mid.steps) (new.steps + (c.loop-read.read + 1) - old.steps) (left_over (Some (rest_of x e (c.loop-read.read + 1))))
          (omega (arith, begun, grows)) (c.pass_next.ensures.passed c.if-pass_next.true);
      few = omega (arith, few, c.loop-read-test.true);
      grows = omega (arith, begun, grows);
      pays = omega (arith, pays, i.pays);
    }

pub returns-clause-turns : goal.returns-clause-turns
returns-clause-turns c =
    let d = c.args.decoder.now in
    let t = d.table.now in
    let m = message d in
    let x = c.args.self.now in
    let e = c.args.envelopes.now in
    let old = c.args.state.now in
    let l = c.loop-read.state in
    let n = c.loop-read.read in
    let rest = left_over (Some (rest_of x e n)) in
    let i = c.loop-read.invariant in
    let so_far : Turns t m (rest_of x e 0) (at_of old) (at_of c.loop-read-test.state) (c.loop-read-test.state.steps + n - old.steps) rest = elim c.loop-read-test.branch [
      | else-loop-read-test w ↦ subst (λ (s : State). Turns t m (rest_of x e 0) (at_of old) (at_of s) (s.steps + n - old.steps) rest) (sym w.state-is) i.turns
      | then-loop-read-test+else-pass_next w ↦
          let s = w.pass_next.new.state in
          let kept = w.pass_next.ensures.kept w.if-pass_next.false in
          let next : s.next ≡ l.next = ap (λ (s : Position). s.next) kept in
          let grows = w.pass_next.ensures.grows in
          let pays = w.pass_next.ensures.pays in
          let count : l.steps + n - old.steps ≡ s.steps + n - old.steps = omega (arith, next, grows, pays) in
          let run = subst (λ (u : Position). Turns t m (rest_of x e 0) (at_of old) u (s.steps + n - old.steps) rest) (sym kept) (subst (λ k. Turns t m (rest_of x e 0) (at_of old) (at_of l) k rest) count i.turns) in
          subst (λ (s : State). Turns t m (rest_of x e 0) (at_of old) (at_of s) (s.steps + n - old.steps) rest) (sym w.state-is) run
    ] in
    subst (λ k. Turns t m (rest_of x e 0) (at_of old) (at_of c.loop-read-test.state) (c.loop-read-test.state.steps + k - old.steps) rest) (sym c.from.ensures) so_far
