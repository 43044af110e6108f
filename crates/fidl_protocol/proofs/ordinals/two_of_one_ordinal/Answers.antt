use Rattle.std.proofs.Common.{◌≡◌, ◌≤◌, ◌-◌, get_or, sym, subst, arith}
use Rattle.fidl_protocol.proofs.Naming.{no_method}
use Rattle.fidl_protocol.proofs.Ordering.{pair_beside, rise_more, rise_all}
use Rattle.fidl_protocol.proofs.ordinals.two_of_one_ordinal.Goals as goal

pub loop-index-preserved : goal.loop-index-preserved
loop-index-preserved c =
    let some = c.loop-index.invariant.some in
    record {
      some = omega (arith, some);
      rise = rise_more c.args.methods.now c.loop-index.index no_method some c.loop-index-test.true c.if-one-other.false c.loop-index.invariant.rise;
    }

pub returns-clause-none : goal.returns-clause-none
returns-clause-none c = λ _.
    let past = c.loop-index-test.false in
    rise_all c.args.methods.now c.loop-index.index (omega (arith, past)) c.requires c.loop-index.invariant.rise
