use Rattle.std.proofs.Common.{length, ap, arith, length-append}
use Rattle.fidl_reading.proofs.Sought.{one_more}
use Rattle.fidl_reading.proofs.indexed_table.all_members.Goals as goal

pub loop-index-preserved : goal.loop-index-preserved
loop-index-preserved c =
    let old = c.loop-index.members.items in
    let now = c.in_ok-push.ensures.items in
    record {
      long = omega (arith, c.loop-index.invariant.long, ap length now, length-append old);
      found = one_more c.args.table.now old c.push.new.self.items c.in_ok-found.found c.loop-index.index c.loop-index.invariant.long now c.loop-index.invariant.found c.in_ok-found.ensures;
    }
