use Rattle.std.proofs.Common.{arith}
use Rattle.fidl_script.proofs.Finding.{no_more}
use Rattle.fidl_script.proofs.lines.place_of.Goals as goal

pub loop-place-preserved : goal.loop-place-preserved
loop-place-preserved c = record {
  within = omega (arith, c.loop-place-test.true);
  before = no_more c.args.byte c.args.bytes.now c.loop-place.place c.loop-place-test.true c.loop-place.invariant.before c.if-bytes-place.true;
}
