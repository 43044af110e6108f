use Rattle.std.proofs.Common.{sym, ◌∙◌, arith}
use Rattle.std.specs.Char.{is_ascii_hexdigit}
use Rattle.fidl_reading.proofs.Runs.{passes_more}
use Rattle.fidl_reading.proofs.escapes.hex_end.Goals as goal

pub loop-to-preserved : goal.loop-to-preserved
loop-to-preserved c = record {
  ordered = omega arith;
  within = omega arith;
  passes = passes_more is_ascii_hexdigit _ _ _ c.loop-to.invariant.ordered c.loop-to-test.true c.loop-to.invariant.passes (sym c.is_ascii_hexdigit.ensures.value ∙ c.if-is_ascii_hexdigit.true);
}
