use Rattle.std.proofs.Common.{below_more}
use Rattle.fidl_table_format.specs.Root.{IsRoot}
use Rattle.fidl_verify.proofs.roots.check_roots.Goals as goal

pub loop-index-preserved : goal.loop-index-preserved
loop-index-preserved c = record {
  rules = below_more (λ k. IsRoot c.args.table.now.bytes.now c.args.table.now.header k) _ c.loop-index.invariant.rules c.in_ok-check_root.ensures.ok;
  seen = c.in_ok-check_root.ensures.seen;
}
