use Rattle.std.proofs.Common.{sym, subst, add-one, below_more}
use Rattle.fidl_verify.specs.Measured.{AreBefore}
use Rattle.fidl_verify.proofs.entry.check_entries.Goals as goal

pub loop-index-preserved : goal.loop-index-preserved
loop-index-preserved c = record {
  parts = subst (λ n. AreBefore c.args.table.now.bytes.now n c.in_ok-parts.parts) (sym (add-one c.loop-index.index)) c.in_ok-parts.ensures.parts;
  room = c.in_ok-parts.ensures.room;
  seen = c.in_ok-parts.ensures.seen;
  kept = below_more _ _ c.loop-index.invariant.kept c.in_ok-parts.ensures.ok;
}
