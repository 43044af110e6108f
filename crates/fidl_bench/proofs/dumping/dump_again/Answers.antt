use Rattle.fidl_bench.proofs.Writing.{as_decoded, is_text}
use Rattle.fidl_bench.proofs.dumping.dump_again.Goals as goal

pub returns-clause-ok : goal.returns-clause-ok
returns-clause-ok c =
    let d = c.in-Ok.ensures in
    is_text _ _ _ _ _ d.ok.0 _ _ d.table d.entry d.ok.1
    (c.dump_once-2.ensures.text d.ok.0 (as_decoded _ _ _ _ _ _ _ _ _ d.table d.entry d.bytes d.handles d.ok.1))
