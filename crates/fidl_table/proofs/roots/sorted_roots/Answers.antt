use Rattle.fidl_table.proofs.Lists.{roots_moved}
use Rattle.fidl_table.proofs.roots.sorted_roots.Goals as goal

pub returns : goal.returns
returns c = roots_moved c.args.types.now c.in-Ok.roots.items c.sort_by_key.new.self.items c.in_ok-sort_by_key.ensures.permutation c.in-Ok.ensures.ok
