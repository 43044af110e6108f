use Rattle.fidl_table.proofs.Lists.{listed}
use Rattle.fidl_table.proofs.protocols.protocol_entries.Goals as goal

pub returns : goal.returns
returns c = listed c.args.named.now c.args.protocols.now c.in_ok-entries.entries.items c.sort_by.new.self.items c.in_ok-entries.ensures c.in_ok-sort_by.ensures.permutation
