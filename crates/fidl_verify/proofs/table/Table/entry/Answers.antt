use Rattle.fidl_verify.proofs.Owning.{entry_named}
use Rattle.fidl_verify.proofs.table.Table.entry.Goals as goal

pub returns-clause-name : goal.returns-clause-name
returns-clause-name c = entry_named c.self.inside.sections.bytes.now c.args.self.now c.entry.result c.args.index c.self.view_is c.self.invariant c.requires c.entry.ensures
