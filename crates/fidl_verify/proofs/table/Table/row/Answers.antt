use Rattle.fidl_verify.proofs.Owning.{row_kept}
use Rattle.fidl_verify.proofs.table.Table.row.Goals as goal

pub returns-clause-entry : goal.returns-clause-entry
returns-clause-entry c = (row_kept c.self.inside.sections.bytes.now c.args.self.now c.self.inside.sections.header c.row.result c.args.index c.self.inside.sections.is_header c.self.view_is c.self.invariant c.requires c.row.ensures).0

pub returns-clause-name : goal.returns-clause-name
returns-clause-name c = (row_kept c.self.inside.sections.bytes.now c.args.self.now c.self.inside.sections.header c.row.result c.args.index c.self.inside.sections.is_header c.self.view_is c.self.invariant c.requires c.row.ensures).1
