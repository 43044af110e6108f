use Rattle.fidl_members.proofs.columns.StructColumn.read.Goals as goal

pub returns-clause-members : goal.returns-clause-members
returns-clause-members c v h = let x = c.part.ensures.part v h in (x.0, x.1, c.struct_members.ensures.members x.0 x.2)
