use Rattle.fidl_members.proofs.columns.TextColumn.read.Goals as goal

pub returns : goal.returns
returns c v h = let x = c.part.ensures.part v h in (x.0, x.1, c.text.ensures x.0 x.2)
