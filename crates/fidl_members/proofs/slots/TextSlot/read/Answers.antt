use Rattle.fidl_members.proofs.slots.TextSlot.read.Goals as goal

pub returns-in_default : goal.returns-in_default
returns-in_default c v h = c.in_default.ensures.part v h

pub returns : goal.returns
returns c v h = let x = c.in-Some.ensures.part v h in (x.0, x.1, c.text.ensures x.0 x.2)
