use Rattle.fidl_members.proofs.slots.StructSlot.read.Goals as goal

pub returns-in_default-clause-members : goal.returns-in_default-clause-members
returns-in_default-clause-members c v h = c.in_default.ensures.part v h

pub returns-clause-members : goal.returns-clause-members
returns-clause-members c v h = let x = c.in-Some.ensures.part v h in (x.0, x.1, c.struct_members.ensures.members x.0 x.2)
