use Rattle.fidl_decode.proofs.frames.Frames.take_structs.Goals as goal

pub returns-then-branch-clause-ok : goal.returns-then-branch-clause-ok
returns-then-branch-clause-ok c = c.in_ok-check_columns.ensures.ok c.if-branch.true
