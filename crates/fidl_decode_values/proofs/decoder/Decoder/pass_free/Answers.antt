use Rattle.fidl_decode_values.proofs.Unchanged.{no_true, same_le}
use Rattle.std.proofs.Common.{refl, arith}
use Rattle.fidl_decode_values.proofs.decoder.Decoder.pass_free.Goals as goal

pub entry-e-requires : goal.entry-e-requires
entry-e-requires c = c.requires.entry

pub is_free-requires : goal.is_free-requires
is_free-requires c = omega arith

pub returns-then-not-is_free-clause-passed : goal.returns-then-not-is_free-clause-passed
returns-then-not-is_free-clause-passed c so = absurd (no_true so)

pub returns-then-not-is_free-clause-kept : goal.returns-then-not-is_free-clause-kept
returns-then-not-is_free-clause-kept c kept = refl

pub returns-then-not-is_free-clause-grows : goal.returns-then-not-is_free-clause-grows
returns-then-not-is_free-clause-grows c = same_le _

pub returns-then-not-is_free-clause-steps : goal.returns-then-not-is_free-clause-steps
returns-then-not-is_free-clause-steps c = refl

pub pass_inside-requires-clause-entry : goal.pass_inside-requires-clause-entry
pass_inside-requires-clause-entry c = c.requires.entry

pub pass_inside-requires-clause-room : goal.pass_inside-requires-clause-room
pass_inside-requires-clause-room c = c.requires.room

pub pass_inside-requires-clause-state : goal.pass_inside-requires-clause-state
pass_inside-requires-clause-state c = c.requires.state

pub pass_inside-requires-clause-depth : goal.pass_inside-requires-clause-depth
pass_inside-requires-clause-depth c = c.requires.depth

pub pass_below-requires-clause-entry : goal.pass_below-requires-clause-entry
pass_below-requires-clause-entry c = c.requires.entry

pub pass_below-requires-clause-room : goal.pass_below-requires-clause-room
pass_below-requires-clause-room c = c.requires.room

pub pass_below-requires-clause-state : goal.pass_below-requires-clause-state
pass_below-requires-clause-state c = c.requires.state

pub pass_below-requires-clause-depth : goal.pass_below-requires-clause-depth
pass_below-requires-clause-depth c = c.requires.depth

pub returns-then-size-le4-clause-passed : goal.returns-then-size-le4-clause-passed
returns-then-size-le4-clause-passed c = c.pass_inside.ensures.passed

pub returns-then-size-le4-clause-kept : goal.returns-then-size-le4-clause-kept
returns-then-size-le4-clause-kept c = c.pass_inside.ensures.kept

pub returns-then-size-le4-clause-grows : goal.returns-then-size-le4-clause-grows
returns-then-size-le4-clause-grows c = c.pass_inside.ensures.grows

pub returns-then-size-le4-clause-steps : goal.returns-then-size-le4-clause-steps
returns-then-size-le4-clause-steps c = c.pass_inside.ensures.steps

pub returns-clause-passed : goal.returns-clause-passed
returns-clause-passed c = c.pass_below.ensures.passed

pub returns-clause-kept : goal.returns-clause-kept
returns-clause-kept c = c.pass_below.ensures.kept

pub returns-clause-grows : goal.returns-clause-grows
returns-clause-grows c = c.pass_below.ensures.grows

pub returns-clause-steps : goal.returns-clause-steps
returns-clause-steps c = c.pass_below.ensures.steps

pub returns-then-size-ne8-clause-passed : goal.returns-then-size-ne8-clause-passed
returns-then-size-ne8-clause-passed c so = absurd (no_true so)

pub returns-then-size-ne8-clause-kept : goal.returns-then-size-ne8-clause-kept
returns-then-size-ne8-clause-kept c kept = refl

pub returns-then-size-ne8-clause-grows : goal.returns-then-size-ne8-clause-grows
returns-then-size-ne8-clause-grows c = same_le _

pub returns-then-size-ne8-clause-steps : goal.returns-then-size-ne8-clause-steps
returns-then-size-ne8-clause-steps c = refl
