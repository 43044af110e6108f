use Rattle.std.proofs.Common.{arith}
use Rattle.fidl_consts.proofs.StringLaws.{place_is}
use Rattle.fidl_consts.proofs.strings.brace_place.Goals as goal

pub returns-else-text-place-ne125-clause-place : goal.returns-else-text-place-ne125-clause-place
returns-else-text-place-ne125-clause-place c = place_is _ _ c.loop-place.invariant.within c.loop-place.invariant.before (λ _. c.if-text-place-ne125.false)

pub returns-after-loop-place-clause-place : goal.returns-after-loop-place-clause-place
returns-after-loop-place-clause-place c = place_is _ _ c.loop-place.invariant.within c.loop-place.invariant.before (λ h. absurd (omega arith))
