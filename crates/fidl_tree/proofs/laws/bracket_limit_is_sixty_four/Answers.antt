use Rattle.std.proofs.Common.{◌+◌, arith, take, replicate}
use Rattle.std.proofs.lemmas.List.{length-take, length-replicate}
use Rattle.std.proofs.lemmas.List.Sums.{count_by-le-length}
use Rattle.fidl_limits.specs.declared.limits.TheConstants.{MAX_SOURCE_BRACKETS}
use Rattle.fidl_tree.specs.Brackets.{opens, parenthesis}
use Rattle.fidl_tree.proofs.laws.bracket_limit_is_sixty_four.Goals as goal

pub returns-clause-reached : goal.returns-clause-reached
returns-clause-reached c n =
    let few = count_by-le-length (λ w. opens w.kind) (take n (replicate MAX_SOURCE_BRACKETS parenthesis)) in
    let long = length-take n (replicate MAX_SOURCE_BRACKETS parenthesis) in
    omega (arith, few, long, length-replicate MAX_SOURCE_BRACKETS parenthesis)

pub returns-clause-passed : goal.returns-clause-passed
returns-clause-passed c within = absurd (omega (arith, within (MAX_SOURCE_BRACKETS + 1)))
