use Rattle.std.proofs.Common.{refl, sym, ◌∙◌, inl, inr, true≢false}
use Rattle.fidl_tree.specs.Views.{value_view}
use Rattle.fidl_consts.specs.PlainValues.{seen}
use Rattle.fidl_const.proofs.LimitLaws.{lesser_none, word_limits, bound_limits, more_limits}
use Rattle.fidl_const.proofs.bounds.with_constraint.Goals as goal

pub returns-then-branch-clause-ok : goal.returns-then-branch-clause-ok
returns-then-branch-clause-ok c values h =
    more_limits _ c.args.scope.now.file.file_index c.args.scope.now.file.tree.now values (value_view c.args.value.now) c.args.limits _ _ (lesser_none c.args.limits.greatest) (λ off. absurd (true≢false off)) (λ on. inr refl) h
    (word_limits _ _ _ _ (sym c.in_ok-is_optional.ensures ∙ c.if-branch.true))

pub value_in-requires-clause-settled : goal.value_in-requires-clause-settled
value_in-requires-clause-settled c = c.requires.settled (sym c.in_ok-is_optional.ensures ∙ c.if-branch.false)

pub returns-clause-ok : goal.returns-clause-ok
returns-clause-ok c values h =
    more_limits _ c.args.scope.now.file.file_index c.args.scope.now.file.tree.now values (value_view c.args.value.now) c.args.limits _ _ c.lesser.ensures (λ off. (off, refl)) (λ on. inl on) h
    (bound_limits _ _ _ _ (seen c.in_ok-bound.bound) c.bound_of.result (sym c.in_ok-is_optional.ensures ∙ c.if-branch.false) c.in_ok-bound.ensures.ok c.in_ok-bound.ensures.fits c.bound_of.ensures.found c.bound_of.ensures.none)
