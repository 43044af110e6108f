-- A variant is its level rolled up, whose fold is the step.
use Rattle.std.proofs.Common.{sym, ap, ◌∙◌}
use Rattle.fidl_wire.specs.Views.{member_view}
use Rattle.fidl_wire.specs.declared.value.Member.{Member-F, fold-roll-Member}
use Rattle.fidl_wire.specs.declared.value.Member.TheVariants.{rolls-Known, rolls-Unknown}
use Rattle.fidl_wire.proofs.laws.trees_stand_for_members.Goals as goal

pub returns-clause-known : goal.returns-clause-known
returns-clause-known c v = ap member_view (sym (rolls-Known v)) ∙ fold-roll-Member _ _ _ _ _ _ _ _ _ _ (Member-F.Known v)

pub returns-clause-unknown : goal.returns-clause-unknown
returns-clause-unknown c inline bytes handles =
    ap member_view (sym (rolls-Unknown inline bytes handles)) ∙ fold-roll-Member _ _ _ _ _ _ _ _ _ _ (Member-F.Unknown inline bytes handles)
