use Rattle.std.proofs.Common.{◌≡◌, false, None}
use Rattle.fidl_tree.specs.Syntax.{union_layout, no_members}
use Rattle.fidl_tree.specs.Views.{body_view}
use Rattle.fidl_tree.specs.Examples.{word, union_with}
use Rattle.fidl_tree.specs.declared.keyword.UnionModifiers.TheVariants.{StrictnessFirst}
use Rattle.fidl_tree.specs.declared.type_constructor.LayoutBody.TheFolds.{fold-roll-LayoutBody, fold-roll-UnionLayout}
use Rattle.fidl_tree.proofs.worked.unions_by_their_modifiers.Goals as goal

pub returns-clause-first : goal.returns-clause-first
returns-clause-first c r ms h = rw (fold-roll-LayoutBody, fold-roll-UnionLayout, h)

pub returns-clause-last : goal.returns-clause-last
returns-clause-last c r ms h = rw (fold-roll-LayoutBody, fold-roll-UnionLayout, h)

pub returns-clause-other : goal.returns-clause-other
returns-clause-other c ms h e =
    let seen : body_view (union_with (StrictnessFirst None None) ms) ≡ union_layout false false word no_members = rw (fold-roll-LayoutBody, fold-roll-UnionLayout, h) in
    cc
