use Rattle.std.proofs.Common.{◌≡◌, false, None, map}
use Rattle.fidl_tree.specs.Syntax.{values_layout, enum_kind, no_underlying}
use Rattle.fidl_tree.specs.Views.{body_view, value_member_view}
use Rattle.fidl_tree.specs.Examples.{word, enum_with}
use Rattle.fidl_tree.specs.declared.type_constructor.LayoutBody.TheFolds.{fold-roll-LayoutBody, fold-roll-ValuesLayout}
use Rattle.fidl_tree.proofs.worked.enums_by_their_modifiers.Goals as goal

pub returns-clause-strict : goal.returns-clause-strict
returns-clause-strict c ms = rw (fold-roll-LayoutBody, fold-roll-ValuesLayout)

pub returns-clause-flexible : goal.returns-clause-flexible
returns-clause-flexible c ms = rw (fold-roll-LayoutBody, fold-roll-ValuesLayout)

pub returns-clause-other : goal.returns-clause-other
returns-clause-other c ms e =
    let seen : body_view (enum_with None ms) ≡ values_layout enum_kind false word no_underlying (map value_member_view ms.items) = rw (fold-roll-LayoutBody, fold-roll-ValuesLayout) in
    cc
