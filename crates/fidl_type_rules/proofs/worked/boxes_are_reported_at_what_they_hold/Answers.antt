use Rattle.std.proofs.Common.{[], false, refl}
use Rattle.fidl_tree.specs.Syntax.{layout_type, table_layout}
use Rattle.fidl_type_rules.proofs.Small.{boxes_layout}
use Rattle.fidl_type_rules.proofs.worked.boxes_are_reported_at_what_they_hold.Goals as goal

pub returns-clause-otherwise : goal.returns-clause-otherwise
returns-clause-otherwise c = λ files n role path k s ms h breaks.
    let l = table_layout false k ms in
    breaks.0.boxed (layout_type [] l []) (boxes_layout files n l path refl h)
