use Rattle.std.proofs.Common.{◌∙◌, ap, sym}
use Rattle.fidl_tree.specs.Views.{body_view}
use Rattle.fidl_constraints.specs.BehindViews.{head_view}
use Rattle.fidl_type_rules.proofs.boxes.is_struct_head.Goals as goal

pub returns-in-Layout-clause-yes : goal.returns-in-Layout-clause-yes
returns-in-Layout-clause-yes c = λ yes. (body_view c.in-Layout.body.now, ap head_view c.in-Layout.is, sym c.is_struct.ensures ∙ yes)
