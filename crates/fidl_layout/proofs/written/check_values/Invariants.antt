use Rattle.std.proofs.Common.{take, ◌≤◌}
use Rattle.std.specs.List.{AllByRecursion}
use Rattle.fidl_limits.specs.declared.limits.TheConstants.{MAX_LAYOUT_MEMBERS}
use Rattle.fidl_declarations.specs.Forms.{Form}
use Rattle.fidl_declarations.specs.FormViews.{forms_view}
use Rattle.fidl_layout.specs.Written.{written_values}
use Rattle.fidl_layout.proofs.written.check_values.Given as goal

-- the members of the forms so far are few enough
abbrev pub invariant-loop-number : goal.invariant-loop-number
invariant-loop-number l = AllByRecursion (λ (form : Form). written_values form.kind ≤ MAX_LAYOUT_MEMBERS) (take l.number (forms_view l.forms))
