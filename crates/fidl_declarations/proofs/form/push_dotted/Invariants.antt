use Rattle.std.proofs.Common.{◌≡◌, ◌++◌, drop}
use Rattle.std.specs.Prelude.{flat_map}
use Rattle.fidl_declarations.specs.Forms.{dotted_step}
use Rattle.fidl_declarations.proofs.form.push_dotted.Given as goal

-- the text so far and that of the steps to come are all
abbrev pub invariant-loop-step : goal.invariant-loop-step
invariant-loop-step l =
    l.text.items ++ flat_map (dotted_step l.file.src.now) (drop l.step-index l.steps)
    ≡ l.fn.text.items ++ flat_map (dotted_step l.file.src.now) l.steps
