use Rattle.std.proofs.Common.{◌≡◌, refl, subst}
use Rattle.std.specs.Prelude.{Result, Ok, IfOk}
use Rattle.fidl_command_line.specs.CommandLine.{IsCommandOf}
use Rattle.fidl_command_line.proofs.Commands.{if_ok, joined}
use Rattle.fidl_command_line.proofs.command_line.added.Goals as goal

-- what holds of a result's value, at that value
at_value : {T E : Type 0} (P : T → Type 0) (r : Result T E) (x : T) → r ≡ Ok x → IfOk r P → P x
at_value P r x e h = subst (λ r. IfOk r P) e h

pub returns : goal.returns
returns c = λ shape is.
    let one = at_value (IsCommandOf shape) _ _ c.in_ok-command.was is in
    if_ok _ _ c.subcommand.result (λ r h. joined _ _ _ _ shape h one refl) c.subcommand.ensures
