use Rattle.std.proofs.Common.{codes}
use Rattle.clap.specs.Simple.{new_app}
use Rattle.fidl_command_line.proofs.Commands.{if_ok, grown, IsApp}
use Rattle.fidl_command_line.proofs.command_line.explain_command.Goals as goal

pub returns : goal.returns
returns c =
    let base : IsApp (new_app (codes "explain")) c.described.result = (c.described.ensures.app, c.described.ensures.local) in
    if_ok _ _ c.arg.result (λ r h. let all = grown _ _ _ _ _ base h c.fault.ensures.rule c.fault.ensures.local in record { app = all.0; local = all.1 }) c.arg.ensures
