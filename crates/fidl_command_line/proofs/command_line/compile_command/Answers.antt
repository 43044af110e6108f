use Rattle.std.proofs.Common.{codes}
use Rattle.clap.specs.Simple.{new_app}
use Rattle.fidl_command_line.proofs.Commands.{if_ok, grown, IsApp}
use Rattle.fidl_command_line.proofs.command_line.compile_command.Goals as goal

pub returns : goal.returns
returns c =
    let base : IsApp (new_app (codes "compile")) c.described.result = (c.described.ensures.app, c.described.ensures.local) in
    let out = grown _ _ _ _ _ base c.in_ok-arg.ensures c.out.ensures.rule c.out.ensures.local in
    let snippet = grown _ _ _ _ _ out c.in_ok-arg-2.ensures c.flag.ensures.rule c.flag.ensures.local in
    if_ok _ _ c.arg-3.result (λ r h. let all = grown _ _ _ _ _ snippet h c.files.ensures.rule c.files.ensures.local in record { app = all.0; local = all.1 }) c.arg-3.ensures
