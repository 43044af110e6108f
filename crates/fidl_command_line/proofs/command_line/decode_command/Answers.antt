use Rattle.std.proofs.Common.{codes}
use Rattle.clap.specs.Simple.{new_app}
use Rattle.fidl_command_line.proofs.Commands.{if_ok, grown, IsApp}
use Rattle.fidl_command_line.proofs.command_line.decode_command.Goals as goal

pub returns : goal.returns
returns c =
    let base : IsApp (new_app (codes "decode")) c.described.result = (c.described.ensures.app, c.described.ensures.local) in
    let handles = grown _ _ _ _ _ base c.in_ok-arg.ensures c.handle.ensures.rule c.handle.ensures.local in
    let raw = grown _ _ _ _ _ handles c.in_ok-arg-2.ensures c.flag.ensures.rule c.flag.ensures.local in
    let table = grown _ _ _ _ _ raw c.in_ok-arg-3.ensures c.required.ensures.rule c.required.ensures.local in
    let root = grown _ _ _ _ _ table c.in_ok-arg-4.ensures c.required-2.ensures.rule c.required-2.ensures.local in
    if_ok _ _ c.arg-5.result (λ r h. let all = grown _ _ _ _ _ root h c.required-3.ensures.rule c.required-3.ensures.local in record { app = all.0; local = all.1 }) c.arg-5.ensures
