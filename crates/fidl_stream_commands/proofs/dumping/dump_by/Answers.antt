use Rattle.std.proofs.Common.{◌-◌, inr}
use Rattle.fidl_text.proofs.Written.{front_whole}
use Rattle.fidl_stream_commands.proofs.dumping.dump_by.Goals as goal

pub returns-in-Err-Frame-clause-front : goal.returns-in-Err-Frame-clause-front
returns-in-Err-Frame-clause-front g c q =
    let before = c.in-Err-Frame.ensures.before c.in-Err-Frame.number c.in-Err-Frame.fault cc in
    inr (c.in-Err-Frame.number - 1, (before.0, before.1, front_whole _ _ before.0 before.2))
