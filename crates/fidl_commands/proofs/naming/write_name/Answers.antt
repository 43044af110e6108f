use Rattle.std.specs.Prelude.{codes}
use Rattle.fidl_text.proofs.Written.{writes_then, more_left, failed_as}
use Rattle.fidl_commands.proofs.naming.write_name.Goals as goal

pub returns-in_err-write_all-clause-text : goal.returns-in_err-write_all-clause-text
returns-in_err-write_all-clause-text g c = failed_as _ _ _ c.from_residual.result c.from_residual.ensures.0
    (more_left _ _ c.args.name.now (codes "\n") c.in_err-write_all.ensures.bytes)

pub returns-clause-text : goal.returns-clause-text
returns-clause-text g c = writes_then _ _ _ c.args.name.now (codes "\n") c.write_all-2.result c.in_ok-write_all.ensures.bytes c.write_all-2.ensures.bytes
