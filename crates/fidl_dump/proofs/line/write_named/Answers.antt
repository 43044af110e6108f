use Rattle.std.proofs.Common.{◌++◌}
use Rattle.std.specs.Prelude.{codes}
use Rattle.fidl_text.proofs.Written.{appends_then, writes_then, more_left, failed_then, failed_as}
use Rattle.fidl_dump.specs.Lines.{front_text}
use Rattle.fidl_dump.proofs.line.write_named.Goals as goal

pub returns-in_err-write_front-clause-text : goal.returns-in_err-write_front-clause-text
returns-in_err-write_front-clause-text g c =
    let front = front_text c.args.header.now in
    failed_as _ _ _ c.from_residual.result c.from_residual.ensures.0
    (more_left _ _ (front ++ codes " ") c.args.name.now (more_left _ _ front (codes " ") c.in_err-write_front.ensures.text))

pub returns-in_err-write_all-clause-text : goal.returns-in_err-write_all-clause-text
returns-in_err-write_all-clause-text g c =
    let front = front_text c.args.header.now in
    failed_as _ _ _ c.from_residual-in_err-write_all.result c.from_residual-in_err-write_all.ensures.0
    (more_left _ _ (front ++ codes " ") c.args.name.now (failed_then _ _ _ front (codes " ") c.in_ok-write_front.ensures.text c.in_err-write_all.ensures.bytes))

pub returns-clause-text : goal.returns-clause-text
returns-clause-text g c =
    let front = front_text c.args.header.now in
    writes_then _ _ _ (front ++ codes " ") c.args.name.now c.write_all-2.result
    (appends_then _ _ _ front (codes " ") c.in_ok-write_front.ensures.text c.in_ok-write_all.ensures.bytes)
    c.write_all-2.ensures.bytes
