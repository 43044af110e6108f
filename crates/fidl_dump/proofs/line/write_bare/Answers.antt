use Rattle.std.proofs.Common.{◌++◌}
use Rattle.std.specs.Prelude.{codes, decimal}
use Rattle.fidl_text.specs.Words.{ordinal_word}
use Rattle.fidl_text.proofs.Written.{writes_then, writes_as, more_left, front_as, failed_as}
use Rattle.fidl_dump.specs.Lines.{front_text, bare_line}
use Rattle.fidl_dump.proofs.Texts.{bare_is}
use Rattle.fidl_dump.proofs.line.write_bare.Goals as goal

pub returns-in_err-write_named-clause-text : goal.returns-in_err-write_named-clause-text
returns-in_err-write_named-clause-text g c =
    let h = c.args.header.now in
    let n = c.args.name.now in
    failed_as _ _ _ c.from_residual.result c.from_residual.ensures.0
    (front_as _ _ _ (bare_line h n) (bare_is (decimal h.txid) (ordinal_word h.ordinal) n) (more_left _ _ (front_text h ++ codes " " ++ n) (codes "\n") c.in_err-write_named.ensures.text))

pub returns-clause-text : goal.returns-clause-text
returns-clause-text g c =
    let h = c.args.header.now in
    let n = c.args.name.now in
    writes_as _ _ _ (bare_line h n) c.end_line.result (bare_is (decimal h.txid) (ordinal_word h.ordinal) n)
    (writes_then _ _ _ (front_text h ++ codes " " ++ n) (codes "\n") c.end_line.result c.in_ok-write_named.ensures.text c.end_line.ensures.text)
