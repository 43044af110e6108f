use Rattle.std.specs.Prelude.{codes, decimal}
use Rattle.fidl_text.specs.Words.{ordinal_word}
use Rattle.fidl_text.proofs.Written.{writes_then, writes_as, more_left, front_as, failed_as}
use Rattle.fidl_dump.specs.Lines.{front_text, unknown_line}
use Rattle.fidl_dump.proofs.Texts.{unknown_is}
use Rattle.fidl_dump.proofs.line.write_unknown.Goals as goal

pub returns-in_err-write_front-clause-text : goal.returns-in_err-write_front-clause-text
returns-in_err-write_front-clause-text g c =
    let h = c.args.header.now in
    failed_as _ _ _ c.from_residual.result c.from_residual.ensures.0
    (front_as _ _ _ (unknown_line h) (unknown_is (decimal h.txid) (ordinal_word h.ordinal)) (more_left _ _ (front_text h) (codes " unknown\n") c.in_err-write_front.ensures.text))

pub returns-clause-text : goal.returns-clause-text
returns-clause-text g c =
    let h = c.args.header.now in
    writes_as _ _ _ (unknown_line h) c.end_line.result (unknown_is (decimal h.txid) (ordinal_word h.ordinal))
    (writes_then _ _ _ (front_text h) (codes " unknown\n") c.end_line.result c.in_ok-write_front.ensures.text c.end_line.ensures.text)
