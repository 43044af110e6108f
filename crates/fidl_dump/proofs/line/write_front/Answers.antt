use Rattle.std.proofs.Common.{◌++◌}
use Rattle.std.specs.Prelude.{codes, decimal}
use Rattle.fidl_text.specs.Words.{ordinal_word}
use Rattle.fidl_text.proofs.Written.{appends_then, writes_then, writes_as, more_left, failed_then, failed_as}
use Rattle.fidl_dump.proofs.line.write_front.Goals as goal

pub returns-in_err-write_decimal-clause-text : goal.returns-in_err-write_decimal-clause-text
returns-in_err-write_decimal-clause-text g c =
    let h = c.args.header.now in
    failed_as _ _ _ c.from_residual.result c.from_residual.ensures.0
    (more_left _ _ (decimal h.txid ++ codes " ") (ordinal_word h.ordinal) (more_left _ _ (decimal h.txid) (codes " ") c.in_err-write_decimal.ensures.text))

pub returns-in_err-write_all-clause-text : goal.returns-in_err-write_all-clause-text
returns-in_err-write_all-clause-text g c =
    let h = c.args.header.now in
    failed_as _ _ _ c.from_residual-in_err-write_all.result c.from_residual-in_err-write_all.ensures.0
    (more_left _ _ (decimal h.txid ++ codes " ") (ordinal_word h.ordinal) (failed_then _ _ _ (decimal h.txid) (codes " ") c.in_ok-write_decimal.ensures.text c.in_err-write_all.ensures.bytes))

pub returns-clause-text : goal.returns-clause-text
returns-clause-text g c =
    let h = c.args.header.now in
    writes_then _ _ _ (decimal h.txid ++ codes " ") (ordinal_word h.ordinal) c.write_all-2.result
    (appends_then _ _ _ (decimal h.txid) (codes " ") c.in_ok-write_decimal.ensures.text c.in_ok-write_all.ensures.bytes)
    (writes_as _ _ _ (ordinal_word h.ordinal) c.write_all-2.result c.ordinal_digits.ensures c.write_all-2.ensures.bytes)
