use Rattle.std.proofs.Common.{◌++◌}
use Rattle.std.specs.Prelude.{codes, decimal}
use Rattle.fidl_text.specs.Words.{ordinal_word}
use Rattle.fidl_text.proofs.Written.{appends_then, writes_then, writes_as, more_left, front_as, failed_then, failed_as}
use Rattle.fidl_dump.specs.Lines.{front_text, value_line, value_text}
use Rattle.fidl_dump.proofs.Texts.{value_is}
use Rattle.fidl_dump.proofs.line.write_value.Goals as goal

pub returns-in_err-write_named-clause-text : goal.returns-in_err-write_named-clause-text
returns-in_err-write_named-clause-text g c v e =
    let h = c.args.header.now in
    let n = c.args.name.now in
    let t = value_text c.args.decoded.now.table c.args.decoded.now.entry v in
    failed_as _ _ _ c.from_residual.result c.from_residual.ensures.0
    (front_as _ _ _ (value_line h n t) (value_is (decimal h.txid) (ordinal_word h.ordinal) n t)
    (more_left _ _ ((front_text h ++ codes " " ++ n) ++ codes " ") (t ++ codes "\n") (more_left _ _ (front_text h ++ codes " " ++ n) (codes " ") c.in_err-write_named.ensures.text)))

pub returns-in_err-write_all-clause-text : goal.returns-in_err-write_all-clause-text
returns-in_err-write_all-clause-text g c v e =
    let h = c.args.header.now in
    let n = c.args.name.now in
    let t = value_text c.args.decoded.now.table c.args.decoded.now.entry v in
    failed_as _ _ _ c.from_residual-in_err-write_all.result c.from_residual-in_err-write_all.ensures.0
    (front_as _ _ _ (value_line h n t) (value_is (decimal h.txid) (ordinal_word h.ordinal) n t)
    (more_left _ _ ((front_text h ++ codes " " ++ n) ++ codes " ") (t ++ codes "\n") (failed_then _ _ _ (front_text h ++ codes " " ++ n) (codes " ") c.in_ok-write_named.ensures.text c.in_err-write_all.ensures.bytes)))

pub returns-clause-text : goal.returns-clause-text
returns-clause-text g c v e =
    let h = c.args.header.now in
    let n = c.args.name.now in
    let t = value_text c.args.decoded.now.table c.args.decoded.now.entry v in
    writes_as _ _ _ (value_line h n t) c.write_message.result (value_is (decimal h.txid) (ordinal_word h.ordinal) n t)
    (writes_then _ _ _ ((front_text h ++ codes " " ++ n) ++ codes " ") (t ++ codes "\n") c.write_message.result
    (appends_then _ _ _ (front_text h ++ codes " " ++ n) (codes " ") c.in_ok-write_named.ensures.text c.in_ok-write_all.ensures.bytes)
    (c.write_message.ensures.text v e))
