use Rattle.std.specs.Prelude.{codes, decimal}
use Rattle.fidl_text.proofs.Written.{writes_then, more_left, failed_as}
use Rattle.fidl_text.proofs.words.write_counted.Goals as goal

pub returns-in_err-write_decimal-clause-text : goal.returns-in_err-write_decimal-clause-text
returns-in_err-write_decimal-clause-text g c = failed_as _ _ _ c.from_residual.result c.from_residual.ensures.0
    (more_left _ _ (decimal c.args.number) (codes ",") c.in_err-write_decimal.ensures.text)

pub returns-clause-text : goal.returns-clause-text
returns-clause-text g c = writes_then _ _ _ (decimal c.args.number) (codes ",") c.write_all.result c.in_ok-write_decimal.ensures.text c.write_all.ensures.bytes
