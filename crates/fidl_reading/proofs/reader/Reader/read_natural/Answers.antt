use Rattle.fidl_reading.proofs.Handing.{handed_so}
use Rattle.fidl_reading.proofs.Leaves.{no_natural}
use Rattle.fidl_reading.proofs.reader.Reader.read_natural.Goals as goal

pub returns-in_err-number-clause-fault_is_true : goal.returns-in_err-number-clause-fault_is_true
returns-in_err-number-clause-fault_is_true c = handed_so c.from_residual.result c.in_err-number.field-0.0 _ c.from_residual.ensures.1 (no_natural _ c.in_err-number.ensures.fault_is_true)
