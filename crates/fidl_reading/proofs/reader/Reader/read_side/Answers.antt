use Rattle.fidl_reading.specs.Cuts.{texts_of}
use Rattle.fidl_reading.proofs.Handing.{handed_so}
use Rattle.fidl_reading.proofs.RawParts.{no_side}
use Rattle.fidl_reading.proofs.reader.Reader.read_side.Goals as goal

pub returns-in_err-rest-2-clause-fault_is_true : goal.returns-in_err-rest-2-clause-fault_is_true
returns-in_err-rest-2-clause-fault_is_true c =
    handed_so c.from_residual-in_err-rest-2.result c.in_err-rest-2.field-0.0 _ c.from_residual-in_err-rest-2.ensures.1
    (no_side c.begins.result (texts_of c.args.words.now) c.begins.ensures c.if-begins.false c.in_err-rest-2.ensures.fault_is_true)
