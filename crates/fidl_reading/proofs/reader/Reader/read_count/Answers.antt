use Rattle.fidl_reading.specs.Cuts.{texts_of}
use Rattle.fidl_reading.specs.Reads.{ACount}
use Rattle.fidl_reading.proofs.Handing.{handed_so}
use Rattle.fidl_reading.proofs.Narrowing.{all, the_word, nothing}
use Rattle.fidl_reading.proofs.reader.Reader.read_count.Goals as goal

pub returns-in_err-count-clause-fault_is_true : goal.returns-in_err-count-clause-fault_is_true
returns-in_err-count-clause-fault_is_true c =
    let n = the_word "table" _ _ _ (all ACount (texts_of c.args.words.now)) c.in_ok-left.ensures.ok in
    let m = the_word "(" _ _ _ n c.in_ok-left-2.ensures.ok in
    handed_so c.from_residual-in_err-count.result c.in_err-count.field-0.0 _ c.from_residual-in_err-count.ensures.1
    (nothing _ _ _ m (λ k. c.in_err-count.ensures.fault_is_true k))
