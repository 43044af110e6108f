use Rattle.fidl_spelling.specs.Spells.{AHandle}
use Rattle.fidl_reading.specs.Cuts.{texts_of}
use Rattle.fidl_reading.proofs.Handing.{handed_so}
use Rattle.fidl_reading.proofs.Narrowing.{all, the_word, some_word, nothing}
use Rattle.fidl_reading.proofs.reader.Reader.read_handle.Goals as goal

pub returns-in_err-id-clause-fault_is_true : goal.returns-in_err-id-clause-fault_is_true
returns-in_err-id-clause-fault_is_true c =
    let n = the_word "handle" _ _ _ (all AHandle (texts_of c.args.words.now)) c.in_ok-words.ensures.ok in
    let m = the_word "(" _ _ _ n c.in_ok-words-2.ensures.ok in
    handed_so c.from_residual-in_err-id.result c.in_err-id.field-0.0 _ c.from_residual-in_err-id.ensures.1
    (nothing _ _ _ m (λ h. c.in_err-id.ensures.fault_is_true h.id))

pub returns-in_err-object_type-clause-fault_is_true : goal.returns-in_err-object_type-clause-fault_is_true
returns-in_err-object_type-clause-fault_is_true c =
    let n = the_word "handle" _ _ _ (all AHandle (texts_of c.args.words.now)) c.in_ok-words.ensures.ok in
    let m = the_word "(" _ _ _ n c.in_ok-words-2.ensures.ok in
    let o = some_word _ _ _ _ _ m c.in_ok-id.ensures.ok.2 in
    let q = the_word "," _ _ _ o c.in_ok-words-3.ensures.ok in
    handed_so c.from_residual-in_err-object_type.result c.in_err-object_type.field-0.0 _ c.from_residual-in_err-object_type.ensures.1
    (nothing _ _ _ q (λ h. c.in_err-object_type.ensures.fault_is_true h.object_type))

pub returns-in_err-rights-clause-fault_is_true : goal.returns-in_err-rights-clause-fault_is_true
returns-in_err-rights-clause-fault_is_true c =
    let n = the_word "handle" _ _ _ (all AHandle (texts_of c.args.words.now)) c.in_ok-words.ensures.ok in
    let m = the_word "(" _ _ _ n c.in_ok-words-2.ensures.ok in
    let o = some_word _ _ _ _ _ m c.in_ok-id.ensures.ok.2 in
    let q = the_word "," _ _ _ o c.in_ok-words-3.ensures.ok in
    let s = some_word _ _ _ _ _ q c.in_ok-object_type.ensures.ok.2 in
    let t = the_word "," _ _ _ s c.in_ok-words-4.ensures.ok in
    handed_so c.from_residual-in_err-rights.result c.in_err-rights.field-0.0 _ c.from_residual-in_err-rights.ensures.1
    (nothing _ _ _ t (λ h. c.in_err-rights.ensures.fault_is_true h.rights))
