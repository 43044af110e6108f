use Rattle.fidl_reading.proofs.Handing.{refused}
use Rattle.fidl_reading.proofs.Narrowing.{nothing, nothing_more}
use Rattle.fidl_reading.proofs.RawParts.{after_side, after_bytes}
use Rattle.fidl_reading.proofs.reader.Reader.read_unknown.Goals as goal

pub returns-in_err-bytes-clause-fault_is_true : goal.returns-in_err-bytes-clause-fault_is_true
returns-in_err-bytes-clause-fault_is_true c =
    refused c.from_residual-in_err-bytes.result c.in_err-bytes.field-0.0 _ _ c.from_residual-in_err-bytes.ensures.1 c.in_err-bytes.ensures.fault_is_true
    (λ h. nothing _ _ _ (after_side _ _ _ _ c.in_ok-words.ensures.ok c.in_ok-inline.ensures.ok) (λ v. h v.bytes))

pub returns-in_err-handles-clause-fault_is_true : goal.returns-in_err-handles-clause-fault_is_true
returns-in_err-handles-clause-fault_is_true c =
    refused c.from_residual-in_err-handles.result c.in_err-handles.field-0.0 _ _ c.from_residual-in_err-handles.ensures.1 c.in_err-handles.ensures.fault_is_true
    (λ h. nothing_more _ _ (after_bytes _ _ _ _ _ _ c.in_ok-words.ensures.ok c.in_ok-inline.ensures.ok c.in_ok-bytes.ensures.ok) (λ v. h v.handles))
