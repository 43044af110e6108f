use Rattle.fidl_decode_values.proofs.decoder.Decoder.read_bits.Goals as goal

pub returns-then-not-is_strict-clause-fault_is_true : goal.returns-then-not-is_strict-clause-fault_is_true
returns-then-not-is_strict-clause-fault_is_true c = tt

pub returns-then-number-entry-clause-ok : goal.returns-then-number-entry-clause-ok
returns-then-number-entry-clause-ok c = tt

pub returns-clause-fault_is_true : goal.returns-clause-fault_is_true
returns-clause-fault_is_true c = tt
