use Rattle.fidl_verify.proofs.Whole.{refutes}
use Rattle.fidl_verify.proofs.laws.well_formed_tables_have_no_fault.Goals as goal

pub returns : goal.returns
returns c = refutes
