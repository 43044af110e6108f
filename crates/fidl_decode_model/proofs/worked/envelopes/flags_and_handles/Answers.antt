use Rattle.std.proofs.Common.{refl, arith}
use Rattle.fidl_decode_model.proofs.Numbered.{no_flags}
use Rattle.fidl_decode_model.proofs.worked.envelopes.flags_and_handles.Goals as goal

pub returns-clause-flags : goal.returns-clause-flags
returns-clause-flags c = (refl, no_flags)

pub returns-clause-missing : goal.returns-clause-missing
returns-clause-missing c = (refl, omega arith)
