use Rattle.fidl_requests.proofs.Numbered.{one_number}
use Rattle.fidl_requests.proofs.Sampled.{sound, first, third}
use Rattle.fidl_requests.specs.Samples.{protocol_of}
use Rattle.std.proofs.Common.{arith}
use Rattle.fidl_requests.proofs.worked.methods_with_a_request.Goals as goal

pub returns-clause-first : goal.returns-clause-first
returns-clause-first c = first 0

pub returns-clause-third : goal.returns-clause-third
returns-clause-third c = third 0

pub returns-clause-event : goal.returns-clause-event
returns-clause-event c = λ r. let e = r.request in cc

pub returns-clause-of_another : goal.returns-clause-of_another
returns-clause-of_another c = λ r. absurd (omega (arith, one_number (protocol_of 0) (sound 0 (omega arith)) 3 0 2 r (third 0)))
