use Rattle.std.proofs.Common.{arith}
use Rattle.fidl_serve.proofs.Outputs.{output_begun}
use Rattle.fidl_serve.proofs.worked.four_bytes_are_a_bad_frame.Goals as goal

pub returns : goal.returns
returns c = λ p s. output_begun p s _ (record { some = omega arith; short = λ h. absurd (omega (arith, h)) })
