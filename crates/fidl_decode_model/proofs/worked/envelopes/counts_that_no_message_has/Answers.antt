use Rattle.std.proofs.Common.{refl, arith, inl, inr, [], ◌∷◌, ◌++◌}
use Rattle.fidl_wire.specs.Encoding.{zeros}
use Rattle.fidl_decode_model.proofs.Broken.{counts_within}
use Rattle.fidl_decode_model.proofs.worked.envelopes.counts_that_no_message_has.Goals as goal

pub returns-clause-handles : goal.returns-clause-handles
returns-clause-handles c = (refl, inl (omega arith))

pub returns-clause-fewer : goal.returns-clause-fewer
returns-clause-fewer c h = counts_within (zeros 4 ++ 64 ∷ 0 ∷ 1 ∷ 0 ∷ []) 0 (omega arith) (omega arith) h.1

pub returns-clause-bytes : goal.returns-clause-bytes
returns-clause-bytes c = (refl, inr (refl, omega arith))

pub returns-clause-less : goal.returns-clause-less
returns-clause-less c h = counts_within (0 ∷ 0 ∷ 0 ∷ 1 ∷ zeros 4) 0 (omega arith) (omega arith) h.1

pub returns-clause-inline : goal.returns-clause-inline
returns-clause-inline c h = elim h.1 [ inl n ↦ omega (arith, n) | inr o ↦ omega (arith, o.0) ]
