use Rattle.std.proofs.Common.{◌≡◌, ◌∙◌, inl, inr, sym}
use Rattle.fidl_payloads.specs.declared.payload.Payload.TheVariants as payload
use Rattle.fidl_protocol.proofs.worked.what_methods_carry.Goals as goal

pub returns-clause-request : goal.returns-clause-request
returns-clause-request c = λ m is. inl is

pub returns-clause-response : goal.returns-clause-response
returns-clause-response c = λ m is. inr is

pub returns-clause-other : goal.returns-clause-other
returns-clause-other c = λ m one other h. elim h [
  | inl is ↦ let both : payload.«Type» 3 ≡ payload.«Type» 4 = sym one ∙ is in absurd (cc)
  | inr is ↦ let both : payload.Missing ≡ payload.«Type» 4 = sym other ∙ is in absurd (cc)
]

pub returns-clause-nothing : goal.returns-clause-nothing
returns-clause-nothing c = λ m one other h. elim h [
  | inl is ↦ let both : payload.Empty ≡ payload.«Type» 3 = sym one ∙ is in absurd (cc)
  | inr is ↦ let both : payload.Missing ≡ payload.«Type» 3 = sym other ∙ is in absurd (cc)
]
