use Rattle.std.proofs.Common.{◌∙◌, inl, inr, refl, sym, true≢false}
use Rattle.fidl_composition.proofs.protocols.push_protocol.Goals as goal

pub returns-then-not-is_protocol : goal.returns-then-not-is_protocol
returns-then-not-is_protocol c = inr ((λ h. true≢false (sym (c.is_protocol.ensures.1 h) ∙ c.if-not-is_protocol.true)), refl)

pub returns : goal.returns
returns c = inl (c.is_protocol.ensures.0 c.if-not-is_protocol.false, c.in_ok-push.ensures.items)
