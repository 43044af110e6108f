use Rattle.std.proofs.Common.{◌∙◌, Bool, inl, inr, refl, sym, true≢false}
use Rattle.std.specs.Prelude.{◌↔◌, IsTrue}
use Rattle.std.proofs.lemmas.Result.{IfOk-weaker}
use Rattle.fidl_constraints.specs.BehindViews.{use_view}
use Rattle.fidl_resource_rules.specs.Kinds.{IsUint32, RightsSuit}
use Rattle.fidl_resource_rules.proofs.properties.rights_suit.Goals as goal

pub returns-then-branch : goal.returns-then-branch
returns-then-branch c = ((λ _. inl (c.in_ok-is_bits_of_uint32.ensures.0 c.if-branch.true)), λ _. refl)

pub returns : goal.returns
returns c =
    let fs = c.args.sources.now.named.now in
    let t = use_view c.args.of in
    IfOk-weaker c.is_uint32.result (λ (b : Bool). IsTrue b ↔ IsUint32 fs c.args.file_index t) (λ (b : Bool). IsTrue b ↔ RightsSuit fs c.args.file_index t)
    (λ b h. (
      (λ yes. inr (h.0 yes)),
      λ r. elim r [
        | inl bits ↦ absurd (true≢false (sym (c.in_ok-is_bits_of_uint32.ensures.1 bits) ∙ c.if-branch.false))
        | inr own ↦ h.1 own
      ],
    ))
    c.is_uint32.ensures
