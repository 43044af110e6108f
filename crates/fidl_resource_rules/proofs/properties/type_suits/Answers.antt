use Rattle.std.proofs.Common.{◌∙◌, Bool, sym, true≢false}
use Rattle.std.specs.Prelude.{◌↔◌, IsTrue}
use Rattle.std.proofs.lemmas.Result.{IfOk-weaker}
use Rattle.fidl_tree.specs.Syntax.{enum_kind}
use Rattle.fidl_constraints.specs.BehindViews.{use_view}
use Rattle.fidl_resource_rules.specs.Kinds.{AreOfUint32, RightsSuit, TypeSuits}
use Rattle.fidl_resource_rules.proofs.Names.{of_subtype_name, of_rights_name, of_other_name}
use Rattle.fidl_resource_rules.proofs.properties.type_suits.Goals as goal

pub returns-then-is_subtype : goal.returns-then-is_subtype
returns-then-is_subtype c =
    let fs = c.args.sources.now.named.now in
    let i = c.args.file_index in
    let t = use_view c.args.of in
    let is = c.is_subtype.ensures.0 c.if-is_subtype.true in
    IfOk-weaker c.subtype_suits.result (λ (b : Bool). IsTrue b ↔ AreOfUint32 fs i enum_kind t) (λ (b : Bool). IsTrue b ↔ TypeSuits fs i c.args.name.now t)
    (λ b h. ((λ yes. TypeSuits.of_subtype is (h.0 yes)), λ s. h.1 (of_subtype_name fs i c.args.name.now t is s)))
    c.subtype_suits.ensures

pub returns-then-is_rights : goal.returns-then-is_rights
returns-then-is_rights c =
    let fs = c.args.sources.now.named.now in
    let i = c.args.file_index in
    let t = use_view c.args.of in
    let is = c.is_rights.ensures.0 c.if-is_rights.true in
    IfOk-weaker c.rights_suit.result (λ (b : Bool). IsTrue b ↔ RightsSuit fs i t) (λ (b : Bool). IsTrue b ↔ TypeSuits fs i c.args.name.now t)
    (λ b h. ((λ yes. TypeSuits.of_rights is (h.0 yes)), λ s. h.1 (of_rights_name fs i c.args.name.now t is s)))
    c.rights_suit.ensures

pub returns : goal.returns
returns c = (
  (λ yes. absurd (true≢false (sym yes))),
  λ s. absurd (of_other_name c.args.sources.now.named.now c.args.file_index c.args.name.now (use_view c.args.of)
      (λ is. true≢false (sym (c.is_subtype.ensures.1 is) ∙ c.if-is_subtype.false)) (λ is. true≢false (sym (c.is_rights.ensures.1 is) ∙ c.if-is_rights.false)) s),
)
