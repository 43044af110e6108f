use Rattle.std.proofs.Common.{◌≡◌, ◌∙◌, ℕ, Option, refl, ap, sym, subst}
use Rattle.std.specs.Prelude.{option_map, IfSome, IsNone}
use Rattle.fidl_tree.specs.Syntax.{TypeUse}
use Rattle.fidl_tree.specs.Views.{type_view}
use Rattle.fidl_tree.specs.declared.type_constructor.TypeConstructor.{TypeConstructor}
use Rattle.fidl_constraints.specs.BehindViews.{use_view}
use Rattle.fidl_consts.specs.Refusals.{type_span}
use Rattle.fidl_payloads.specs.declared.payload.Payload.TheVariants as payload
use Rattle.fidl_payloads.specs.Kinds.{IsPayload}
use Rattle.fidl_payloads.specs.Payloads.{PartIs}
use Rattle.fidl_payloads.specs.Members.{part_types, TypesBreak}
use Rattle.fidl_payloads.proofs.Owed.{alone_breaks}
use Rattle.fidl_payloads.proofs.parts.part.Goals as goal

pub returns-in-None-clause-fault_is_true : goal.returns-in-None-clause-fault_is_true
returns-in-None-clause-fault_is_true c =
    let fs = c.args.sources.now.named.now in
    let i = c.args.file_index in
    let t = type_view c.in-Some.constructor in
    let of = c.use_of-of.result in
    let span = c.type_span.result in
    let use_is : use_view of ≡ t = c.use_of-of.ensures in
    let none = subst (λ (o : Option ℕ). IsNone o → (n : ℕ) → IsPayload fs i (use_view of) n → ⊥) c.in-None.is c.in_ok-payload_number.ensures.none refl in
    let wrong = subst (λ (u : TypeUse). (n : ℕ) → IsPayload fs i u n → ⊥) use_is none in
    let alone = alone_breaks fs i t span (c.type_span.ensures ∙ ap type_span use_is) wrong in
    (refl, subst (λ (o : Option TypeConstructor). TypesBreak fs i (part_types (option_map type_view o)) span) (sym c.in-Some.is) alone)

pub returns-in-Some-2-clause-ok : goal.returns-in-Some-2-clause-ok
returns-in-Some-2-clause-ok c =
    let fs = c.args.sources.now.named.now in
    let i = c.args.file_index in
    let of = c.use_of-of.result in
    let n = c.in-Some-2.number in
    let found = subst (λ (o : Option ℕ). IfSome o (IsPayload fs i (use_view of))) c.in-Some-2.is c.in_ok-payload_number.ensures.found in
    let its = subst (λ (u : TypeUse). IsPayload fs i u n) c.use_of-of.ensures found in
    subst (λ (o : Option TypeConstructor). PartIs fs i (option_map type_view o) (payload.«Type» n)) (sym c.in-Some.is) (n, its, refl)
