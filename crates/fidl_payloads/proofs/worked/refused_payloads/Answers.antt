use Rattle.std.proofs.Common.{◌≡◌, ◌∙◌, ℕ, Option, refl, ap, sym, subst, arith}
use Rattle.fidl_tree.specs.Syntax.{TypeUse}
use Rattle.fidl_consts.specs.Refusals.{type_span}
use Rattle.fidl_payloads.specs.Kinds.{IsPayload}
use Rattle.fidl_payloads.specs.Members.{part_types, TypesHold, TypesBreak}
use Rattle.fidl_payloads.proofs.Owed.{alone_breaks}
use Rattle.fidl_payloads.proofs.Small.{only_one}
use Rattle.fidl_payloads.proofs.worked.refused_payloads.Goals as goal

pub returns-clause-holds : goal.returns-clause-holds
returns-clause-holds c = λ files n i m t h. ((i, h), tt)

pub returns-clause-response : goal.returns-clause-response
returns-clause-response c = λ files n m t r is wrong. subst (λ (o : Option TypeUse). TypesBreak files n (part_types o) (type_span t)) (sym is) (alone_breaks files n t (type_span t) refl wrong)

pub returns-clause-breaks : goal.returns-clause-breaks
returns-clause-breaks c = λ files n m t r is wrong h.
    let its = subst (λ (o : Option TypeUse). TypesHold files n (part_types o)) is h in
    wrong its.0.0 its.0.1

pub returns-clause-elsewhere : goal.returns-clause-elsewhere
returns-clause-elsewhere c = λ files n e s t differ h. differ (h.place ∙ ap type_span (sym (only_one t h.one h.among)))

pub returns-clause-kept : goal.returns-clause-kept
returns-clause-kept c = λ files n i e s t is h. h.wrong i (subst (λ (u : TypeUse). IsPayload files n u i) (only_one t h.one h.among) is)

pub returns-clause-other_file : goal.returns-clause-other_file
returns-clause-other_file c = λ files m place is h.
    let same : ◌≡◌ {A = ℕ} 1 0 = sym is ∙ h.0 in
    omega (arith, same)
