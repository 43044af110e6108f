use Rattle.std.proofs.Common.{ℕ, List, ◌∷◌, ◌++◌, sym, subst}
use Rattle.fidl_command_line.specs.Handles.{IsDecimal}
use Rattle.fidl_command_line.proofs.HandleText.{when_none, cut_some, cut_none}
use Rattle.fidl_command_line.proofs.handle.read_handle.Goals as goal

pub returns-in_err-id-clause-none : goal.returns-in_err-id-clause-none
returns-in_err-id-clause-none c =
    when_none c.from_residual.result (λ h x. cut_none c.args.text.now x.id_text (x.type_text ++ 58 ∷ x.rights_text) h.id c.split_once.result c.split_once.ensures.cases c.in_err-id.was x.whole x.id)

pub returns-in_err-object_type-clause-none : goal.returns-in_err-object_type-clause-none
returns-in_err-object_type-clause-none c =
    when_none c.from_residual-in_err-object_type.result (λ h x.
    let first = cut_some c.args.text.now x.id_text (x.type_text ++ 58 ∷ x.rights_text) h.id c.split_once.result _ c.split_once.ensures.cases c.in_ok-id.was x.whole x.id in
    cut_none c.in_ok-id.rest.now x.type_text x.rights_text h.object_type c.split_once-2.result c.split_once-2.ensures.cases c.in_err-object_type.was first.1 x.object_type)

pub returns-in_err-read_number-clause-none : goal.returns-in_err-read_number-clause-none
returns-in_err-read_number-clause-none c =
    when_none c.from_residual-in_err-read_number.result (λ h x.
    let first = cut_some c.args.text.now x.id_text (x.type_text ++ 58 ∷ x.rights_text) h.id c.split_once.result _ c.split_once.ensures.cases c.in_ok-id.was x.whole x.id in
    c.in_err-read_number.ensures.none h.id (subst (λ (l : List ℕ). IsDecimal l h.id) (sym first.0) x.id))

pub returns-in_err-read_number-2-clause-none : goal.returns-in_err-read_number-2-clause-none
returns-in_err-read_number-2-clause-none c =
    when_none c.from_residual-in_err-read_number-2.result (λ h x.
    let first = cut_some c.args.text.now x.id_text (x.type_text ++ 58 ∷ x.rights_text) h.id c.split_once.result _ c.split_once.ensures.cases c.in_ok-id.was x.whole x.id in
    let second = cut_some c.in_ok-id.rest.now x.type_text x.rights_text h.object_type c.split_once-2.result _ c.split_once-2.ensures.cases c.in_ok-object_type.was first.1 x.object_type in
    c.in_err-read_number-2.ensures.none h.object_type (subst (λ (l : List ℕ). IsDecimal l h.object_type) (sym second.0) x.object_type))

pub returns-in_err-read_number-3-clause-none : goal.returns-in_err-read_number-3-clause-none
returns-in_err-read_number-3-clause-none c =
    when_none c.from_residual-in_err-read_number-3.result (λ h x.
    let first = cut_some c.args.text.now x.id_text (x.type_text ++ 58 ∷ x.rights_text) h.id c.split_once.result _ c.split_once.ensures.cases c.in_ok-id.was x.whole x.id in
    let second = cut_some c.in_ok-id.rest.now x.type_text x.rights_text h.object_type c.split_once-2.result _ c.split_once-2.ensures.cases c.in_ok-object_type.was first.1 x.object_type in
    c.in_err-read_number-3.ensures.none h.rights (subst (λ (l : List ℕ). IsDecimal l h.rights) (sym second.1) x.rights))
