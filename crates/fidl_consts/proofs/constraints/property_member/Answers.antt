use Rattle.std.proofs.Common.{◌≡◌, List, Some, length, refl, sym, ap, subst, arith}
use Rattle.std.specs.Prelude.{slice_get}
use Rattle.std.proofs.lemmas.Option.{slice_get_read}
use Rattle.std.proofs.lemmas.Result.{err_from_is_err_and}
use borrow.Author.Tests.{ltb-true}
use Rattle.fidl_tree.specs.declared.value_member.ValueMember.{ValueMember}
use Rattle.fidl_tree.specs.declared.type_constructor.ValuesLayout.{out-ValuesLayout}
use Rattle.fidl_consts.specs.PlainValues.{seen}
use Rattle.fidl_consts.proofs.PropertyValues.{no_layout, no_member, underlying_reported, value_reported, property_offers}
use Rattle.fidl_consts.proofs.constraints.property_member.Goals as goal

pub returns-in_default-clause-none : goal.returns-in_default-clause-none
returns-in_default-clause-none c = λ _ has. no_layout c.args.scope.now.named.now c.args.of c.args.property c.args.number (c.in_default.ensures.none refl) has

pub returns-in_default-get-clause-none : goal.returns-in_default-get-clause-none
returns-in_default-get-clause-none c = λ _ has.
    let past = c.in_default-get.ensures.lookup in
    let long : length c.deref.result.now ≡ length (out-ValuesLayout c.in-Some.found.layout.now).members.items = ap length c.deref.ensures.value in
    no_member c.args.scope.now.named.now c.args.of c.args.property c.args.number c.in-Some.found.file.now c.in-Some.found.layout.now c.in-Some.ensures.found (λ within. omega (arith, past.3, within, long)) has

pub returns-in_err-kind-clause-fault_is_true : goal.returns-in_err-kind-clause-fault_is_true
returns-in_err-kind-clause-fault_is_true c =
    let h = underlying_reported c.args.scope.now.named.now c.args.of c.args.property c.args.number c.in-Some.found.file.now c.in-Some.found.layout.now c.in-Some.ensures.found _ c.underlying_path.ensures
    c.in_err-kind.field-0.0 c.in_err-kind.ensures.fault_is_true in
    let p = err_from_is_err_and c.from_residual.result c.from_residual.ensures.1 in
    rw (p.1, p.2) h

pub returns-in_err-value-clause-fault_is_true : goal.returns-in_err-value-clause-fault_is_true
returns-in_err-value-clause-fault_is_true c =
    let members = c.deref.result.now in
    let look = c.in-Some-get.ensures.lookup in
    let found : slice_get members c.args.number ≡ Some c.in-Some-get.member.now = slice_get_read members (length members) c.args.number c.in-Some-get.member.now refl (ltb-true c.args.number (length members) (sym look.0)) look.1 in
    let there = subst (λ (l : List ValueMember). slice_get l c.args.number ≡ Some c.in-Some-get.member.now) c.deref.ensures.value found in
    let h = value_reported c.args.scope.now.named.now c.args.of c.args.property c.args.number c.in-Some.found.file.now c.in-Some.found.layout.now c.in-Some.ensures.found _ c.underlying_path.ensures
    c.in_ok-kind.kind c.in_ok-kind.ensures.ok c.in-Some-get.member.now there c.in_err-value.field-0.0 c.in_err-value.ensures.fault_is_true in
    let p = err_from_is_err_and c.from_residual-in_err-value.result c.from_residual-in_err-value.ensures.1 in
    rw (p.1, p.2) h

pub returns-clause-found : goal.returns-clause-found
returns-clause-found c =
    let members = c.deref.result.now in
    let look = c.in-Some-get.ensures.lookup in
    let found : slice_get members c.args.number ≡ Some c.in-Some-get.member.now = slice_get_read members (length members) c.args.number c.in-Some-get.member.now refl (ltb-true c.args.number (length members) (sym look.0)) look.1 in
    let there = subst (λ (l : List ValueMember). slice_get l c.args.number ≡ Some c.in-Some-get.member.now) c.deref.ensures.value found in
    property_offers c.args.scope.now.named.now c.args.of c.args.property c.args.number c.in-Some.found.file.now c.in-Some.found.layout.now c.in-Some.ensures.found _ c.underlying_path.ensures
    c.in_ok-kind.kind c.in_ok-kind.ensures.ok c.in-Some-get.member.now there (seen c.in_ok-value.value) c.in_ok-value.ensures.ok
