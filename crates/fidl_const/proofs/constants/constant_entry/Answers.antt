use Rattle.std.proofs.Common.{subst}
use Rattle.std.proofs.lemmas.Result.{err_from_is_err_and}
use Rattle.fidl_named.specs.declared.meaning.Meaning.TheVariants as meaning
use Rattle.fidl_consts.specs.PlainValues.{seen}
use Rattle.fidl_consts.specs.Types.{TypeIs}
use Rattle.fidl_consts.specs.Values.{Offers, constant}
use Rattle.fidl_const.proofs.Reports.{value_reported, text_reported}
use Rattle.fidl_const.proofs.constants.constant_entry.Goals as goal

pub returns-in_err-value-clause-fault_is_true : goal.returns-in_err-value-clause-fault_is_true
returns-in_err-value-clause-fault_is_true c =
    let h = value_reported c.args.scope.now.named.now c.args.id c.args.found.file.now c.args.found.constant.now c.in-Some.own c.in_ok-written.written c.in-Some.is c.in_ok-written.ensures
    c.in_err-value.field-0.0 c.in_err-value.ensures.fault_is_true in
    let p = err_from_is_err_and c.from_residual-in_err-value.result c.from_residual-in_err-value.ensures.1 in
    rw (p.1, p.2) h

pub returns-in_err-check_text-clause-fault_is_true : goal.returns-in_err-check_text-clause-fault_is_true
returns-in_err-check_text-clause-fault_is_true c =
    let fs = c.args.scope.now.named.now in
    let f = c.args.found.file.now in
    let d = c.args.found.constant.now in
    let type_is = subst (TypeIs fs f d.constructor) c.in-Some.is c.in_ok-written.ensures in
    let offers : Offers fs (meaning.Declared c.args.id) c.in-Some.own (seen c.in_ok-value.value) = constant c.args.id f d c.in-Some.own (seen c.in_ok-value.value) c.requires.at type_is c.in_ok-value.ensures.ok in
    let h = text_reported fs c.args.id f d c.in-Some.own (seen c.in_ok-value.value) offers (c.in_ok-is_string_type.ensures.0 c.if-branch.true) c.in_err-check_text.field-0.0 c.in_err-check_text.ensures.fault_is_true in
    let p = err_from_is_err_and c.from_residual-in_err-check_text.result c.from_residual-in_err-check_text.ensures.1 in
    rw (p.1, p.2) h

pub returns-clause-offers : goal.returns-clause-offers
returns-clause-offers c =
    let type_is = subst (TypeIs c.args.scope.now.named.now c.args.found.file.now c.args.found.constant.now.constructor) c.in-Some.is c.in_ok-written.ensures in
    constant c.args.id c.args.found.file.now c.args.found.constant.now c.in-Some.own (seen c.in_ok-value.value) c.requires.at type_is c.in_ok-value.ensures.ok
