use Rattle.std.proofs.lemmas.Result.{err_from_is_err_and}
use Rattle.fidl_consts.specs.PlainValues.{seen}
use Rattle.fidl_const.proofs.Reports.{underlying_reported, member_reported, member_offers}
use Rattle.fidl_const.proofs.constants.member_entry.Goals as goal

pub returns-in_err-kind-clause-fault_is_true : goal.returns-in_err-kind-clause-fault_is_true
returns-in_err-kind-clause-fault_is_true c =
    let h = underlying_reported c.args.scope.now.named.now c.args.id c.args.found.file.now c.args.found.layout.now c.requires.layout _ c.underlying_path.ensures
    c.in_err-kind.field-0.0 c.in_err-kind.ensures.fault_is_true in
    let p = err_from_is_err_and c.from_residual.result c.from_residual.ensures.1 in
    rw (p.1, p.2) h

pub returns-in_err-value-clause-fault_is_true : goal.returns-in_err-value-clause-fault_is_true
returns-in_err-value-clause-fault_is_true c =
    let h = member_reported c.args.scope.now.named.now c.args.id c.args.found.file.now c.args.found.layout.now c.requires.layout _ c.underlying_path.ensures c.in_ok-kind.kind c.in_ok-kind.ensures.ok
    c.args.number c.args.found.member.now c.requires.member c.in_err-value.field-0.0 c.in_err-value.ensures.fault_is_true in
    let p = err_from_is_err_and c.from_residual-in_err-value.result c.from_residual-in_err-value.ensures.1 in
    rw (p.1, p.2) h

pub returns-clause-offers : goal.returns-clause-offers
returns-clause-offers c =
    member_offers c.args.scope.now.named.now c.args.id c.args.found.file.now c.args.found.layout.now c.requires.layout _ c.underlying_path.ensures c.in_ok-kind.kind c.in_ok-kind.ensures.ok
    c.args.number c.args.found.member.now c.requires.member (seen c.in_ok-value.value) c.in_ok-value.ensures.ok
