use Rattle.std.proofs.Common.{◌≡◌, ◌∙◌, subst}
use Rattle.std.proofs.lemmas.Result.{err_from_is_err_and}
use Rattle.fidl_names.specs.Resolved.{IsTrueOfResolving}
use Rattle.fidl_names.proofs.Reports.{reported_names}
use Rattle.fidl_names.proofs.library_set.LibrarySet.resolve.Goals as goal

pub returns-in_err-check_names-clause-fault_is_true : goal.returns-in_err-check_names-clause-fault_is_true
returns-in_err-check_names-clause-fault_is_true c =
    let fault = c.in_err-check_names.field-0.0 in
    let files : c.new-named.result ≡ c.args.self = c.new-named.ensures ∙ c.new-set.ensures ∙ c.self.view_is in
    let h : IsTrueOfResolving c.new-named.result fault = reported_names c.new-named.result fault c.in_err-check_names.ensures.fault_is_true in
    let p = err_from_is_err_and c.from_residual-in_err-check_names.result c.from_residual-in_err-check_names.ensures.1 in
    rw (p.1, p.2) (subst (λ l. IsTrueOfResolving l fault) files h)
