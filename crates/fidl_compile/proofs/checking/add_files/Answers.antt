use Rattle.std.proofs.Common.{List, subst, length}
use Rattle.std.proofs.lemmas.Result.{err_from_is_err_and}
use Rattle.fidl_tree.specs.declared.file.File.{File}
use Rattle.fidl_named.specs.Names.{all_declared}
use Rattle.fidl_names.specs.Refusals.{IsTrueOfAdding}
use Rattle.fidl_compile.proofs.Refused.{adding_refused}
use Rattle.fidl_compile.proofs.checking.add_files.Goals as goal

pub returns-in_err-add-clause-fault_is_true : goal.returns-in_err-add-clause-fault_is_true
returns-in_err-add-clause-fault_is_true c =
    let files = c.args.files.now in
    let fault = c.in_err-add.field-0.0 in
    let says = subst (λ (set : List File). IsTrueOfAdding (all_declared set) c.file-item.result (length set) fault) c.loop-file.invariant.0 c.in_err-add.ensures.fault_is_true in
    let p = err_from_is_err_and c.from_residual.result c.from_residual.ensures.1 in
    rw (p.1, p.2) (adding_refused files c.loop-file.file-index _ fault c.loop-file-test.true c.file-item.is c.loop-file.invariant.1 says)
