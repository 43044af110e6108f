use Rattle.std.proofs.Common.{◌≡◌, get_or, sym, arith}
use Rattle.std.proofs.lemmas.Option.{get_or_from_slice_get}
use Rattle.std.proofs.lemmas.Result.{err_from_is_err_and}
use Rattle.fidl_names.specs.Refusals.{IsTrueOfOne}
use Rattle.fidl_names.specs.Resolved.{NamesHold, NameFails}
use Rattle.fidl_cycles.proofs.Lists.{all_take}
use Rattle.fidl_named.proofs.Judging.{reports_more}
use Rattle.fidl_names.proofs.place_names.check_names.Goals as goal

pub returns-in_err-check_file-clause-fault_is_true : goal.returns-in_err-check_file-clause-fault_is_true
returns-in_err-check_file-clause-fault_is_true c =
    let files = c.args.named.now in
    let number = c.loop-file_index.file_index in
    let f = c.file.result.now in
    let h = reports_more (NameFails files f number) (IsTrueOfOne files (NameFails files)) (λ fault k. record { file_index = number; file = f; file_at = c.file.ensures; says = k }) c.in_err-check_file.field-0.0 c.in_err-check_file.ensures.fault_is_true in
    let p = err_from_is_err_and c.from_residual.result c.from_residual.ensures.1 in
    rw (p.1, p.2) h

pub loop-file_index-preserved : goal.loop-file_index-preserved
loop-file_index-preserved c =
    let files = c.args.named.now in
    let i = c.loop-file_index.file_index in
    let f = c.file.result.now in
    let lt = c.loop-file_index-test.true in
    let long = c.count-file_index-end.ensures in
    let is : f ≡ get_or files i f = sym (get_or_from_slice_get files i f f c.file.ensures) in
    all_take files i f (omega arith) is (NamesHold files) c.loop-file_index.invariant c.in_ok-check_file.ensures.ok
