use Rattle.std.proofs.Common.{◌≡◌, get_or, sym, subst, arith}
use Rattle.std.specs.List.{AllByRecursion}
use Rattle.std.proofs.lemmas.List.{take_all}
use Rattle.std.proofs.lemmas.Result.{err_from_is_err_and}
use Rattle.std.proofs.lemmas.Option.{get_or_from_slice_get}
use Rattle.fidl_tree.specs.declared.file.File.{File}
use Rattle.fidl_tree.specs.Views.{file_view}
use Rattle.fidl_names.specs.MemberLists.{DistinctMembers, RepeatsMember, IsRepeatedAt}
use Rattle.fidl_names.specs.Refusals.{IsTrueOfOne}
use Rattle.fidl_cycles.proofs.Lists.{all_take}
use Rattle.fidl_names.proofs.Layouts.{members_differ}
use Rattle.fidl_names.proofs.rules.all_members.Goals as goal

pub loop-file_index-preserved : goal.loop-file_index-preserved
loop-file_index-preserved c =
    let files = c.args.set.now in
    let i = c.loop-file_index.file_index in
    let f = c.file.result.now in
    let lt = c.loop-file_index-test.true in
    let long = c.count-file_index-end.ensures in
    let is : f ≡ get_or files i f = sym (get_or_from_slice_get files i f f c.file.ensures) in
    all_take files i f (omega arith) is (λ (g : File). DistinctMembers (file_view g)) c.loop-file_index.invariant c.in_ok-check_members.ensures.differ

pub returns-in_err-check_members-clause-fault_is_true : goal.returns-in_err-check_members-clause-fault_is_true
returns-in_err-check_members-clause-fault_is_true c =
    let h : IsTrueOfOne c.args.set.now (λ (f : File). IsRepeatedAt (RepeatsMember (file_view f))) c.in_err-check_members.field-0.0 =
    record { file_index = c.loop-file_index.file_index; file = c.file.result.now; file_at = c.file.ensures; says = c.in_err-check_members.ensures.fault_is_true } in
    let p = err_from_is_err_and c.from_residual.result c.from_residual.ensures.1 in
    rw (p.1, p.2) h

pub returns-clause-values : goal.returns-clause-values
returns-clause-values c =
    let over = c.loop-file_index-test.false in
    let long = c.count-file_index-end.ensures in
    members_differ c.args.set.now (subst (AllByRecursion (λ (g : File). DistinctMembers (file_view g))) (take_all c.loop-file_index.file_index c.args.set.now (omega arith)) c.loop-file_index.invariant)
