use Rattle.fidl_bench.proofs.Roots.{root_of_file, lacks_of_file}
use Rattle.fidl_bench.proofs.Writing.{ok_of_root, err_of_root}
use Rattle.fidl_bench.proofs.decoding.decode_root.Goals as goal

pub returns-in_default-root-clause-err : goal.returns-in_default-root-clause-err
returns-in_default-root-clause-err c = lacks_of_file c.args.table.now c.in-Ok.table c.args.root.now c.in-Ok.ensures.value c.in-Ok.ensures.ok c.in_default-root.ensures.none

pub returns-in_default-new-clause-err : goal.returns-in_default-new-clause-err
returns-in_default-new-clause-err c =
    (c.in-Some.entry, root_of_file c.args.table.now c.in-Ok.table c.args.root.now c.in-Some.entry c.in-Ok.ensures.value c.in-Ok.ensures.ok c.in-Some.ensures.found)

pub returns-clause-ok : goal.returns-clause-ok
returns-clause-ok c =
    let root = root_of_file c.args.table.now c.in-Ok.table c.args.root.now c.in-Some.entry c.in-Ok.ensures.value c.in-Ok.ensures.ok c.in-Some.ensures.found in
    ok_of_root c.decode_again.result c.args.table.now c.in-Ok.table c.args.root.now c.args.message.now c.in-Some.entry c.in-Ok.ensures.value root c.decode_again.ensures.ok

pub returns-clause-err : goal.returns-clause-err
returns-clause-err c =
    let root = root_of_file c.args.table.now c.in-Ok.table c.args.root.now c.in-Some.entry c.in-Ok.ensures.value c.in-Ok.ensures.ok c.in-Some.ensures.found in
    err_of_root c.decode_again.result c.args.table.now c.in-Ok.table c.args.root.now c.args.message.now c.in-Some.entry c.in-Ok.ensures.value root c.decode_again.ensures.err
