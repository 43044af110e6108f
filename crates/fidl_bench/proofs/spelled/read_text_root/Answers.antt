use Rattle.fidl_bench.proofs.Roots.{root_of_file, lacks_of_file}
use Rattle.fidl_bench.proofs.Spelling.{spelled_of_root, none_of_root}
use Rattle.fidl_bench.proofs.spelled.read_text_root.Goals as goal

pub returns-in_default-root-clause-err : goal.returns-in_default-root-clause-err
returns-in_default-root-clause-err c = lacks_of_file c.args.table.now c.in-Ok.table c.args.root.now c.in-Ok.ensures.value c.in-Ok.ensures.ok c.in_default-root.ensures.none

pub returns-in-Ok-read_again-clause-ok : goal.returns-in-Ok-read_again-clause-ok
returns-in-Ok-read_again-clause-ok c =
    let root = root_of_file c.args.table.now c.in-Ok.table c.args.root.now c.in-Some.entry c.in-Ok.ensures.value c.in-Ok.ensures.ok c.in-Some.ensures.found in
    spelled_of_root c.args.table.now c.in-Ok.table c.args.root.now c.args.text.now c.in-Some.entry c.in-Ok.ensures.value root c.in-Ok-read_again.ensures.ok

pub returns-in-Err-clause-err : goal.returns-in-Err-clause-err
returns-in-Err-clause-err c =
    let root = root_of_file c.args.table.now c.in-Ok.table c.args.root.now c.in-Some.entry c.in-Ok.ensures.value c.in-Ok.ensures.ok c.in-Some.ensures.found in
    none_of_root c.args.table.now c.in-Ok.table c.args.root.now c.args.text.now c.in-Some.entry c.in-Err.failure c.in-Ok.ensures.value root c.in-Err.ensures.err
