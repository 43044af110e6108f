use Rattle.std.specs.Prelude.{Result, Ok, Err, OnOk, IfErr}
use Rattle.fidl_bench.specs.declared.failure.Failure.{Failure}
use Rattle.fidl_bench.proofs.Roots.{root_of_file, lacks_of_file, message_of_root, why_of_root}
use Rattle.fidl_bench.proofs.reading.read_root.Goals as goal

on_ok : {A E : Type 0} {P Q : Type 0} (r : Result A E) → OnOk r P → (P → Q) → OnOk r Q
on_ok (Ok a) p f = f p
on_ok (Err e) p f = tt

on_err : {A : Type 0} {P Q : Failure → Type 0} (r : Result A Failure) → IfErr r P → ((e : Failure) → P e → Q e) → IfErr r Q
on_err (Ok a) p f = tt
on_err (Err e) p f = f e p

pub returns-in_default-root-clause-err : goal.returns-in_default-root-clause-err
returns-in_default-root-clause-err c = lacks_of_file c.args.table.now c.in-Ok.table c.args.root.now c.in-Ok.ensures.value c.in-Ok.ensures.ok c.in_default-root.ensures.none

pub returns-in_default-new-clause-err : goal.returns-in_default-new-clause-err
returns-in_default-new-clause-err c =
    (c.in-Some.entry, root_of_file c.args.table.now c.in-Ok.table c.args.root.now c.in-Some.entry c.in-Ok.ensures.value c.in-Ok.ensures.ok c.in-Some.ensures.found)

pub returns-then-how-clause-ok : goal.returns-then-how-clause-ok
returns-then-how-clause-ok c =
    let root = root_of_file c.args.table.now c.in-Ok.table c.args.root.now c.in-Some.entry c.in-Ok.ensures.value c.in-Ok.ensures.ok c.in-Some.ensures.found in
    on_ok c.read_found.result c.read_found.ensures.ok (message_of_root c.args.table.now c.in-Ok.table c.args.root.now c.args.message.now c.in-Some.entry c.in-Ok.ensures.value root)

pub returns-then-how-clause-err : goal.returns-then-how-clause-err
returns-then-how-clause-err c =
    let root = root_of_file c.args.table.now c.in-Ok.table c.args.root.now c.in-Some.entry c.in-Ok.ensures.value c.in-Ok.ensures.ok c.in-Some.ensures.found in
    on_err c.read_found.result c.read_found.ensures.err (λ f. why_of_root c.args.table.now c.in-Ok.table c.args.root.now c.args.message.now c.in-Some.entry f c.in-Ok.ensures.value root)

pub returns-clause-ok : goal.returns-clause-ok
returns-clause-ok c =
    let root = root_of_file c.args.table.now c.in-Ok.table c.args.root.now c.in-Some.entry c.in-Ok.ensures.value c.in-Ok.ensures.ok c.in-Some.ensures.found in
    on_ok c.read_again.result c.read_again.ensures.ok (message_of_root c.args.table.now c.in-Ok.table c.args.root.now c.args.message.now c.in-Some.entry c.in-Ok.ensures.value root)

pub returns-clause-err : goal.returns-clause-err
returns-clause-err c =
    let root = root_of_file c.args.table.now c.in-Ok.table c.args.root.now c.in-Some.entry c.in-Ok.ensures.value c.in-Ok.ensures.ok c.in-Some.ensures.found in
    on_err c.read_again.result c.read_again.ensures.err (λ f. why_of_root c.args.table.now c.in-Ok.table c.args.root.now c.args.message.now c.in-Some.entry f c.in-Ok.ensures.value root)
