use Rattle.std.proofs.Common.{ℕ, List, subst, ◌∙◌}
use Rattle.fidl_wire.specs.Term as ty
use Rattle.fidl_table_format.specs.Terms.{declarations_of}
use Rattle.fidl_bench.proofs.Roots.{root_of_file, lacks_of_file, why_of_root}
use Rattle.fidl_bench.proofs.Writing.{text_of_root}
use Rattle.fidl_bench.specs.Failures.{IsWhyUnread}
use Rattle.fidl_bench.specs.Texts.{contents_of, IsText}
use Rattle.fidl_bench.proofs.dumping.dump_root.Goals as goal

pub returns-in_default-root-clause-err : goal.returns-in_default-root-clause-err
returns-in_default-root-clause-err c = lacks_of_file c.args.table.now c.in-Ok.table c.args.root.now c.in-Ok.ensures.value c.in-Ok.ensures.ok c.in_default-root.ensures.none

pub returns-in_default-new-clause-err : goal.returns-in_default-new-clause-err
returns-in_default-new-clause-err c =
    (c.in-Some.entry, root_of_file c.args.table.now c.in-Ok.table c.args.root.now c.in-Some.entry c.in-Ok.ensures.value c.in-Ok.ensures.ok c.in-Some.ensures.found)

pub returns-in_default-new-2-clause-err : goal.returns-in_default-new-2-clause-err
returns-in_default-new-2-clause-err c =
    (c.in-Some.entry, root_of_file c.args.table.now c.in-Ok.table c.args.root.now c.in-Some.entry c.in-Ok.ensures.value c.in-Ok.ensures.ok c.in-Some.ensures.found)

pub returns-in-Ok-dump_again-clause-ok : goal.returns-in-Ok-dump_again-clause-ok
returns-in-Ok-dump_again-clause-ok c =
    let root = root_of_file c.args.table.now c.in-Ok.table c.args.root.now c.in-Some.entry c.in-Ok.ensures.value c.in-Ok.ensures.ok c.in-Some.ensures.found in
    let same = c.deref_mut.ensures.value ∙ c.in-Ok-new.ensures in
    let text = contents_of c.dump_again.new.room in
    let here = subst (λ (b : List ℕ). IsText (declarations_of c.in-Ok.table) (ty.named c.in-Some.entry) b text) same c.in-Ok-dump_again.ensures.ok in
    text_of_root c.args.table.now c.in-Ok.table c.args.root.now c.args.message.now text c.in-Some.entry c.in-Ok.ensures.value root here

pub returns-clause-err : goal.returns-clause-err
returns-clause-err c =
    let root = root_of_file c.args.table.now c.in-Ok.table c.args.root.now c.in-Some.entry c.in-Ok.ensures.value c.in-Ok.ensures.ok c.in-Some.ensures.found in
    let same = c.deref_mut.ensures.value ∙ c.in-Ok-new.ensures in
    let why = subst (λ (b : List ℕ). IsWhyUnread (declarations_of c.in-Ok.table) (ty.named c.in-Some.entry) b c.in-Err.failure) same c.in-Err.ensures.err in
    why_of_root c.args.table.now c.in-Ok.table c.args.root.now c.args.message.now c.in-Some.entry c.in-Err.failure c.in-Ok.ensures.value root why
