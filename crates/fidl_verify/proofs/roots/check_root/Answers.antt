use Rattle.std.proofs.Common.{◌<◌, subst, arith}
use Rattle.fidl_table_format.specs.declared.record.Root.{Root}
use Rattle.fidl_table_format.specs.Root.{HasRootName}
use Rattle.fidl_verify.proofs.Breaking.{refused, wrong_root, wrong_root_name, wrong_order}
use Rattle.fidl_verify.proofs.Rising.{up_to}
use Rattle.fidl_verify.proofs.roots.check_root.Goals as goal

pub returns-then-root-table-clause-fault_is_true : goal.returns-then-root-table-clause-fault_is_true
returns-then-root-table-clause-fault_is_true c =
    let none : c.root.result.entry < c.args.table.now.header.entries → ⊥ = λ p. omega arith in
    wrong_root c.args.table.now.bytes.now c.args.table.now.header c.args.table.now.is_header c.args.table.now.whole c.args.index c.requires.within (subst (λ (r : Root). r.entry < c.args.table.now.header.entries → ⊥) c.root.ensures none)

pub returns-then-not-has_root_name-clause-fault_is_true : goal.returns-then-not-has_root_name-clause-fault_is_true
returns-then-not-has_root_name-clause-fault_is_true c =
    wrong_root_name c.args.table.now.bytes.now c.args.table.now.header c.args.table.now.is_header c.args.table.now.whole c.args.index c.requires.within (refused c.if-not-has_root_name.ensures.value)

pub rises-requires-clause-named : goal.rises-requires-clause-named
rises-requires-clause-named c =
    up_to (λ k. HasRootName c.args.table.now.bytes.now c.args.table.now.header k) c.args.index (λ k p. (c.requires.before k p).name) (c.has_root_name.ensures.value.0 c.if-not-has_root_name.false)

pub returns-then-not-rises-clause-fault_is_true : goal.returns-then-not-rises-clause-fault_is_true
returns-then-not-rises-clause-fault_is_true c =
    wrong_order c.args.table.now.bytes.now c.args.table.now.header c.args.table.now.is_header c.args.table.now.whole c.args.index c.requires.within (refused c.if-not-rises.ensures)
