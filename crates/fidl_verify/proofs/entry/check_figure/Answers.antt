use Rattle.std.proofs.Common.{subst}
use Rattle.fidl_table_format.specs.Entry.{HasSize, HasNest}
use Rattle.fidl_verify.proofs.Breaking.{refused, wrong_offsets, wrong_size, wrong_nest}
use Rattle.fidl_verify.proofs.entry.check_figure.Goals as goal

pub returns-in_default-clause-fault_is_true : goal.returns-in_default-clause-fault_is_true
returns-in_default-clause-fault_is_true c =
    wrong_offsets c.args.table.now.bytes.now c.args.table.now.header c.args.table.now.is_header c.args.table.now.whole c.args.index c.requires.within c.args.entry.now c.requires.entry c.in_default.ensures.none

pub returns-then-not-has_size-clause-fault_is_true : goal.returns-then-not-has_size-clause-fault_is_true
returns-then-not-has_size-clause-fault_is_true c =
    wrong_size c.args.table.now.bytes.now c.args.table.now.header c.args.table.now.is_header c.args.table.now.whole c.args.index c.requires.within c.args.entry.now c.requires.entry (subst (λ f. HasSize f c.args.entry.now → ⊥) c.in-Some.ensures.figure (refused c.if-not-has_size.ensures))

pub returns-then-not-has_nest-clause-fault_is_true : goal.returns-then-not-has_nest-clause-fault_is_true
returns-then-not-has_nest-clause-fault_is_true c =
    wrong_nest c.args.table.now.bytes.now c.args.table.now.header c.args.table.now.is_header c.args.table.now.whole c.args.index c.requires.within c.args.entry.now c.requires.entry (subst (λ f. HasNest f c.args.entry.now → ⊥) c.in-Some.ensures.figure (refused c.if-not-has_nest.ensures))
