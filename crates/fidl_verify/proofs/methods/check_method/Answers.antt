use Rattle.std.proofs.Common.{subst}
use Rattle.fidl_table_format.specs.Method.{HasMethodShape, HasMethodName}
use Rattle.fidl_verify.proofs.Breaking.{refused, wrong_method, wrong_method_name}
use Rattle.fidl_verify.proofs.methods.check_method.Goals as goal

pub returns-then-not-has_shape-clause-fault_is_true : goal.returns-then-not-has_shape-clause-fault_is_true
returns-then-not-has_shape-clause-fault_is_true c =
    wrong_method c.args.table.now.bytes.now c.args.table.now.header c.args.table.now.is_header c.args.table.now.whole c.args.index c.requires.within
    (subst (λ m. HasMethodShape c.args.table.now.bytes.now c.args.table.now.header m → ⊥) c.method-method.ensures (refused c.if-not-has_shape.ensures))

pub returns-then-not-is_full_name-clause-fault_is_true : goal.returns-then-not-is_full_name-clause-fault_is_true
returns-then-not-is_full_name-clause-fault_is_true c =
    wrong_method_name c.args.table.now.bytes.now c.args.table.now.header c.args.table.now.is_header c.args.table.now.whole c.args.index c.requires.within
    (subst (λ m. HasMethodName c.args.table.now.bytes.now c.args.table.now.header m → ⊥) c.method-method.ensures (refused c.if-not-is_full_name.ensures.value))
