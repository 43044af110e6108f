use Rattle.std.proofs.Common.{◌≤◌, subst, arith}
use Rattle.fidl_table_format.specs.Protocol.{IsOpenness, HasProtocolName}
use Rattle.fidl_verify.proofs.Breaking.{refused, wrong_openness, wrong_protocol_name, wrong_protocol_order, wrong_methods}
use Rattle.fidl_verify.proofs.Rising.{up_to}
use Rattle.fidl_verify.proofs.Ordinals.{past_section}
use Rattle.fidl_verify.proofs.protocols.check_protocol.Goals as goal

pub returns-then-protocol-gt2-clause-fault_is_true : goal.returns-then-protocol-gt2-clause-fault_is_true
returns-then-protocol-gt2-clause-fault_is_true c =
    let none : c.protocol-protocol.result.openness ≤ 2 → ⊥ = λ p. omega (arith, p, c.if-protocol-gt2.true) in
    wrong_openness c.args.table.now.bytes.now c.args.table.now.header c.args.table.now.is_header c.args.table.now.whole c.args.index c.requires.within (subst (λ p. IsOpenness p → ⊥) c.protocol-protocol.ensures none)

pub returns-then-not-has_protocol_name-clause-fault_is_true : goal.returns-then-not-has_protocol_name-clause-fault_is_true
returns-then-not-has_protocol_name-clause-fault_is_true c =
    wrong_protocol_name c.args.table.now.bytes.now c.args.table.now.header c.args.table.now.is_header c.args.table.now.whole c.args.index c.requires.within (refused c.if-not-has_protocol_name.ensures.value)

pub rises-requires-clause-named : goal.rises-requires-clause-named
rises-requires-clause-named c =
    up_to (λ k. HasProtocolName c.args.table.now.bytes.now c.args.table.now.header k) c.args.index (λ k p. (c.requires.rules k p).name) (c.has_protocol_name.ensures.value.0 c.if-not-has_protocol_name.false)

pub returns-then-not-rises-clause-fault_is_true : goal.returns-then-not-rises-clause-fault_is_true
returns-then-not-rises-clause-fault_is_true c =
    wrong_protocol_order c.args.table.now.bytes.now c.args.table.now.header c.args.table.now.is_header c.args.table.now.whole c.args.index c.requires.within (refused c.if-not-rises.ensures)

pub returns-then-protocol-table-clause-fault_is_true : goal.returns-then-protocol-table-clause-fault_is_true
returns-then-protocol-table-clause-fault_is_true c =
    wrong_methods c.args.table.now.bytes.now c.args.table.now.header c.args.table.now.is_header c.args.table.now.whole c.args.index c.requires.within
    (past_section c.args.table.now.bytes.now c.args.table.now.header c.args.index c.args.before c.protocol-protocol.result c.protocol-protocol.ensures c.requires.before (omega (arith, c.if-protocol-table.true, c.requires.room)))
