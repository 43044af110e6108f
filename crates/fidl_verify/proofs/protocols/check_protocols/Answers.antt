use Rattle.std.proofs.Common.{◌≤◌, ◌≡◌, ap, sym, subst, ◌∙◌, below_more, add-one, arith}
use Rattle.fidl_table_format.specs.Protocol.{IsProtocol, methods_before}
use Rattle.fidl_verify.proofs.Breaking.{methods_left}
use Rattle.fidl_verify.proofs.protocols.check_protocols.Goals as goal

pub loop-index-preserved : goal.loop-index-preserved
loop-index-preserved c = record {
  rules = below_more (λ k. IsProtocol c.args.table.now.bytes.now c.args.table.now.header k) _ c.loop-index.invariant.rules c.in_ok-methods.ensures.ok;
  before = c.in_ok-methods.ensures.methods ∙ ap (methods_before c.args.table.now.bytes.now c.args.table.now.header) (sym (add-one c.loop-index.index));
  room = subst (λ n. n ≤ c.args.table.now.header.methods) (sym c.in_ok-methods.ensures.methods) c.in_ok-methods.ensures.ok.methods;
  seen = c.in_ok-methods.ensures.seen;
}

pub returns-then-methods-table-clause-fault_is_true : goal.returns-then-methods-table-clause-fault_is_true
returns-then-methods-table-clause-fault_is_true c =
    let last : c.loop-index.index ≡ c.args.table.now.header.protocols = omega (arith, c.loop-index-test.false, c.loop-index.auto.index-end) in
    let all = c.loop-index.invariant.before ∙ ap (methods_before c.args.table.now.bytes.now c.args.table.now.header) last in
    methods_left c.args.table.now.bytes.now c.args.table.now.header c.args.table.now.is_header c.args.table.now.whole (omega (arith, all, c.if-methods-table.true))
