use Rattle.std.proofs.Common.{◌≡◌, subst, sym, arith, inl, inr}
use Rattle.fidl_table_format.specs.Protocol.{IsMethodOf}
use Rattle.fidl_table_format.specs.Method.{IsMethod, ordinal_at}
use Rattle.fidl_verify.proofs.Breaking.{wrong_method_order}
use Rattle.fidl_verify.proofs.Stated.{or_last}
use Rattle.fidl_verify.proofs.Ordinals.{ordinal_rises, never_rises}
use Rattle.fidl_verify.proofs.methods.check_methods_of.Goals as goal

pub returns-then-ordinal-last-clause-fault_is_true : goal.returns-then-ordinal-last-clause-fault_is_true
returns-then-ordinal-last-clause-fault_is_true c =
    let bytes = c.args.table.now.bytes.now in
    let h = c.args.table.now.header in
    let own : IsMethodOf bytes h c.args.protocol c.loop-index.index = record { from = omega (arith, c.loop-index.auto.index, c.requires.first); to = omega (arith, c.loop-index-test.true, c.requires.end) } in
    wrong_method_order bytes h c.args.table.now.is_header c.args.table.now.whole c.loop-index.index (omega (arith, c.loop-index-test.true, c.requires.within))
    (never_rises bytes h c.loop-index.index c.args.first c.args.protocol c.loop-index.last c.in_ok-ordinal.ordinal c.requires.first own c.loop-index.auto.index c.loop-index.invariant.before c.in_ok-ordinal.ensures.ordinal
    c.requires.protocol c.loop-index.invariant.start c.in_ok-ordinal.ensures.shape.some c.if-ordinal-last.true)

pub loop-index-preserved : goal.loop-index-preserved
loop-index-preserved c =
    let bytes = c.args.table.now.bytes.now in
    let h = c.args.table.now.header in
    let own : IsMethodOf bytes h c.args.protocol c.loop-index.index = record { from = omega (arith, c.loop-index.auto.index, c.requires.first); to = omega (arith, c.loop-index-test.true, c.requires.end) } in
    let here : IsMethod bytes h c.loop-index.index = record {
      shape = c.in_ok-ordinal.ensures.shape;
      name = c.in_ok-ordinal.ensures.name;
      rises = ordinal_rises bytes h c.loop-index.index c.args.first c.args.protocol c.loop-index.last c.in_ok-ordinal.ordinal c.requires.first own c.loop-index.auto.index c.loop-index.invariant.before c.in_ok-ordinal.ensures.ordinal c.if-ordinal-last.false;
    } in
    record {
      rules = λ k from p. elim (or_last k c.loop-index.index (omega (arith, p))) [ inl less ↦ c.loop-index.invariant.rules k from less | inr same ↦ subst (IsMethod bytes h) (sym same) here ];
      start = λ e. absurd (omega (arith, e, c.loop-index.auto.index));
      seen = c.in_ok-ordinal.ensures.seen;
      before = λ k from e. let same : k ≡ c.loop-index.index = omega (arith, e) in subst (λ i. c.in_ok-ordinal.ordinal ≡ ordinal_at bytes h i) (sym same) c.in_ok-ordinal.ensures.ordinal;
    }
