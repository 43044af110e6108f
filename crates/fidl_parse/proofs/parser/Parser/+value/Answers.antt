use Rattle.std.proofs.Common.{rules, refl}
use Rattle.std.proofs.lemmas.Bool.{false≢true}
use Rattle.fidl_span.specs.declared.words.WordKind.TheVariants as kind
use Rattle.fidl_parse.proofs.Joins.{reads_push, reads_none}
use Rattle.fidl_parse.proofs.Rows.{list_more, list_done}
use Rattle.fidl_tree.specs.Value.{or_operand_leaves}
use Rattle.fidl_tree.specs.declared.value.Value.{out-Value}
use Rattle.fidl_tree.specs.declared.value.OrOperand.{out-OrOperand}
use Rattle.fidl_parse.specs.FollowSets.{extends_value}
use Rattle.fidl_parse.proofs.Ahead.{not_begins}
use Rattle.fidl_parse.proofs.Values.{value_ahead, or_operand_ahead, or_operand_begins, or_operands_end, group_ahead, group_reads, value_reads, or_operand_reads}
use Rattle.fidl_parse.proofs.Stops.{stops}
use Rattle.fidl_parse.proofs.parser.Parser.+value.Goals as goal

pub value-returns-in_err-first-clause-complete : goal.value-returns-in_err-first-clause-complete
value-returns-in_err-first-clause-complete t c = λ x rest m a.
    let a0 = value_ahead _ _ x rest a in
    let h = c.in_err-first.ensures.complete (out-Value x).first _ (or_operands_end (out-Value x).rest.items rest m) a0 in
    stops _ _ _ _ c.from_residual.ensures (λ x g. g) h

pub value-returns-in_err-rest-clause-complete : goal.value-returns-in_err-rest-clause-complete
value-returns-in_err-rest-clause-complete t c = λ x rest m a.
    let a0 = value_ahead _ _ x rest a in
    let a1 = c.in_ok-first.ensures.complete (out-Value x).first _ (or_operands_end (out-Value x).rest.items rest m) a0 in
    let h = c.in_err-rest.ensures.complete (out-Value x).rest.items _ m a1 in
    stops _ _ _ _ c.from_residual-in_err-rest.ensures (λ x g. g) h

pub value-returns-clause-complete : goal.value-returns-clause-complete
value-returns-clause-complete t c = λ x rest m a.
    let a0 = value_ahead _ _ x rest a in
    let a1 = c.in_ok-first.ensures.complete (out-Value x).first _ (or_operands_end (out-Value x).rest.items rest m) a0 in
    c.in_ok-rest.ensures.complete (out-Value x).rest.items _ m a1

pub or_operands-loop-or_operands-init : goal.or_operands-loop-or_operands-init
or_operands-loop-or_operands-init t c = record {
  reads = search (rules, reads_none);
  left = λ xs rest m a. (xs, a);
}

pub or_operands-loop-or_operands-preserved : goal.or_operands-loop-or_operands-preserved
or_operands-loop-or_operands-preserved t c = record {
  reads = rw c.in_ok-push.ensures.items (reads_push or_operand_leaves _ _ _ _ _ _ c.loop-or_operands.invariant.reads c.in_ok-or_operand.ensures.reads);
  left = λ xs rest m a.
      let h = c.loop-or_operands.invariant.left xs rest m a in
      let more = list_more or_operand_leaves kind.Bar _ _ h.0 rest (not_begins extends_value kind.Bar rest refl m) (c.is_next.ensures.next.0 c.loop-or_operands-test.true) h.1 in
      (more.1, c.in_ok-or_operand.ensures.complete more.0 _ (or_operands_end more.1 rest m) more.2);
}

pub or_operands-returns-in_err-or_operand-clause-complete : goal.or_operands-returns-in_err-or_operand-clause-complete
or_operands-returns-in_err-or_operand-clause-complete t c = λ xs rest m a.
    let h = c.loop-or_operands.invariant.left xs rest m a in
    let more = list_more or_operand_leaves kind.Bar _ _ h.0 rest (not_begins extends_value kind.Bar rest refl m) (c.is_next.ensures.next.0 c.loop-or_operands-test.true) h.1 in
    let stop = c.in_err-or_operand.ensures.complete more.0 _ (or_operands_end more.1 rest m) more.2 in
    stops _ _ _ _ c.from_residual.ensures (λ x g. g) stop

pub or_operands-returns-clause-reads : goal.or_operands-returns-clause-reads
or_operands-returns-clause-reads t c = c.loop-or_operands.invariant.reads

pub or_operands-returns-clause-complete : goal.or_operands-returns-clause-complete
or_operands-returns-clause-complete t c = λ xs rest m a.
    let h = c.loop-or_operands.invariant.left xs rest m a in
    list_done or_operand_leaves kind.Bar _ _ h.0 rest or_operand_begins (λ i. false≢true (c.loop-or_operands-test.ensures.next.1 i)) h.1

pub or_operand-returns-in_err-bar-clause-complete : goal.or_operand-returns-in_err-bar-clause-complete
or_operand-returns-in_err-bar-clause-complete t c = λ x rest m a.
    let a0 = or_operand_ahead _ _ x rest a in
    let h = c.in_err-bar.ensures.complete (out-OrOperand x).bar _ tt a0 in
    stops _ _ _ _ c.from_residual.ensures (λ x g. g) h

pub or_operand-returns-in_err-operand-clause-complete : goal.or_operand-returns-in_err-operand-clause-complete
or_operand-returns-in_err-operand-clause-complete t c = λ x rest m a.
    let a0 = or_operand_ahead _ _ x rest a in
    let a1 = c.in_ok-bar.ensures.complete (out-OrOperand x).bar _ tt a0 in
    let h = c.in_err-operand.ensures.complete (out-OrOperand x).operand _ m a1 in
    stops _ _ _ _ c.from_residual-in_err-operand.ensures (λ x g. g) h

pub or_operand-returns-clause-complete : goal.or_operand-returns-clause-complete
or_operand-returns-clause-complete t c = λ x rest m a.
    let a0 = or_operand_ahead _ _ x rest a in
    let a1 = c.in_ok-bar.ensures.complete (out-OrOperand x).bar _ tt a0 in
    c.in_ok-operand.ensures.complete (out-OrOperand x).operand _ m a1

pub group-returns-in_err-left-clause-complete : goal.group-returns-in_err-left-clause-complete
group-returns-in_err-left-clause-complete t c = λ i x rest m a.
    let g = group_ahead _ _ x rest i a in
    let h = c.in_err-left.ensures.complete g.0 _ tt g.3 in
    stops _ _ _ _ c.from_residual.ensures (λ x g. g) h

pub group-returns-in_err-value-clause-complete : goal.group-returns-in_err-value-clause-complete
group-returns-in_err-value-clause-complete t c = λ i x rest m a.
    let g = group_ahead _ _ x rest i a in
    let a1 = c.in_ok-left.ensures.complete g.0 _ tt g.3 in
    let h = c.in_err-value.ensures.complete g.1 _ refl a1 in
    stops _ _ _ _ c.from_residual-in_err-value.ensures (λ x g. g) h

pub group-returns-in_err-right-clause-complete : goal.group-returns-in_err-right-clause-complete
group-returns-in_err-right-clause-complete t c = λ i x rest m a.
    let g = group_ahead _ _ x rest i a in
    let a1 = c.in_ok-left.ensures.complete g.0 _ tt g.3 in
    let a2 = c.in_ok-value.ensures.complete g.1 _ refl a1 in
    let h = c.in_err-right.ensures.complete g.2 _ tt a2 in
    stops _ _ _ _ c.from_residual-in_err-right.ensures (λ x g. g) h

pub group-returns-clause-complete : goal.group-returns-clause-complete
group-returns-clause-complete t c = λ i x rest m a.
    let g = group_ahead _ _ x rest i a in
    let a1 = c.in_ok-left.ensures.complete g.0 _ tt g.3 in
    let a2 = c.in_ok-value.ensures.complete g.1 _ refl a1 in
    c.in_ok-right.ensures.complete g.2 _ tt a2

pub group-returns-clause-reads : goal.group-returns-clause-reads
group-returns-clause-reads t c =
    group_reads _ _ _ _ _ c.in_ok-left.left c.in_ok-value.field-0 c.in_ok-value-2.value c.in_ok-right.right c.in_ok-value-2.ensures.ok c.in_ok-left.ensures.reads c.in_ok-value.ensures.reads c.in_ok-right.ensures.reads

pub value-returns-clause-reads : goal.value-returns-clause-reads
value-returns-clause-reads t c = value_reads _ _ _ _ c.in_ok-first.first c.in_ok-rest.rest c.in_ok-first.ensures.reads c.in_ok-rest.ensures.reads

pub or_operand-returns-clause-reads : goal.or_operand-returns-clause-reads
or_operand-returns-clause-reads t c = or_operand_reads _ _ _ _ c.in_ok-bar.bar c.in_ok-operand.operand c.in_ok-bar.ensures.reads c.in_ok-operand.ensures.reads
