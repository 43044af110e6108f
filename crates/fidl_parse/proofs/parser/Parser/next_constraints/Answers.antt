use Rattle.std.proofs.Common.{rules, refl}
use Rattle.std.proofs.lemmas.Bool.{false≢true}
use Rattle.fidl_span.specs.declared.words.WordKind.TheVariants as kind
use Rattle.fidl_parse.proofs.Joins.{reads_push, reads_none}
use Rattle.fidl_parse.proofs.Rows.{list_more, list_done}
use Rattle.fidl_tree.specs.Constraint.{next_constraint_leaves}
use Rattle.fidl_parse.specs.FollowSets.{extends_value}
use Rattle.fidl_parse.proofs.Ahead.{begins_not}
use Rattle.fidl_parse.proofs.Follow.{other_begins, is_comma, not_row}
use Rattle.fidl_parse.proofs.Constraints.{next_constraint_begins}
use Rattle.fidl_parse.proofs.Stops.{stops}
use Rattle.fidl_parse.proofs.parser.Parser.next_constraints.Goals as goal

pub loop-constraints-init : goal.loop-constraints-init
loop-constraints-init c = record {
  reads = search (rules, reads_none);
  left = λ xs rest m a. (xs, a);
}

pub loop-constraints-preserved : goal.loop-constraints-preserved
loop-constraints-preserved c = record {
  reads = rw c.in_ok-push.ensures.items (reads_push next_constraint_leaves _ _ _ _ _ _ c.loop-constraints.invariant.reads c.in_ok-next_constraint.ensures.reads);
  left = λ xs rest m a.
      let h = c.loop-constraints.invariant.left xs rest m a in
      let more = list_more next_constraint_leaves kind.Comma _ _ h.0 rest (other_begins is_comma kind.Comma kind.Greater rest refl refl m) (c.is_next.ensures.next.0 c.loop-constraints-test.true) h.1 in
      (more.1, c.in_ok-next_constraint.ensures.complete more.0 _ (not_row extends_value next_constraint_leaves kind.Comma refl next_constraint_begins more.1 rest (begins_not extends_value kind.Greater rest refl m)) more.2);
}

pub returns-in_err-next_constraint-clause-complete : goal.returns-in_err-next_constraint-clause-complete
returns-in_err-next_constraint-clause-complete c = λ xs rest m a.
    let h = c.loop-constraints.invariant.left xs rest m a in
    let more = list_more next_constraint_leaves kind.Comma _ _ h.0 rest (other_begins is_comma kind.Comma kind.Greater rest refl refl m) (c.is_next.ensures.next.0 c.loop-constraints-test.true) h.1 in
    let stop = c.in_err-next_constraint.ensures.complete more.0 _ (not_row extends_value next_constraint_leaves kind.Comma refl next_constraint_begins more.1 rest (begins_not extends_value kind.Greater rest refl m)) more.2 in
    stops _ _ _ _ c.from_residual.ensures (λ x g. g) stop

pub returns-clause-reads : goal.returns-clause-reads
returns-clause-reads c = c.loop-constraints.invariant.reads

pub returns-clause-complete : goal.returns-clause-complete
returns-clause-complete c = λ xs rest m a.
    let h = c.loop-constraints.invariant.left xs rest m a in
    list_done next_constraint_leaves kind.Comma _ _ h.0 rest next_constraint_begins (λ i. false≢true (c.loop-constraints-test.ensures.next.1 i)) h.1
