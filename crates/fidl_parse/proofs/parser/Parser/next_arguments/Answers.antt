use Rattle.std.proofs.Common.{rules, refl}
use Rattle.std.proofs.lemmas.Bool.{false≢true}
use Rattle.fidl_span.specs.declared.words.WordKind.TheVariants as kind
use Rattle.fidl_parse.proofs.Joins.{reads_push, reads_none}
use Rattle.fidl_parse.proofs.Rows.{list_more, list_done}
use Rattle.fidl_tree.specs.Attribute.{next_argument_leaves}
use Rattle.fidl_parse.proofs.Follow.{other_begins, is_comma}
use Rattle.fidl_parse.proofs.Attributes.{next_argument_begins, arguments_end}
use Rattle.fidl_parse.proofs.Stops.{stops}
use Rattle.fidl_parse.proofs.parser.Parser.next_arguments.Goals as goal

pub loop-arguments-init : goal.loop-arguments-init
loop-arguments-init c = record {
  reads = search (rules, reads_none);
  left = λ xs rest m a. (xs, a);
}

pub loop-arguments-preserved : goal.loop-arguments-preserved
loop-arguments-preserved c = record {
  reads = rw c.in_ok-push.ensures.items (reads_push next_argument_leaves _ _ _ _ _ _ c.loop-arguments.invariant.reads c.in_ok-next_argument.ensures.reads);
  left = λ xs rest m a.
      let h = c.loop-arguments.invariant.left xs rest m a in
      let more = list_more next_argument_leaves kind.Comma _ _ h.0 rest (other_begins is_comma kind.Comma kind.RightParenthesis rest refl refl m) (c.is_next.ensures.next.0 c.loop-arguments-test.true) h.1 in
      (more.1, c.in_ok-next_argument.ensures.complete more.0 _ (arguments_end more.1 rest m) more.2);
}

pub returns-in_err-next_argument-clause-complete : goal.returns-in_err-next_argument-clause-complete
returns-in_err-next_argument-clause-complete c = λ xs rest m a.
    let h = c.loop-arguments.invariant.left xs rest m a in
    let more = list_more next_argument_leaves kind.Comma _ _ h.0 rest (other_begins is_comma kind.Comma kind.RightParenthesis rest refl refl m) (c.is_next.ensures.next.0 c.loop-arguments-test.true) h.1 in
    let stop = c.in_err-next_argument.ensures.complete more.0 _ (arguments_end more.1 rest m) more.2 in
    stops _ _ _ _ c.from_residual.ensures (λ x g. g) stop

pub returns-clause-reads : goal.returns-clause-reads
returns-clause-reads c = c.loop-arguments.invariant.reads

pub returns-clause-complete : goal.returns-clause-complete
returns-clause-complete c = λ xs rest m a.
    let h = c.loop-arguments.invariant.left xs rest m a in
    list_done next_argument_leaves kind.Comma _ _ h.0 rest next_argument_begins (λ i. false≢true (c.loop-arguments-test.ensures.next.1 i)) h.1
