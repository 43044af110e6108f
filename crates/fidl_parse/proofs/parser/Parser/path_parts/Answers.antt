use Rattle.std.proofs.Common.{rules, refl}
use Rattle.std.proofs.lemmas.Bool.{false≢true}
use Rattle.fidl_span.specs.declared.words.WordKind.TheVariants as kind
use Rattle.fidl_parse.proofs.Joins.{reads_push, reads_none}
use Rattle.fidl_parse.proofs.Rows.{list_more, list_done}
use Rattle.fidl_tree.specs.Path.{part_leaves}
use Rattle.fidl_parse.specs.FollowSets.{extends_path}
use Rattle.fidl_parse.proofs.Ahead.{not_begins}
use Rattle.fidl_parse.proofs.PathRest.{part_begins}
use Rattle.fidl_parse.proofs.Stops.{stops}
use Rattle.fidl_parse.proofs.parser.Parser.path_parts.Goals as goal

pub loop-parts-init : goal.loop-parts-init
loop-parts-init c = record {
  reads = search (rules, reads_none);
  left = λ xs rest m a. (xs, a);
}

pub loop-parts-preserved : goal.loop-parts-preserved
loop-parts-preserved c = record {
  reads = rw c.in_ok-push.ensures.items (reads_push part_leaves _ _ _ _ _ _ c.loop-parts.invariant.reads c.in_ok-path_part.ensures.reads);
  left = λ xs rest m a.
      let h = c.loop-parts.invariant.left xs rest m a in
      let more = list_more part_leaves kind.Dot _ _ h.0 rest (not_begins extends_path kind.Dot rest refl m) (c.is_next.ensures.next.0 c.loop-parts-test.true) h.1 in
      (more.1, c.in_ok-path_part.ensures.complete more.0 _ tt more.2);
}

pub returns-in_err-path_part-clause-complete : goal.returns-in_err-path_part-clause-complete
returns-in_err-path_part-clause-complete c = λ xs rest m a.
    let h = c.loop-parts.invariant.left xs rest m a in
    let more = list_more part_leaves kind.Dot _ _ h.0 rest (not_begins extends_path kind.Dot rest refl m) (c.is_next.ensures.next.0 c.loop-parts-test.true) h.1 in
    let stop = c.in_err-path_part.ensures.complete more.0 _ tt more.2 in
    stops _ _ _ _ c.from_residual.ensures (λ x g. g) stop

pub returns-clause-reads : goal.returns-clause-reads
returns-clause-reads c = c.loop-parts.invariant.reads

pub returns-clause-complete : goal.returns-clause-complete
returns-clause-complete c = λ xs rest m a.
    let h = c.loop-parts.invariant.left xs rest m a in
    list_done part_leaves kind.Dot _ _ h.0 rest part_begins (λ i. false≢true (c.loop-parts-test.ensures.next.1 i)) h.1
