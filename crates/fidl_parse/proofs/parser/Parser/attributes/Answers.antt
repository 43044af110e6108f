use Rattle.std.proofs.Common.{rules, refl}
use Rattle.std.proofs.lemmas.Bool.{false≢true}
use Rattle.fidl_span.specs.declared.words.WordKind.TheVariants as kind
use Rattle.fidl_parse.proofs.Joins.{reads_push, reads_none}
use Rattle.fidl_parse.proofs.Rows.{list_more, list_done}
use Rattle.fidl_tree.specs.Attribute.{attribute_leaves}
use Rattle.fidl_parse.specs.FollowSets.{extends_attribute, extends_attributes}
use Rattle.fidl_parse.proofs.Ahead.{not_begins}
use Rattle.fidl_parse.proofs.Follow.{not_row, attribute_of_attributes}
use Rattle.fidl_parse.proofs.Attributes.{attribute_begins}
use Rattle.fidl_parse.proofs.Stops.{stops}
use Rattle.fidl_parse.proofs.parser.Parser.attributes.Goals as goal

pub loop-attributes-init : goal.loop-attributes-init
loop-attributes-init c = record {
  reads = search (rules, reads_none);
  left = λ xs rest m a. (xs, a);
}

pub loop-attributes-preserved : goal.loop-attributes-preserved
loop-attributes-preserved c = record {
  reads = rw c.in_ok-push.ensures.items (reads_push attribute_leaves _ _ _ _ _ _ c.loop-attributes.invariant.reads c.in_ok-attribute.ensures.reads);
  left = λ xs rest m a.
      let h = c.loop-attributes.invariant.left xs rest m a in
      let more = list_more attribute_leaves kind.At _ _ h.0 rest (not_begins extends_attributes kind.At rest refl m) (c.is_next.ensures.next.0 c.loop-attributes-test.true) h.1 in
      (more.1, c.in_ok-attribute.ensures.complete more.0 _ (not_row extends_attribute attribute_leaves kind.At refl attribute_begins more.1 rest (attribute_of_attributes rest m)) more.2);
}

pub returns-in_err-attribute-clause-complete : goal.returns-in_err-attribute-clause-complete
returns-in_err-attribute-clause-complete c = λ xs rest m a.
    let h = c.loop-attributes.invariant.left xs rest m a in
    let more = list_more attribute_leaves kind.At _ _ h.0 rest (not_begins extends_attributes kind.At rest refl m) (c.is_next.ensures.next.0 c.loop-attributes-test.true) h.1 in
    let stop = c.in_err-attribute.ensures.complete more.0 _ (not_row extends_attribute attribute_leaves kind.At refl attribute_begins more.1 rest (attribute_of_attributes rest m)) more.2 in
    stops _ _ _ _ c.from_residual.ensures (λ x g. g) stop

pub returns-clause-reads : goal.returns-clause-reads
returns-clause-reads c = c.loop-attributes.invariant.reads

pub returns-clause-complete : goal.returns-clause-complete
returns-clause-complete c = λ xs rest m a.
    let h = c.loop-attributes.invariant.left xs rest m a in
    list_done attribute_leaves kind.At _ _ h.0 rest attribute_begins (λ i. false≢true (c.loop-attributes-test.ensures.next.1 i)) h.1
