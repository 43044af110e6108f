use Rattle.std.proofs.Common.{refl, sym, true≢false, ◌∙◌}
use Rattle.fidl_tree.specs.Views.{attribute_view}
use Rattle.fidl_member_rules.specs.Profile.{IsOtherTransport}
use Rattle.fidl_declarations.proofs.Items.{among_seen, all_seen}
use Rattle.fidl_member_rules.proofs.profile.other_transport.Goals as goal

pub returns-then-branch-clause-found : goal.returns-then-branch-clause-found
returns-then-branch-clause-found c = record {
  attribute = attribute_view c.attribute-item.result;
  among = among_seen attribute_view c.args.attributes.now c.loop-attribute.attribute-index c.attribute-item.result c.loop-attribute-test.true c.attribute-item.is;
  such = c.in_ok-is_other_transport.ensures.0 c.if-branch.true;
  place = refl;
}

pub loop-attribute-preserved : goal.loop-attribute-preserved
loop-attribute-preserved c =
    all_seen attribute_view c.args.attributes.now c.loop-attribute.attribute-index c.attribute-item.result c.loop-attribute-test.true c.attribute-item.is (λ a. IsOtherTransport c.args.file.now.src.now a → ⊥)
    c.loop-attribute.invariant (λ h. true≢false (sym (c.in_ok-is_other_transport.ensures.1 h) ∙ c.if-branch.false))
