use Rattle.std.proofs.Common.{◌∙◌, refl, sym, true≢false}
use Rattle.fidl_tree.specs.Views.{attribute_view}
use Rattle.fidl_member_rules.specs.Profile.{IsAvailable}
use Rattle.fidl_declarations.proofs.Items.{among_seen, all_seen}
use Rattle.fidl_member_rules.proofs.profile.available_attribute.Goals as goal

pub returns-then-is_available-clause-found : goal.returns-then-is_available-clause-found
returns-then-is_available-clause-found c = record {
  attribute = attribute_view c.attribute-item.result;
  among = among_seen attribute_view c.args.attributes.now c.loop-attribute.attribute-index c.attribute-item.result c.loop-attribute-test.true c.attribute-item.is;
  such = sym c.text.ensures.bytes ∙ c.is_available.ensures.0 c.if-is_available.true;
  place = refl;
}

pub loop-attribute-preserved : goal.loop-attribute-preserved
loop-attribute-preserved c =
    all_seen attribute_view c.args.attributes.now c.loop-attribute.attribute-index c.attribute-item.result c.loop-attribute-test.true c.attribute-item.is (λ a. IsAvailable c.args.file.now.src.now a → ⊥)
    c.loop-attribute.invariant (λ h. true≢false (sym (c.is_available.ensures.1 (c.text.ensures.bytes ∙ h)) ∙ c.if-is_available.false))
