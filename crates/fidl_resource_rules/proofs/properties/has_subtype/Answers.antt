use Rattle.std.proofs.Common.{◌≡◌, ◌∙◌, List, ℕ, refl, sym, subst, true≢false}
use Rattle.std.specs.Prelude.{codes}
use Rattle.std.specs.List.{Contains}
use Rattle.fidl_tree.specs.Leaf.{text_at}
use Rattle.fidl_tree.specs.declared.declaration.Property.{Property}
use Rattle.fidl_named.specs.Constraints.{property_names}
use Rattle.fidl_declarations.proofs.Items.{among_seen, all_seen}
use Rattle.fidl_resource_rules.proofs.properties.has_subtype.Goals as goal

pub returns-then-is_subtype : goal.returns-then-is_subtype
returns-then-is_subtype c =
    let name = λ (p : Property). text_at c.args.file.now.src.now p.name in
    let among = among_seen name c.args.properties.now c.loop-property.property-index c.property-item.result c.loop-property-test.true c.property-item.is in
    let is : name c.property-item.result ≡ codes "subtype" = sym c.text.ensures.bytes ∙ c.is_subtype.ensures.0 c.if-is_subtype.true in
    ((λ _. subst (Contains (property_names c.args.file.now c.args.properties.now)) is among), λ _. refl)

pub loop-property-preserved : goal.loop-property-preserved
loop-property-preserved c =
    let name = λ (p : Property). text_at c.args.file.now.src.now p.name in
    all_seen name c.args.properties.now c.loop-property.property-index c.property-item.result c.loop-property-test.true c.property-item.is (λ (n : List ℕ). n ≡ codes "subtype" → ⊥) c.loop-property.invariant
    (λ is. true≢false (sym (c.is_subtype.ensures.1 (c.text.ensures.bytes ∙ is)) ∙ c.if-is_subtype.false))
