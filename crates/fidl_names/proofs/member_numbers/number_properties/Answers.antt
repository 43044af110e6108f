use Rattle.std.proofs.Common.{◌∙◌}
use Rattle.fidl_tree.specs.Leaf.{text_at}
use Rattle.fidl_tree.specs.declared.declaration.Property.{Property}
use Rattle.fidl_named.specs.NameMaps.{seen}
use Rattle.fidl_named.proofs.NumbersOfNames.{numbers_step}
use Rattle.fidl_names.proofs.member_numbers.number_properties.Goals as goal

pub loop-number-preserved : goal.loop-number-preserved
loop-number-preserved c =
    numbers_step (λ (m : Property). text_at c.args.file.now.src.now m.name) c.args.properties.now c.loop-number.number c.index-properties-number.result c.loop-number-test.true c.index-properties-number.is
    c.in_ok-name.name.items (c.in_ok-name.ensures.items ∙ c.text.ensures.bytes) (seen c.loop-number.numbers.entries) (seen c.add_name.new.numbers.entries) c.in_ok-add_name.ensures c.loop-number.invariant
