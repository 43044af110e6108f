-- The members of bits and enums (docs/language.md, "Grammar").
use Rattle.std.specs.Prelude.{List, ◌++◌}
use Rattle.fidl_span.specs.declared.words.WordKind.TheVariants as kind
use Rattle.fidl_tree.specs.Leaf.{Leaf, symbol, name}
use Rattle.fidl_tree.specs.Value.{value_leaves}
use Rattle.fidl_tree.specs.Attribute.{attributes_leaves}
use Rattle.fidl_tree.specs.declared.value_member.ValueMember.{ValueMember}

-- value_member = attributes ident "=" value ";"
abbrev pub value_member_leaves : ValueMember → List Leaf
value_member_leaves m =
    attributes_leaves m.attributes.items ++ name m.name ++ symbol kind.Equals m.equals
    ++ value_leaves m.value
    ++ symbol kind.Semicolon m.semicolon
