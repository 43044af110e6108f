-- The parts of the members of bits and enums.
use Rattle.std.proofs.Common.{ℕ, List, ◌++◌, append_assoc, refl}
use Rattle.fidl_span.specs.declared.words.WordKind.TheVariants as kind
use Rattle.fidl_tree.specs.Leaf.{Leaf, symbol, name}
use Rattle.fidl_tree.specs.Value.{value_leaves}
use Rattle.fidl_tree.specs.Attribute.{attributes_leaves}
use Rattle.fidl_tree.specs.ValueMember.{value_member_leaves}
use Rattle.fidl_tree.specs.declared.value_member.ValueMember.{ValueMember}
use Rattle.fidl_parse.specs.declared.parser.Parser.{Parser}
use Rattle.fidl_parse.specs.Completeness.{Ahead}
use Rattle.fidl_parse.specs.FollowSets.{Begins}
use Rattle.fidl_parse.proofs.Follow.{starts_other}
use Rattle.fidl_parse.proofs.TypeAhead.{starts_member, attributes_start}

pub value_member_ahead : (p : Parser) (at : ℕ) (x : ValueMember) (rest : List Leaf) → Ahead p at (value_member_leaves x ++ rest)
    → Ahead p at (attributes_leaves x.attributes.items ++ (name x.name ++ (symbol kind.Equals x.equals ++ (value_leaves x.value ++ (symbol kind.Semicolon x.semicolon ++ rest)))))
value_member_ahead p at x rest a = simp append_assoc at a

pub value_member_apart : (y : ValueMember) (ls : List Leaf) → Begins kind.RightBrace (value_member_leaves y ++ ls) → ⊥
value_member_apart y ls b =
    let tail = name y.name ++ (symbol kind.Equals y.equals ++ (value_leaves y.value ++ (symbol kind.Semicolon y.semicolon ++ ls))) in
    starts_other starts_member kind.RightBrace _ refl (attributes_start y.attributes.items tail refl) (simp append_assoc at b)
