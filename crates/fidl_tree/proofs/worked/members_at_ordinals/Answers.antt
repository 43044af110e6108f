use Rattle.std.proofs.Common.{rules, ◌≡◌, false, None}
use Rattle.fidl_tree.specs.Syntax.{union_layout, no_members, next_member, ordinal_member}
use Rattle.fidl_tree.specs.Views.{body_view, attributes_view, type_view}
use Rattle.fidl_tree.specs.Examples.{word, union_with}
use Rattle.fidl_tree.specs.declared.keyword.UnionModifiers.TheVariants.{StrictnessFirst}
use Rattle.fidl_tree.specs.declared.type_constructor.LayoutBody as kind
use Rattle.fidl_tree.specs.declared.type_constructor.UnionLayout as union
use Rattle.fidl_tree.specs.declared.type_constructor.OrdinalMember as member
use Rattle.fidl_tree.specs.declared.type_constructor.OrdinalBody as body
use Rattle.fidl_tree.proofs.worked.members_at_ordinals.Goals as goal

pub returns-clause-seen : goal.returns-clause-seen
returns-clause-seen c one two name t as' ms h =
    search (rules, kind.the_lemmas, union.the_lemmas, h, member.the_lemmas, body.the_lemmas)

pub returns-clause-other : goal.returns-clause-other
returns-clause-other c two name t as' ms h e =
    let seen : body_view (union_with (StrictnessFirst None None) ms) ≡ union_layout false false word (next_member (ordinal_member (attributes_view as'.items) two name (type_view t)) no_members) =
    search (rules, kind.the_lemmas, union.the_lemmas, h, member.the_lemmas, body.the_lemmas) in
    cc
