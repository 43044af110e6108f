-- In each loop the words so far and those of the parts to come are all words.
use Rattle.std.proofs.Common.{◌≡◌, ◌++◌, map, drop}
use Rattle.fidl_tree.specs.Leaf.{words, joined}
use Rattle.fidl_tree.specs.TypeConstructor.{next_type_argument_leaves, member_leaves, ordinal_member_leaves}
use Rattle.fidl_tree.proofs.type_constructor.+types.Given as goal

abbrev pub invariant-push_members-loop-member : goal.invariant-push_members-loop-member
invariant-push_members-loop-member l =
    l.out.items ++ words (joined (map member_leaves (drop l.member-index l.members)))
    ≡ l.fn.out.items ++ words (joined (map member_leaves l.members))

abbrev pub invariant-push_ordinal_members-loop-member :
    goal.invariant-push_ordinal_members-loop-member
invariant-push_ordinal_members-loop-member l =
    l.out.items ++ words (joined (map ordinal_member_leaves (drop l.member-index l.members)))
    ≡ l.fn.out.items ++ words (joined (map ordinal_member_leaves l.members))

abbrev pub invariant-push_type_arguments-loop-next : goal.invariant-push_type_arguments-loop-next
invariant-push_type_arguments-loop-next l =
    l.out.items ++ words (joined (map next_type_argument_leaves (drop l.next-index l.arguments)))
    ≡ l.fn.out.items ++ words (joined (map next_type_argument_leaves l.arguments))
