-- Each method reads at least a word before it comes to itself again.
use Rattle.std.proofs.Common.{map, ◌+◌, ◌-◌, ◌*◌, length}
use Rattle.fidl_tree.specs.Leaf.{joined}
use Rattle.fidl_tree.specs.TypeConstructor.{next_type_argument_leaves, member_leaves, ordinal_member_leaves}
use Rattle.fidl_parse.specs.Reading.{Reads}
use Rattle.fidl_parse.proofs.Rows.{Left}
use Rattle.fidl_span.specs.declared.words.WordKind.TheVariants as kind
use Rattle.fidl_parse.specs.FollowSets.{Begins}
use Rattle.fidl_parse.proofs.parser.Parser.+types.Given as goal

abbrev pub decreases-layout : goal.decreases-layout
decreases-layout l = 7 * (length l.self.now.words.now - l.at.now) + 4

abbrev pub decreases-layout_body : goal.decreases-layout_body
decreases-layout_body l = 7 * (length l.self.now.words.now - l.at.now) + 3

abbrev pub decreases-member : goal.decreases-member
decreases-member l = 7 * (length l.self.now.words.now - l.at.now) + 1

abbrev pub decreases-members : goal.decreases-members
decreases-members l = 7 * (length l.self.now.words.now - l.at.now) + 2

abbrev pub decreases-named_type : goal.decreases-named_type
decreases-named_type l = 7 * (length l.self.now.words.now - l.at.now) + 4

abbrev pub decreases-next_type_argument : goal.decreases-next_type_argument
decreases-next_type_argument l = 7 * (length l.self.now.words.now - l.at.now) + 0

abbrev pub decreases-next_type_arguments : goal.decreases-next_type_arguments
decreases-next_type_arguments l = 7 * (length l.self.now.words.now - l.at.now) + 1

abbrev pub decreases-ordinal_body : goal.decreases-ordinal_body
decreases-ordinal_body l = 7 * (length l.self.now.words.now - l.at.now) + 0

abbrev pub decreases-ordinal_member : goal.decreases-ordinal_member
decreases-ordinal_member l = 7 * (length l.self.now.words.now - l.at.now) + 1

abbrev pub decreases-ordinal_members : goal.decreases-ordinal_members
decreases-ordinal_members l = 7 * (length l.self.now.words.now - l.at.now) + 2

abbrev pub decreases-type_argument : goal.decreases-type_argument
decreases-type_argument l = 7 * (length l.self.now.words.now - l.at.now) + 6

abbrev pub decreases-type_arguments : goal.decreases-type_arguments
decreases-type_arguments l = 7 * (length l.self.now.words.now - l.at.now) + 2

abbrev pub decreases-type_constructor : goal.decreases-type_constructor
decreases-type_constructor l = 7 * (length l.self.now.words.now - l.at.now) + 5

abbrev pub decreases-underlying : goal.decreases-underlying
decreases-underlying l = 7 * (length l.self.now.words.now - l.at.now) + 2

abbrev pub decreases-struct_layout : goal.decreases-struct_layout
decreases-struct_layout l = 7 * (length l.self.now.words.now - l.at.now) + 2

abbrev pub decreases-table_layout : goal.decreases-table_layout
decreases-table_layout l = 7 * (length l.self.now.words.now - l.at.now) + 2

abbrev pub decreases-union_layout : goal.decreases-union_layout
decreases-union_layout l = 7 * (length l.self.now.words.now - l.at.now) + 2

abbrev pub decreases-values_layout : goal.decreases-values_layout
decreases-values_layout l = 7 * (length l.self.now.words.now - l.at.now) + 2

-- from the start to here the arguments so far are read, and from here what is left of any
abbrev pub invariant-next_type_arguments-loop-arguments : goal.invariant-next_type_arguments-loop-arguments
invariant-next_type_arguments-loop-arguments l = record {
  reads : Reads l.self l.fn.at l.at (joined (map next_type_argument_leaves l.arguments.items));
  left : Left next_type_argument_leaves (Begins kind.Greater) l.self l.fn.at l.at;
}

abbrev pub decreases-next_type_arguments-loop-arguments : goal.decreases-next_type_arguments-loop-arguments
decreases-next_type_arguments-loop-arguments l = length l.self.words.now - l.at

-- from the start to here the members so far are read, and from here what is left of any
abbrev pub invariant-members-loop-members : goal.invariant-members-loop-members
invariant-members-loop-members l = record {
  reads : Reads l.self l.fn.at l.at (joined (map member_leaves l.members.items));
  left : Left member_leaves (Begins kind.RightBrace) l.self l.fn.at l.at;
}

abbrev pub decreases-members-loop-members : goal.decreases-members-loop-members
decreases-members-loop-members l = length l.self.words.now - l.at

-- from the start to here the members so far are read, and from here what is left of any
abbrev pub invariant-ordinal_members-loop-members : goal.invariant-ordinal_members-loop-members
invariant-ordinal_members-loop-members l = record {
  reads : Reads l.self l.fn.at l.at (joined (map ordinal_member_leaves l.members.items));
  left : Left ordinal_member_leaves (Begins kind.RightBrace) l.self l.fn.at l.at;
}

abbrev pub decreases-ordinal_members-loop-members : goal.decreases-ordinal_members-loop-members
decreases-ordinal_members-loop-members l = length l.self.words.now - l.at
