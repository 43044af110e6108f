-- Each method reads at least a word before it comes to itself again.
use Rattle.std.proofs.Common.{map, ◌+◌, ◌-◌, ◌*◌, length}
use Rattle.fidl_tree.specs.Leaf.{joined}
use Rattle.fidl_tree.specs.Value.{or_operand_leaves}
use Rattle.fidl_parse.specs.Reading.{Reads}
use Rattle.fidl_parse.proofs.Rows.{Left}
use Rattle.fidl_parse.specs.FollowSets.{Not, extends_value}
use Rattle.fidl_parse.proofs.parser.Parser.+value.Given as goal

abbrev pub decreases-group : goal.decreases-group
decreases-group l = 4 * (length l.self.now.words.now - l.at.now)

abbrev pub decreases-or_operand : goal.decreases-or_operand
decreases-or_operand l = 4 * (length l.self.now.words.now - l.at.now)

abbrev pub decreases-or_operands : goal.decreases-or_operands
decreases-or_operands l = 4 * (length l.self.now.words.now - l.at.now) + 1

abbrev pub decreases-operand : goal.decreases-operand
decreases-operand l = 4 * (length l.self.now.words.now - l.at.now) + 1

abbrev pub decreases-value : goal.decreases-value
decreases-value l = 4 * (length l.self.now.words.now - l.at.now) + 2

-- from the start to here the or_operands so far are read, and from here what is left of any
abbrev pub invariant-or_operands-loop-or_operands : goal.invariant-or_operands-loop-or_operands
invariant-or_operands-loop-or_operands l = record {
  reads : Reads l.self l.fn.at l.at (joined (map or_operand_leaves l.or_operands.items));
  left : Left or_operand_leaves (Not extends_value) l.self l.fn.at l.at;
}

abbrev pub decreases-or_operands-loop-or_operands : goal.decreases-or_operands-loop-or_operands
decreases-or_operands-loop-or_operands l = length l.self.words.now - l.at
