use Rattle.std.proofs.Common.{length, ◌-◌, map}
use Rattle.fidl_tree.specs.Leaf.{joined}
use Rattle.fidl_tree.specs.Attribute.{attribute_leaves}
use Rattle.fidl_parse.specs.Reading.{Reads}
use Rattle.fidl_parse.proofs.Rows.{Left}
use Rattle.fidl_parse.specs.FollowSets.{Not, extends_attributes}
use Rattle.fidl_parse.proofs.parser.Parser.attributes.Given as goal

-- from the start to here the attributes so far are read, and from here what is left of any
abbrev pub invariant-loop-attributes : goal.invariant-loop-attributes
invariant-loop-attributes l = record {
  reads : Reads l.self l.fn.at l.at (joined (map attribute_leaves l.attributes.items));
  left : Left attribute_leaves (Not extends_attributes) l.self l.fn.at l.at;
}

abbrev pub decreases-loop-attributes : goal.decreases-loop-attributes
decreases-loop-attributes l = length l.self.words.now - l.at
