use Rattle.std.proofs.Common.{length, ◌-◌, map}
use Rattle.fidl_tree.specs.Leaf.{joined}
use Rattle.fidl_tree.specs.Declaration.{property_leaves}
use Rattle.fidl_parse.specs.Reading.{Reads}
use Rattle.fidl_parse.proofs.Rows.{Left}
use Rattle.fidl_span.specs.declared.words.WordKind.TheVariants as kind
use Rattle.fidl_parse.specs.FollowSets.{Begins}
use Rattle.fidl_parse.proofs.parser.Parser.property_list.Given as goal

-- from the start to here the members so far are read, and from here what is left of any
abbrev pub invariant-loop-members : goal.invariant-loop-members
invariant-loop-members l = record {
  reads : Reads l.self l.fn.at l.at (joined (map property_leaves l.members.items));
  left : Left property_leaves (Begins kind.RightBrace) l.self l.fn.at l.at;
}

abbrev pub decreases-loop-members : goal.decreases-loop-members
decreases-loop-members l = length l.self.words.now - l.at
