use Rattle.std.proofs.Common.{length, ◌-◌, map}
use Rattle.fidl_tree.specs.Leaf.{joined}
use Rattle.fidl_tree.specs.Path.{part_leaves}
use Rattle.fidl_parse.specs.Reading.{Reads}
use Rattle.fidl_parse.specs.FollowSets.{Not, extends_path}
use Rattle.fidl_parse.proofs.Rows.{Left}
use Rattle.fidl_parse.proofs.parser.Parser.path_parts.Given as goal

-- from the start to here the parts so far are read, and from here what is left of any
abbrev pub invariant-loop-parts : goal.invariant-loop-parts
invariant-loop-parts l = record {
  reads : Reads l.self l.fn.at l.at (joined (map part_leaves l.parts.items));
  left : Left part_leaves (Not extends_path) l.self l.fn.at l.at;
}

abbrev pub decreases-loop-parts : goal.decreases-loop-parts
decreases-loop-parts l = length l.self.words.now - l.at
