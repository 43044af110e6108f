use Rattle.std.proofs.Common.{length, ◌-◌, map}
use Rattle.fidl_tree.specs.Leaf.{joined}
use Rattle.fidl_tree.specs.Attribute.{next_argument_leaves}
use Rattle.fidl_parse.specs.Reading.{Reads}
use Rattle.fidl_parse.proofs.Rows.{Left}
use Rattle.fidl_span.specs.declared.words.WordKind.TheVariants as kind
use Rattle.fidl_parse.specs.FollowSets.{Begins}
use Rattle.fidl_parse.proofs.parser.Parser.next_arguments.Given as goal

-- from the start to here the arguments so far are read, and from here what is left of any
abbrev pub invariant-loop-arguments : goal.invariant-loop-arguments
invariant-loop-arguments l = record {
  reads : Reads l.self l.fn.at l.at (joined (map next_argument_leaves l.arguments.items));
  left : Left next_argument_leaves (Begins kind.RightParenthesis) l.self l.fn.at l.at;
}

abbrev pub decreases-loop-arguments : goal.decreases-loop-arguments
decreases-loop-arguments l = length l.self.words.now - l.at
