use Rattle.std.proofs.Common.{length, ◌-◌, map}
use Rattle.fidl_tree.specs.Leaf.{joined}
use Rattle.fidl_tree.specs.Constraint.{next_constraint_leaves}
use Rattle.fidl_parse.specs.Reading.{Reads}
use Rattle.fidl_parse.proofs.Rows.{Left}
use Rattle.fidl_span.specs.declared.words.WordKind.TheVariants as kind
use Rattle.fidl_parse.specs.FollowSets.{Begins}
use Rattle.fidl_parse.proofs.parser.Parser.next_constraints.Given as goal

-- from the start to here the constraints so far are read, and from here what is left of any
abbrev pub invariant-loop-constraints : goal.invariant-loop-constraints
invariant-loop-constraints l = record {
  reads : Reads l.self l.fn.at l.at (joined (map next_constraint_leaves l.constraints.items));
  left : Left next_constraint_leaves (Begins kind.Greater) l.self l.fn.at l.at;
}

abbrev pub decreases-loop-constraints : goal.decreases-loop-constraints
decreases-loop-constraints l = length l.self.words.now - l.at
