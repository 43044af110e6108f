use Rattle.std.proofs.Common.{◌-◌, length}
use Rattle.fidl_constraints.specs.BehindViews.{use_view}
use Rattle.fidl_lower_types.proofs.Descending.{IsReached}
use Rattle.fidl_lower_types.proofs.terms.term_of.Given as goal

-- the current type was reached from the first
abbrev pub invariant-elements : goal.invariant-elements
invariant-elements l = IsReached l.sources.named.now l.fn.file_index (use_view l.fn.of) l.shapes.items l.at (use_view l.current)

-- a vector has less than 2^64 elements
abbrev pub decreases-elements : goal.decreases-elements
decreases-elements l = 18446744073709551616 - length l.shapes.items
