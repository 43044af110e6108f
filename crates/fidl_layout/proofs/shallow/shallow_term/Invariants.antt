use Rattle.fidl_constraints.specs.BehindViews.{use_view}
use Rattle.fidl_layout.proofs.FirstVectors.{IsReached}
use Rattle.fidl_layout.proofs.shallow.shallow_term.Given as goal

-- the current type was reached from the first by arrays
abbrev pub invariant-arrays : goal.invariant-arrays
invariant-arrays l = IsReached l.sources.named.now l.fn.file_index (use_view l.fn.of) l.shapes.items l.at (use_view l.current)
