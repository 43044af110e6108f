use Rattle.std.proofs.Common.{◌≡◌, length}
use Rattle.fidl_type_shape.proofs.finding.blank_figures.Given as goal

-- as many as were asked for so far
abbrev pub invariant-loop-number : goal.invariant-loop-number
invariant-loop-number l = length l.figures.items ≡ l._number
