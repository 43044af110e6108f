use Rattle.std.proofs.Common.{length, drop, ◌-◌, ◌+◌, ◌≤◌, ◌≡◌, ◌++◌}
use Rattle.fidl_script.specs.Lines.{said_from, said_lines}
use Rattle.fidl_script.specs.Held.{lines_view}
use Rattle.fidl_script.proofs.lines.said_lines.Given as goal

abbrev pub invariant-loop-start : goal.invariant-loop-start
invariant-loop-start l = record {
  within : l.start ≤ length l.text + 1;
  low : l.number ≤ l.start + 1;
  lines : lines_view l.lines.items ++ said_from l.number (drop l.start l.text) ≡ said_lines l.text;
}

abbrev pub decreases-loop-start : goal.decreases-loop-start
decreases-loop-start l = length l.text + 1 - l.start
