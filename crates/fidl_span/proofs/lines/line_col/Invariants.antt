use Rattle.std.proofs.Common.{◌≡◌}
use Rattle.fidl_span.specs.Lines.{line_of, column_of}
use Rattle.fidl_span.proofs.lines.line_col.Given as goal

abbrev pub invariant-loop-byte : goal.invariant-loop-byte
invariant-loop-byte l = record {
  line : l.line ≡ line_of l.before l.byte-index;
  column : l.column ≡ column_of l.before l.byte-index;
}
