use Rattle.std.proofs.Common.{take}
use Rattle.fidl_ir.specs.Terms.{rows_view}
use Rattle.fidl_ir.specs.Members.{row_types}
use Rattle.fidl_ir_rules.specs.Flags.{is_flagged, NoneBears}
use Rattle.fidl_ir_rules.proofs.resources.bearing_row.Given as goal

-- none so far bears
abbrev pub invariant-loop-number : goal.invariant-loop-number
invariant-loop-number l = NoneBears (is_flagged l.flags) (take l.number (row_types (rows_view l.rows)))
