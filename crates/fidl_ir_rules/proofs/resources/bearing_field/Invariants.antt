use Rattle.std.proofs.Common.{take}
use Rattle.fidl_ir.specs.Terms.{fields_view}
use Rattle.fidl_ir.specs.Members.{field_types}
use Rattle.fidl_ir_rules.specs.Flags.{is_flagged, NoneBears}
use Rattle.fidl_ir_rules.proofs.resources.bearing_field.Given as goal

-- none so far bears
abbrev pub invariant-loop-number : goal.invariant-loop-number
invariant-loop-number l = NoneBears (is_flagged l.flags) (take l.number (field_types (fields_view l.fields)))
