use Rattle.std.proofs.Common.{◌≡◌, ℕ, ◌<◌, length}
use Rattle.fidl_ir.specs.Terms.{definitions_view}
use Rattle.fidl_ir_rules.specs.Resources.{is_resource}
use Rattle.fidl_ir_rules.specs.Flags.{is_flagged}
use Rattle.fidl_ir_rules.proofs.resources.resource_flags.Given as goal

-- the flags so far are right
abbrev pub invariant-loop-number : goal.invariant-loop-number
invariant-loop-number l = record {
  long : length l.flags.items ≡ l.number;
  right : (i : ℕ) → i < l.number → is_flagged l.flags.items i ≡ is_resource (definitions_view l.definitions) l.marks i;
}
