use Rattle.std.proofs.Common.{ℕ, ◌<◌, get_or}
use Rattle.fidl_wire.specs.Term.{nothing}
use Rattle.fidl_ir.specs.Terms.{definitions_view}
use Rattle.fidl_ir_rules.specs.Resources.{MembersHold, mark_of}
use Rattle.fidl_ir_rules.specs.Flags.{is_flagged}
use Rattle.fidl_ir_rules.proofs.resources.check_members.Given as goal

-- the definitions so far keep the rule
abbrev pub invariant-loop-number : goal.invariant-loop-number
invariant-loop-number l = (i : ℕ) → i < l.number → MembersHold (is_flagged l.flags) (mark_of l.marks i) (get_or (definitions_view l.definitions) i nothing)
