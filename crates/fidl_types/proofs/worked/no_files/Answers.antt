use Rattle.std.proofs.Common.{ℕ, [], arith}
use Rattle.std.proofs.lemmas.Option.{none-some}
use Rattle.fidl_cycles.specs.Cycles.{Leads, step, further}
use Rattle.fidl_ir_rules.specs.Inline.{HoldsInline}
use Rattle.fidl_types.proofs.worked.no_files.Goals as goal

none_inline : (i j : ℕ) → Leads (HoldsInline []) i j → ⊥
none_inline i j (step a b h) = absurd (omega (arith, h.1))
none_inline i j (further a b c h k) = absurd (omega (arith, h.1))

pub returns-clause-kept : goal.returns-clause-kept
returns-clause-kept c = record {
  layouts = tt;
  numbers = tt;
  resources = λ number f at. absurd (none-some f at);
  uses = λ number f at. absurd (none-some f at);
  definitions = tt;
  kept = record { marked = λ i. tt; apart = λ i. none_inline i i };
}

pub returns-clause-nowhere : goal.returns-clause-nowhere
returns-clause-nowhere c = λ place h. none-some h.reported.form h.reported.at
