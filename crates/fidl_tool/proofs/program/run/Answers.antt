use Rattle.std.proofs.Common.{◌≡◌, ◌≢◌, refl, sym, subst, ◌∙◌, map, inl, inr}
use Rattle.std.specs.Prelude.{◌⊎◌}
use Rattle.fidl_command_line.specs.Arguments.{IsGiven}
use Rattle.fidl_command_line.specs.declared.arguments.Arguments.{Arguments}
use Rattle.fidl_command_line.specs.declared.arguments.Arguments.TheVariants.{Compile, Decode, Table, Explain}
use Rattle.fidl_command_line.specs.declared.unread.Unread.{Unread}
use Rattle.fidl_command_line.specs.declared.unread.Unread.TheVariants as unread
use Rattle.fidl_text.proofs.Written.{appends_as}
use Rattle.fidl_commands.specs.Decoding.{no_memory_line}
use Rattle.fidl_commands.specs.Reasons.{outcome_of, line_of}
use Rattle.fidl_commands.specs.declared.outcome.Outcome.{Outcome}
use Rattle.fidl_commands.specs.declared.outcome.Outcome.TheVariants as outcome
use Rattle.fidl_tool.specs.Running.{LeavesOutput}
use Rattle.fidl_tool.proofs.program.run.Goals as goal

written : (r other : Outcome) → r ≡ other → other ≢ outcome.Unwritten → r ≢ outcome.Unwritten
written r other q n u = n (sym q ∙ u)

pub returns-in-Err-clause-asked : goal.returns-in-Err-clause-asked
returns-in-Err-clause-asked g c q =
    let w = written c.tell.result outcome.Asked q (λ e. cc) in
    (c.in-Err.unread, c.in-Err.ensures.fault_is_true, sym (c.tell.ensures.outcome w) ∙ q, c.tell.ensures.out w)

pub returns-in-Err-clause-wrong_line : goal.returns-in-Err-clause-wrong_line
returns-in-Err-clause-wrong_line g c q =
    let w = written c.tell.result outcome.WrongLine q (λ e. cc) in
    (c.in-Err.unread, c.in-Err.ensures.fault_is_true, sym (c.tell.ensures.outcome w) ∙ q, c.tell.ensures.errors w)

-- help was asked for, or it was not
asked_or_not : (u : Unread) → (outcome_of u ≡ outcome.Asked) ⊎ (outcome_of u ≢ outcome.Asked)
asked_or_not (unread.Asked text) = inl refl
asked_or_not (unread.Wrong line) = inr (λ e. cc)
asked_or_not unread.NotText = inr (λ e. cc)
asked_or_not unread.Missing = inr (λ e. cc)
asked_or_not unread.BadHex = inr (λ e. cc)
asked_or_not (unread.BadHandle line) = inr (λ e. cc)
asked_or_not unread.OutIsSource = inr (λ e. cc)
asked_or_not unread.OutIsTable = inr (λ e. cc)
asked_or_not unread.BadRaw = inr (λ e. cc)
asked_or_not unread.TwoLists = inr (λ e. cc)
asked_or_not unread.BadFault = inr (λ e. cc)
asked_or_not unread.Memory = inr (λ e. cc)

pub returns-in-Ok-clause-front : goal.returns-in-Ok-clause-front
returns-in-Ok-clause-front g c q = elim (c.run_arguments.ensures.front q) [
  | inl a ↦ inl a
  | inr b ↦ inr (inl (c.in-Ok.arguments, c.in-Ok.ensures.ok, b))
]

pub returns-in-Err-clause-front : goal.returns-in-Err-clause-front
returns-in-Err-clause-front g c q = elim (asked_or_not c.in-Err.unread) [
  | inl a ↦ inr (inr (c.in-Err.unread, c.in-Err.ensures.fault_is_true, a, c.tell.ensures.front q))
  | inr n ↦ inl (c.tell.ensures.quiet n, refl)
]

pub returns-in-Err-clause-out : goal.returns-in-Err-clause-out
returns-in-Err-clause-out g c h = c.tell.ensures.quiet (λ e. subst LeavesOutput (c.tell.ensures.outcome (λ u. subst LeavesOutput u h) ∙ e) h)

-- memory is told by its line alone
memory_told : (u : Unread) → outcome_of u ≡ outcome.NoMemory → line_of u ≡ no_memory_line
memory_told (unread.Asked text) e = cc
memory_told (unread.Wrong line) e = cc
memory_told unread.NotText e = cc
memory_told unread.Missing e = cc
memory_told unread.BadHex e = cc
memory_told (unread.BadHandle line) e = cc
memory_told unread.OutIsSource e = cc
memory_told unread.OutIsTable e = cc
memory_told unread.BadRaw e = cc
memory_told unread.TwoLists e = cc
memory_told unread.BadFault e = cc
memory_told unread.Memory e = refl

pub returns-in-Err-clause-memory_line : goal.returns-in-Err-clause-memory_line
returns-in-Err-clause-memory_line g c q =
    let w = written c.tell.result outcome.NoMemory q (λ e. cc) in
    let told = memory_told c.in-Err.unread (sym (c.tell.ensures.outcome w) ∙ q) in
    appends_as _ _ (line_of c.in-Err.unread) no_memory_line told (c.tell.ensures.errors w)
