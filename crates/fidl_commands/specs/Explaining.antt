-- What the command `explain` answers (docs/program.md, "explain").
use Rattle.std.specs.Prelude.{⊤, ℕ, List, Option, Some, codes, decimal}
use Rattle.std.specs.Fmt.{option_append, debug_str}
use Rattle.fidl_hints.specs.declared.explaining.Faults.{Faults}
use Rattle.fidl_hints.specs.declared.explaining.Faults.TheVariants.{Named, Numbered}
use Rattle.fidl_commands.specs.declared.outcome.Outcome.{Outcome}
use Rattle.fidl_commands.specs.declared.outcome.Outcome.TheVariants.{Done, NoFault, Unwritten}
use Rattle.fidl_commands.specs.declared.outcome.Outcome.TheVariants.{NoMemory}

-- what can happen to `explain`
abbrev pub CanEndExplain : Outcome → Type 0
CanEndExplain Done = ⊤
CanEndExplain NoFault = ⊤
CanEndExplain Unwritten = ⊤
CanEndExplain NoMemory = ⊤
CanEndExplain _ = ⊥

-- the line for a name that no fault has; std tells what a quoted word looks like where all is ASCII
abbrev pub no_name_line : (name : List ℕ) → Option (List ℕ)
no_name_line name =
    option_append (Some (codes "error: FAULT: no fault has the name "))
    (option_append (debug_str name) (Some (codes "\n")))

-- the line for a stage and a number that no fault has
abbrev pub no_number_line : (stage : List ℕ) (number : ℕ) → Option (List ℕ)
no_number_line stage number =
    option_append (Some (codes "error: FAULT: no fault has the stage "))
    (option_append (debug_str stage)
    (option_append (Some (codes " and the number "))
    (option_append (Some (decimal number)) (Some (codes "\n")))))

-- the line for faults that there are not
abbrev pub no_fault_line : Faults → Option (List ℕ)
no_fault_line (Named name) = no_name_line name.now
no_fault_line (Numbered stage number) = no_number_line stage.now number
