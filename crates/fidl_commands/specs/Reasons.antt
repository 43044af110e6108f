-- What happens, and what is printed, where a command line gives no arguments (docs/program.md,
-- "Statuses").
use Rattle.std.specs.Prelude.{ℕ, List, [], ◌++◌, codes, string_bytes}
use Rattle.fidl_command_line.specs.Complaints.{complaint_of}
use Rattle.fidl_command_line.specs.declared.unread.Unread.{Unread}
use Rattle.fidl_command_line.specs.declared.unread.Unread.TheVariants.{Asked, Memory}
use Rattle.fidl_commands.specs.declared.outcome.Outcome.{Outcome}
use Rattle.fidl_commands.specs.declared.outcome.Outcome.TheVariants as outcome

-- what happens to a command whose arguments are not read
abbrev pub outcome_of : Unread → Outcome
outcome_of (Asked text) = outcome.Asked
outcome_of Memory = outcome.NoMemory
outcome_of _ = outcome.WrongLine

-- what is printed on the output
abbrev pub text_of : Unread → List ℕ
text_of (Asked text) = string_bytes text
text_of _ = []

-- what is printed on the errors
abbrev pub line_of : Unread → List ℕ
line_of (Asked text) = []
line_of other = complaint_of other ++ codes "\n"
