-- What happens to a command, and how the program then ends (docs/program.md, "Statuses").
use Rattle.std.specs.Prelude.{ℕ}
use Rattle.fidl_commands.specs.declared.outcome.Outcome.{Outcome}
use Rattle.fidl_commands.specs.declared.outcome.Outcome.TheVariants as outcome
use Rattle.fidl_commands.specs.declared.outcome.Status.{Status}
use Rattle.fidl_commands.specs.declared.outcome.Status.TheVariants.{Done, Refused, Usage, FileFault}
use Rattle.fidl_commands.specs.declared.outcome.Status.TheVariants.{Memory}

-- the status that follows from what happened
abbrev pub status_of : Outcome → Status
status_of outcome.Done = Done
status_of outcome.Asked = Done
status_of outcome.Refused = Refused
status_of outcome.WrongLine = Usage
status_of outcome.NoRoot = Usage
status_of outcome.NoProtocol = Usage
status_of outcome.NoFault = Usage
status_of outcome.WrongText = Usage
status_of outcome.NoFile = FileFault
status_of outcome.Unread = FileFault
status_of outcome.Unwritten = FileFault
status_of outcome.NoMemory = Memory

-- the number that the program exits with
abbrev pub number_of : Status → ℕ
number_of Done = 0
number_of Refused = 1
number_of Usage = 2
number_of FileFault = 3
number_of Memory = 4
