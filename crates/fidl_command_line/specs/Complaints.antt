-- What is wrong with a command line, in one line (docs/program.md, "Statuses").
use Rattle.std.specs.Prelude.{ℕ, List, [], ◌++◌, codes, decimal, string_bytes}
use Rattle.fidl_command_line.specs.declared.unread.Unread.{Unread}
use Rattle.fidl_command_line.specs.declared.unread.Unread.TheVariants.{Asked, Wrong, NotText}
use Rattle.fidl_command_line.specs.declared.unread.Unread.TheVariants.{Missing, BadHex, BadHandle}
use Rattle.fidl_command_line.specs.declared.unread.Unread.TheVariants.{OutIsSource, BadRaw}
use Rattle.fidl_command_line.specs.declared.unread.Unread.TheVariants.{TwoLists, BadFault}
use Rattle.fidl_command_line.specs.declared.unread.Unread.TheVariants.{OutIsTable, Memory}

-- memory ran out
abbrev pub no_memory : List ℕ
no_memory = codes "error: out of memory"

-- the line for a handle that is wrong, by its number from 1
abbrev pub handle_line : (number : ℕ) → List ℕ
handle_line number = codes "error: --handle number " ++ decimal number
    ++ codes ": three decimal numbers of 32 bits are wanted, as in 1:3:0"

-- what is wrong; nothing where help or the version was asked for
abbrev pub complaint_of : Unread → List ℕ
complaint_of (Asked text) = []
complaint_of (Wrong line) = string_bytes line
complaint_of NotText = codes "error: the arguments: UTF-8 is wanted"
complaint_of Missing =
    codes "error: the arguments: a command and what it needs are wanted; fidl --help names them"
complaint_of OutIsSource = codes "error: --out: a file that is none of the sources is wanted"
complaint_of OutIsTable = codes "error: --out: a file that is not the table is wanted"
complaint_of BadHex = codes "error: HEX: an even number of hexadecimal digits is wanted"
complaint_of BadRaw = codes "error: --raw: @FILE or - is wanted in place of HEX"
complaint_of TwoLists = codes "error: --protocols: it does not go with --roots"
complaint_of BadFault =
    codes "error: FAULT: a name is wanted, or a stage and a number, as in types 9"
complaint_of (BadHandle line) = string_bytes line
complaint_of Memory = no_memory
