-- The command line of the program, in clap's words (docs/program.md, "Command line").
use Rattle.std.specs.Prelude.{◌≡◌, true, false, List, [], ◌∷◌, Some, codes}
use Rattle.clap.specs.Words.{App, Shape, Rule, Row, Text, new_rule, subcommand_of, app_of}
use Rattle.clap.specs.Words.{subcommand_rows_of}
use Rattle.clap.specs.Lexer.{usize_max}
use Rattle.clap.specs.declared.builder.command.Command.{Command}
use Rattle.clap.specs.declared.builder.command.Command.TheViews.{out-Command}
use Rattle.clap.specs.Simple.{new_shape}
use Rattle.clap.specs.declared.builder.action.ArgAction.TheVariants.{Set, Append, SetTrue}
use Rattle.clap.specs.declared.parser.matches.ArgMatches.{ArgMatches}
use Rattle.fidl_command_line.specs.declared.named.CommandName.{CommandName}
use Rattle.fidl_command_line.specs.declared.named.CommandName.TheVariants.{Compile, Migrate, Decode}
use Rattle.fidl_command_line.specs.declared.named.CommandName.TheVariants.{Encode, Table, Dump}
use Rattle.fidl_command_line.specs.declared.named.CommandName.TheVariants.{Serve, Explain}

-- an argument that must be given, by its place
abbrev pub positional : Text → Rule
positional id = record (new_rule id) { required = true; action = Some Set }

-- `--handle`, which may be given any number of times
abbrev pub handle_option : Rule
handle_option = record (new_rule (codes "handle")) {
  long = Some (codes "handle");
  value_names = 1;
  action = Some Append;
}

-- `--out`, which must be given
abbrev pub out_option : Rule
out_option = record (new_rule (codes "out")) {
  long = Some (codes "out");
  value_names = 1;
  action = Some Set;
  required = true;
}

-- an option without a value, which is given or not
abbrev pub flag : Text → Rule
flag id = record (new_rule id) { long = Some id; action = Some SetTrue }

-- the name of a fault, or a stage and a number
abbrev pub fault_argument : Rule
fault_argument = record (new_rule (codes "FAULT")) {
  range = Some (record { start_inclusive = 1; end_inclusive = usize_max });
  action = Some Append;
  required = true;
}

-- one file or more, by their places
abbrev pub files_argument : Rule
files_argument = record (new_rule (codes "FILE")) {
  range = Some (record { start_inclusive = 1; end_inclusive = usize_max });
  action = Some Append;
  required = true;
}

-- `compile --out OUT [--snippet] FILE..`
abbrev pub compile_command : Shape
compile_command = record (new_shape (codes "compile")) {
  rules = out_option ∷ flag (codes "snippet") ∷ files_argument ∷ [];
}

-- `migrate --out OUT TABLE`
abbrev pub migrate_command : Shape
migrate_command = record (new_shape (codes "migrate")) {
  rules = out_option ∷ positional (codes "TABLE") ∷ [];
}

-- `decode [--handle I:T:R].. [--raw] TABLE ROOT HEX`
abbrev pub decode_command : Shape
decode_command = record (new_shape (codes "decode")) {
  rules = handle_option ∷ flag (codes "raw") ∷ positional (codes "TABLE") ∷ positional (codes "ROOT")
      ∷ positional (codes "HEX") ∷ [];
}

-- `encode TABLE ROOT TEXT`
abbrev pub encode_command : Shape
encode_command = record (new_shape (codes "encode")) {
  rules = positional (codes "TABLE") ∷ positional (codes "ROOT") ∷ positional (codes "TEXT") ∷ [];
}

-- `table [--roots] [--protocols] TABLE`
abbrev pub table_command : Shape
table_command = record (new_shape (codes "table")) {
  rules = flag (codes "roots") ∷ flag (codes "protocols") ∷ positional (codes "TABLE") ∷ [];
}

-- `dump [--response] TABLE PROTOCOL FILE`
abbrev pub dump_command : Shape
dump_command = record (new_shape (codes "dump")) {
  rules = flag (codes "response") ∷ positional (codes "TABLE") ∷ positional (codes "PROTOCOL")
      ∷ positional (codes "FILE") ∷ [];
}

-- `serve TABLE SCRIPT`
abbrev pub serve_command : Shape
serve_command = record (new_shape (codes "serve")) {
  rules = positional (codes "TABLE") ∷ positional (codes "SCRIPT") ∷ [];
}

-- `explain FAULT..`
abbrev pub explain_command : Shape
explain_command = record (new_shape (codes "explain")) { rules = fault_argument ∷ [] }

-- `fidl` without its commands
abbrev pub bare_program : App
bare_program = record {
  top = record (new_shape (codes "fidl")) { has_version = true; subcommand_required = true };
  subs = [];
}

-- `fidl COMMAND`; clap adds help and version
abbrev pub program : App
program = record {
  top = record
      (new_shape (codes "fidl")) {
        has_version = true;
        subcommand_required = true;
        is_leaf =
            false;
      };
  subs = compile_command ∷ migrate_command ∷ decode_command ∷ encode_command ∷ table_command
      ∷ dump_command ∷ serve_command ∷ explain_command ∷ [];
}

-- this is a command of the program, with no commands of its own
pub record IsCommandOf (shape : Shape) (command : Command) : Type 0 where
  pub app : app_of command ≡ record { top = shape; subs = [] }
  pub local : (out-Command command).has_globals ≡ false

-- the word that names a command
abbrev pub word_of : CommandName → Text
word_of Compile = codes "compile"
word_of Migrate = codes "migrate"
word_of Decode = codes "decode"
word_of Encode = codes "encode"
word_of Table = codes "table"
word_of Dump = codes "dump"
word_of Serve = codes "serve"
word_of Explain = codes "explain"

-- what clap read names this command, and gives its arguments these values
abbrev pub Names : ArgMatches → CommandName → List Row → Type 0
Names matches command rows = subcommand_rows_of matches ≡ Some (word_of command, rows)

-- the words name this command, and give its arguments these values
abbrev pub Gives : List Text → CommandName → List Row → Type 0
Gives words command rows = subcommand_of program words ≡ Some (word_of command, rows)
