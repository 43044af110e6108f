use Rattle.std.proofs.Common.{◌≡◌, sym, ap, ◌∙◌, List}
use Rattle.std.specs.Prelude.{Some, None}
use Rattle.clap.specs.Words.{Row, Text, subcommand_name_of, subcommand_rows_of}
use Rattle.clap.specs.declared.parser.matches.ArgMatches.{ArgMatches}
use Rattle.fidl_command_line.proofs.Commands.{found_with, found_name, some_value, no_value}
use Rattle.fidl_command_line.proofs.HandleText.{when_none}
use Rattle.fidl_command_line.proofs.named.named_command.Goals as goal

-- no command was named
unnamed : (m : ArgMatches) (word : Text) (rows : List Row) → subcommand_name_of m ≡ None → subcommand_rows_of m ≡ Some (word, rows) → ⊥
unnamed m word rows none given = let bad = sym none ∙ found_name m word rows given in cc

-- the command that was named has one name
one_word : (m : ArgMatches) (word other : Text) (rows : List Row) → subcommand_name_of m ≡ Some word → subcommand_rows_of m ≡ Some (other, rows) → other ≡ word
one_word m word other rows is given = let both = sym (found_name m other rows given) ∙ is in cc

pub returns-in_err-word-clause-none : goal.returns-in_err-word-clause-none
returns-in_err-word-clause-none c =
    when_none c.from_residual.result (λ command rows. unnamed c.args.matches.now _ rows (no_value _ _ _ c.in_err-word.was c.subcommand.ensures.name))

pub returns-in_err-command-clause-none : goal.returns-in_err-command-clause-none
returns-in_err-command-clause-none c =
    let named = some_value _ _ _ _ c.in_ok-word.was c.subcommand.ensures.name in
    when_none c.from_residual-in_err-command.result (λ command rows given. c.in_err-command.ensures.none command (one_word c.args.matches.now _ _ rows named given))

pub returns-clause-some : goal.returns-clause-some
returns-clause-some c =
    let named = some_value _ _ _ _ c.in_ok-word.was c.subcommand.ensures.name in
    let rows = some_value _ _ _ _ c.in_ok-word.was c.subcommand.ensures.rows in
    found_with c.args.matches.now _ _ (named ∙ ap Some (sym c.in_ok-command.ensures.some)) rows
