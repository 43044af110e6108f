use Rattle.std.proofs.Common.{◌≡◌, refl, sym, ap, subst, ◌∙◌, List, map, true, false, inl, inr}
use Rattle.std.specs.Prelude.{Bool}
use Rattle.std.proofs.lemmas.Result.{err_from_is_err_and}
use Rattle.clap.specs.declared.error.kind.ErrorKind.{ErrorKind}
use Rattle.clap.specs.declared.error.kind.ErrorKind.TheVariants as kinds
use Rattle.clap.specs.declared.parser.matches.ArgMatches.{ArgMatches}
use Rattle.clap.specs.Words.{App, Row, Text, found_of, rows_of, HasMatchesOf, takes, subcommand_of, subcommand_rows_of}
use Rattle.fidl_command_line.specs.Arguments.{HasBadValues, IsGiven, IsUngiven, IsRead, IsUnread, IsToldByKind}
use Rattle.fidl_command_line.specs.CommandLine.{program, Gives}
use Rattle.fidl_command_line.specs.declared.arguments.Arguments.{Arguments}
use Rattle.fidl_command_line.specs.declared.arguments.Arguments.TheVariants.{Compile, Migrate, Decode, Encode, Table, Dump, Serve, Explain}
use Rattle.fidl_command_line.specs.declared.named.CommandName.{CommandName}
use Rattle.fidl_command_line.specs.declared.named.CommandName.TheVariants as named
use Rattle.fidl_command_line.specs.declared.unread.Unread.{Unread}
use Rattle.fidl_command_line.specs.declared.unread.Unread.TheVariants.{Asked, Wrong, NotText, Missing, BadHex, BadRaw, TwoLists, BadFault, BadHandle, OutIsSource, OutIsTable, Memory}
use Rattle.fidl_command_line.proofs.Commands.{if_ok, if_err}
use Rattle.fidl_command_line.proofs.arguments.read_arguments.Goals as goal

-- the words name the command that clap's matches of them name
same_command : (words : List Text) (app : App) (m : ArgMatches) → app ≡ program → HasMatchesOf app words m → subcommand_rows_of m ≡ subcommand_of program words
same_command words app m is met = ((subst (λ (a : App). HasMatchesOf a words m) is met) refl).1

-- what was read of a command that the words name, they give
given : (words : List Text) (command : CommandName) (rows : List Row) (read : Arguments) → Gives words command rows → IsRead command rows read → IsGiven words read
given words named.Compile rows (Compile read) names is = (rows, names, is)
given words named.Migrate rows (Migrate read) names is = (rows, names, is)
given words named.Decode rows (Decode read) names is = (rows, names, is)
given words named.Encode rows (Encode read) names is = (rows, names, is)
given words named.Table rows (Table read) names is = (rows, names, is)
given words named.Dump rows (Dump read) names is = (rows, names, is)
given words named.Serve rows (Serve read) names is = (rows, names, is)
given words named.Explain rows (Explain read) names is = (rows, names, is)
given words _ rows _ names is = absurd is

-- bad values are those of the words
badly : (words : List Text) (u : Unread) → HasBadValues words u → IsUngiven words u
badly words (Asked text) h = absurd (no_text h.0 h.1.0 h.1.2)
  where
    no_text : (command : CommandName) (rows : List Row) → IsUnread command rows (Asked text) → ⊥
    no_text named.Compile rows h = h
    no_text named.Migrate rows h = h
    no_text named.Decode rows h = h
    no_text named.Encode rows h = h
    no_text named.Table rows h = h
    no_text named.Dump rows h = h
    no_text named.Serve rows h = h
    no_text named.Explain rows h = h
badly words (Wrong line) h = absurd (no_line h.0 h.1.0 h.1.2)
  where
    no_line : (command : CommandName) (rows : List Row) → IsUnread command rows (Wrong line) → ⊥
    no_line named.Compile rows h = h
    no_line named.Migrate rows h = h
    no_line named.Decode rows h = h
    no_line named.Encode rows h = h
    no_line named.Table rows h = h
    no_line named.Dump rows h = h
    no_line named.Serve rows h = h
    no_line named.Explain rows h = h
badly words NotText h = h
badly words Missing h = inr h
badly words BadHex h = h
badly words BadRaw h = h
badly words TwoLists h = h
badly words BadFault h = h
badly words (BadHandle line) h = h
badly words OutIsSource h = h
badly words OutIsTable h = h
badly words Memory h = tt

not_taken : (b : Bool) → (b ≡ true → ⊥) → b ≡ false
not_taken false f = refl
not_taken true f = absurd (f refl)

-- clap refuses only what is no command line, or runs out of memory
refused : (words : List Text) (kind : ErrorKind) (u : Unread) → (takes program words ≡ true → kind ≡ kinds.OutOfMemory) → IsToldByKind kind u → IsUngiven words u
refused words kind (Asked text) passes (inl e) = not_taken (takes program words) (λ t. let o = passes t in cc)
refused words kind (Asked text) passes (inr e) = not_taken (takes program words) (λ t. let o = passes t in cc)
refused words kind (Wrong line) passes h = not_taken (takes program words) (λ t. h.2 (passes t))
refused words kind NotText passes h = absurd h
refused words kind Missing passes h = absurd h
refused words kind BadHex passes h = absurd h
refused words kind BadRaw passes h = absurd h
refused words kind TwoLists passes h = absurd h
refused words kind BadFault passes h = absurd h
refused words kind (BadHandle line) passes h = absurd h
refused words kind OutIsSource passes h = absurd h
refused words kind OutIsTable passes h = absurd h
refused words kind Memory passes h = tt

pub returns-in-Err-clause-fault_is_true : goal.returns-in-Err-clause-fault_is_true
returns-in-Err-clause-fault_is_true g c =
    let words = map g.S.AsStr.text c.args.words.now in
    refused words _ c.from_clap.result (λ t. c.in-Err.ensures.passes (ap (λ (a : App). takes a words) c.in_ok-command_line.ensures ∙ t)) c.from_clap.ensures

pub returns-in_err-command_line-clause-fault_is_true : goal.returns-in_err-command_line-clause-fault_is_true
returns-in_err-command_line-clause-fault_is_true g c =
    let p = err_from_is_err_and c.from_residual.result c.from_residual.ensures.1 in
    rw (p.1, p.2) tt

pub returns-in-Some-clause-ok : goal.returns-in-Some-clause-ok
returns-in-Some-clause-ok g c =
    let words = map g.S.AsStr.text c.args.words.now in
    let rows = rows_of (found_of c.in-Some.named.matches.now) in
    let command = c.in-Some.named.command in
    let names : Gives words command rows = sym (same_command words _ c.in-Ok.matches c.in_ok-command_line.ensures c.in-Ok.ensures.matches) ∙ c.in-Some.ensures.some in
    if_ok (IsRead command rows) (IsGiven words) c.read_command.result (λ read. given words command rows read names) c.read_command.ensures.ok

pub returns-in-Some-clause-fault_is_true : goal.returns-in-Some-clause-fault_is_true
returns-in-Some-clause-fault_is_true g c =
    let words = map g.S.AsStr.text c.args.words.now in
    let rows = rows_of (found_of c.in-Some.named.matches.now) in
    let command = c.in-Some.named.command in
    let names : Gives words command rows = sym (same_command words _ c.in-Ok.matches c.in_ok-command_line.ensures c.in-Ok.ensures.matches) ∙ c.in-Some.ensures.some in
    if_err (IsUnread command rows) (IsUngiven words) c.read_command.result (λ unread bad. badly words unread (command, (rows, names, bad))) c.read_command.ensures.fault_is_true

pub returns-clause-fault_is_true : goal.returns-clause-fault_is_true
returns-clause-fault_is_true g c =
    let words = map g.S.AsStr.text c.args.words.now in
    let same = same_command words _ c.in-Ok.matches c.in_ok-command_line.ensures c.in-Ok.ensures.matches in
    inl (λ command rows names. c.in-None.ensures.none command rows (same ∙ names))
