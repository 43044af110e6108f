-- What clap's builder makes of the program's command line, and what a parse of it gives.
use Rattle.std.proofs.Common.{◌≡◌, refl, sym, ap, ◌∙◌, List}
use Rattle.std.specs.Prelude.{Option, Some, None, Result, Ok, Err, IfOk, IfErr, option_map, false, ◌||◌}
use Rattle.clap.specs.Words.{App, Shape, Rule, Row, Text, app_of, rule_of, subcommand_name_of, subcommand_rows_of}
use Rattle.clap.specs.Simple.{shape_of, with_subcommand, with_rule}
use Rattle.clap.specs.declared.parser.matches.ArgMatches.{ArgMatches}
use Rattle.clap.specs.declared.builder.arg.Arg.{Arg}
use Rattle.clap.specs.declared.builder.command.Command.{Command}
use Rattle.clap.specs.declared.builder.command.Command.TheViews.{out-Command}
use Rattle.clap.specs.Built.{AddsArg, AddsSubcommand}
use Rattle.fidl_command_line.specs.CommandLine.{IsCommandOf}

-- what holds of a result's value leads to another fact of it
pub if_ok : {T E : Type 0} (P Q : T → Type 0) (r : Result T E) → ((x : T) → P x → Q x) → IfOk r P → IfOk r Q
if_ok P Q (Ok x) f h = f x h
if_ok P Q (Err e) f h = tt

pub if_err : {T E : Type 0} (P Q : E → Type 0) (r : Result T E) → ((x : E) → P x → Q x) → IfErr r P → IfErr r Q
if_err P Q (Ok x) f h = tt
if_err P Q (Err e) f h = f e h

-- a command of the program is added with its shape
pub joined : (old sub new : Command) (app : App) (shape : Shape) → AddsSubcommand old sub new → IsCommandOf shape sub → app_of old ≡ app → app_of new ≡ with_subcommand app shape
joined old sub new app shape h is e = h.shape is.local
    ∙ ap (λ (x : App). with_subcommand x (shape_of sub)) e
    ∙ ap (λ (s : Shape). with_subcommand app s) (ap (λ (x : App). x.top) is.app)

-- the name and the rows of a subcommand
abbrev pair_of : {B : Type 0} (name : B → Text) (rows : B → List Row) → B → Text × List Row
pair_of name rows b = (name b, rows b)

abbrev second : Text × List Row → List Row
second p = p.1

-- both, by its name alone and by its rows alone
both_of : {B : Type 0} (name : B → Text) (rows : B → List Row) (o : Option B) (n : Text) (rs : List Row)
    → option_map name o ≡ Some n → option_map second (option_map (pair_of name rows) o) ≡ Some rs
    → option_map (pair_of name rows) o ≡ Some (n, rs)
both_of name rows None n rs a b = cc
both_of name rows (Some x) n rs a b =
    let first : name x ≡ n = cc in
    let last : rows x ≡ rs = cc in
    rw (first, last) refl

-- what an argument that is not global adds
abbrev pub IsApp : App → Command → Type 0
IsApp app c = (app_of c ≡ app) × ((out-Command c).has_globals ≡ false)

pub grown : (old new : Command) (a : Arg) (app : App) (rule : Rule) → IsApp app old → AddsArg old a new → rule_of a ≡ rule → a.global ≡ false → IsApp (with_rule app rule) new
grown old new a app rule is h e g = (
  h.shape g ∙ ap (λ (x : App). with_rule x (rule_of a)) is.0 ∙ ap (λ (r : Rule). with_rule app r) e,
  h.globals ∙ ap (λ b. b || a.global) is.1 ∙ g,
)

name_of : {B : Type 0} (name : B → Text) (rows : B → List Row) (o : Option B) (n : Text) (rs : List Row) → option_map (pair_of name rows) o ≡ Some (n, rs) → option_map name o ≡ Some n
name_of name rows None n rs e = cc
name_of name rows (Some x) n rs e = let both : (name x, rows x) ≡ (n, rs) = cc in ap Some (ap (λ (p : Text × List Row). p.0) both)

-- what clap read has this name and these rows
pub found_with : (m : ArgMatches) (n : Text) (rs : List Row) → subcommand_name_of m ≡ Some n → option_map (λ p. p.1) (subcommand_rows_of m) ≡ Some rs → subcommand_rows_of m ≡ Some (n, rs)
found_with m n rs = both_of _ _ _ n rs

pub found_name : (m : ArgMatches) (n : Text) (rs : List Row) → subcommand_rows_of m ≡ Some (n, rs) → subcommand_name_of m ≡ Some n
found_name m n rs = name_of _ _ _ n rs

-- what stands in an option, or that nothing does
pub some_value : {A B : Type 0} (f : A → B) (o : Option A) (x : A) (found : Option B) → o ≡ Some x → option_map f o ≡ found → found ≡ Some (f x)
some_value f o x found is h = sym h ∙ ap (option_map f) is

pub no_value : {A B : Type 0} (f : A → B) (o : Option A) (found : Option B) → o ≡ None → option_map f o ≡ found → found ≡ None
no_value f o found is h = sym h ∙ ap (option_map f) is
