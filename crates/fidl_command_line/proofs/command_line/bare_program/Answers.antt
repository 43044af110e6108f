use Rattle.std.proofs.Common.{ap, ◌∙◌, true}
use Rattle.clap.specs.Words.{App}
use Rattle.clap.specs.Simple.{app_of_fields}
use Rattle.fidl_command_line.proofs.command_line.bare_program.Goals as goal

pub returns : goal.returns
returns c =
    ap app_of_fields c.subcommand_required.ensures
    ∙ ap (λ (x : App). record x { top = record x.top { subcommand_required = true } }) (ap app_of_fields c.version.ensures
    ∙ ap (λ (x : App). record x { top = record x.top { has_version = true } }) (ap app_of_fields c.in_ok-bin_name.ensures.0 ∙ c.described-program.ensures.app))
