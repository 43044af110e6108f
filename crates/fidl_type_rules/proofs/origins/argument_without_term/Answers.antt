use Rattle.fidl_constraints.specs.BehindViews.{use_view}
use Rattle.fidl_declarations.specs.SiteViews.{role_view}
use Rattle.fidl_type_rules.proofs.Stood.{argument_stands}
use Rattle.fidl_type_rules.proofs.origins.argument_without_term.Goals as goal

pub returns-else-branch-clause-stands : goal.returns-else-branch-clause-stands
returns-else-branch-clause-stands c =
    let used = c.args.used in
    record {
      at = argument_stands c.args.sources.now.named.now used.file_index (role_view used.role) (use_view used.of) (use_view c.in-Some.argument) c.in-Some.ensures.found c.requires.stands.at;
      wanted = tt;
    }
