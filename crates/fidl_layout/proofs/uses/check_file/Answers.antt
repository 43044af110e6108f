use Rattle.std.proofs.Common.{◌∙◌, List, ap, subst}
use Rattle.std.specs.List.{Contains}
use Rattle.fidl_declarations.specs.Sites.{Site}
use Rattle.fidl_declarations.specs.SiteViews.{sites_view}
use Rattle.fidl_layout.proofs.uses.check_file.Goals as goal

pub check_sites-requires-clause-stand : goal.check_sites-requires-clause-stand
check_sites-requires-clause-stand c = λ site among.
    let sites = ap sites_view c.deref.ensures.value ∙ c.in_ok-sites.ensures.ok in
    record { f = c.file.result.now; file_at = c.file.ensures; among = subst (λ (l : List Site). Contains l site) sites among }
