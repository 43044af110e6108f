use Rattle.std.proofs.Common.{take}
use Rattle.std.specs.List.{AllByRecursion}
use Rattle.fidl_declarations.specs.SiteViews.{sites_view}
use Rattle.fidl_type_shape.specs.Found.{figures_of}
use Rattle.fidl_layout.specs.Shallow.{SiteFitsAtFirst}
use Rattle.fidl_layout.proofs.uses.check_sites.Given as goal

-- what is written at the sites so far is within the limits
abbrev pub invariant-loop-site : goal.invariant-loop-site
invariant-loop-site l = AllByRecursion (SiteFitsAtFirst l.sources.named.now (figures_of l.figures) l.file_index) (take l.site-index (sites_view l.sites))
