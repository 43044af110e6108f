use Rattle.std.proofs.Common.{take}
use Rattle.std.specs.List.{AllByRecursion}
use Rattle.fidl_declarations.specs.SiteViews.{sites_view}
use Rattle.fidl_member_rules.specs.Rules.{SiteHolds}
use Rattle.fidl_member_rules.proofs.rules.check_sites.Given as goal

-- the sites so far keep their rules
abbrev pub invariant-loop-site : goal.invariant-loop-site
invariant-loop-site l = AllByRecursion (SiteHolds l.file.src.now) (take l.site-index (sites_view l.sites))
