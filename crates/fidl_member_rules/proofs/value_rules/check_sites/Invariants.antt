use Rattle.std.proofs.Common.{take}
use Rattle.std.specs.List.{AllByRecursion}
use Rattle.fidl_declarations.specs.SiteViews.{sites_view}
use Rattle.fidl_member_rules.specs.ValueRules.{SiteHolds}
use Rattle.fidl_member_rules.proofs.value_rules.check_sites.Given as goal

-- the sites so far keep the rules
abbrev pub invariant-loop-site : goal.invariant-loop-site
invariant-loop-site l = AllByRecursion (SiteHolds l.scope.named.now l.scope.file.now) (take l.site-index (sites_view l.sites))
