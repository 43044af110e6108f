use Rattle.std.proofs.Common.{take}
use Rattle.std.specs.List.{AllByRecursion}
use Rattle.fidl_declarations.specs.SiteViews.{sites_view}
use Rattle.fidl_type_rules.specs.Known.{AreKnownAliases}
use Rattle.fidl_type_rules.specs.Uses.{SiteHolds}
use Rattle.fidl_type_rules.proofs.checking.check_sites.Given as goal

-- what stands at the sites so far keeps the rules
abbrev pub invariant-loop-site : goal.invariant-loop-site
invariant-loop-site l = record {
  kept : AllByRecursion (SiteHolds l.sources.named.now l.file_index) (take l.site-index (sites_view l.sites));
  known : AreKnownAliases l.sources.named.now l.known.keys;
}
