use Rattle.fidl_declarations.specs.SiteViews.{site_view}
use Rattle.fidl_declarations.proofs.Items.{among_seen, all_seen}
use Rattle.fidl_type_rules.specs.Uses.{SiteHolds}
use Rattle.fidl_type_rules.proofs.checking.check_sites.Goals as goal

pub check_site-requires-clause-stands : goal.check_site-requires-clause-stands
check_site-requires-clause-stands c = c.requires.stand (site_view c.site-item.result) (among_seen site_view c.args.sites.now c.loop-site.site-index c.site-item.result c.loop-site-test.true c.site-item.is)

pub loop-site-preserved : goal.loop-site-preserved
loop-site-preserved c = record {
  kept = all_seen site_view c.args.sites.now c.loop-site.site-index c.site-item.result c.loop-site-test.true c.site-item.is (SiteHolds c.args.sources.now.named.now c.args.file_index) c.loop-site.invariant.kept c.in_ok-check_site.ensures.ok;
  known = c.in_ok-check_site.ensures.aliases;
}
