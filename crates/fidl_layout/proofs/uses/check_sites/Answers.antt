use Rattle.fidl_declarations.specs.SiteViews.{site_view}
use Rattle.fidl_declarations.proofs.Items.{among_seen, all_seen}
use Rattle.fidl_type_shape.specs.Found.{figures_of}
use Rattle.fidl_layout.specs.Shallow.{SiteFitsAtFirst}
use Rattle.fidl_layout.proofs.uses.check_sites.Goals as goal

pub check_site-requires-clause-stands : goal.check_site-requires-clause-stands
check_site-requires-clause-stands c = c.requires.stand (site_view c.site-item.result) (among_seen site_view c.args.sites.now c.loop-site.site-index c.site-item.result c.loop-site-test.true c.site-item.is)

pub loop-site-preserved : goal.loop-site-preserved
loop-site-preserved c = all_seen site_view c.args.sites.now c.loop-site.site-index c.site-item.result c.loop-site-test.true c.site-item.is (SiteFitsAtFirst c.args.sources.now.named.now (figures_of c.args.figures.now) c.args.file_index) c.loop-site.invariant c.in_ok-check_site.ensures.ok
