use Rattle.std.proofs.Common.{rules}
use Rattle.fidl_declarations.specs.SiteViews.{site_view, sites_view}
use Rattle.fidl_member_rules.specs.Rules.{SiteHolds, SiteBreaks}
use Rattle.fidl_declarations.proofs.Items.{among_seen, all_seen}
use Rattle.fidl_member_rules.proofs.Reports.{report_one}
use Rattle.fidl_member_rules.proofs.rules.check_sites.Goals as goal

pub returns-in_err-check_site-clause-fault_is_true : goal.returns-in_err-check_site-clause-fault_is_true
returns-in_err-check_site-clause-fault_is_true c =
    let among = among_seen site_view c.args.sites.now c.loop-site.site-index c.site-item.result c.loop-site-test.true c.site-item.is in
    let h = report_one (SiteBreaks c.args.file.now.src.now) (sites_view c.args.sites.now) (site_view c.site-item.result) among c.args.file_index c.in_err-check_site.field-0.0 c.in_err-check_site.ensures.fault_is_true in
    search (rules, h)

pub loop-site-preserved : goal.loop-site-preserved
loop-site-preserved c = all_seen site_view c.args.sites.now c.loop-site.site-index c.site-item.result c.loop-site-test.true c.site-item.is (SiteHolds c.args.file.now.src.now) c.loop-site.invariant c.in_ok-check_site.ensures.ok
