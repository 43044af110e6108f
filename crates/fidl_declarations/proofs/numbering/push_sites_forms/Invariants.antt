use Rattle.std.proofs.Common.{◌≡◌, ◌++◌, drop}
use Rattle.std.specs.Prelude.{flat_map}
use Rattle.fidl_tree.specs.Views.{file_view}
use Rattle.fidl_declarations.specs.Forms.{site_forms}
use Rattle.fidl_declarations.specs.SiteViews.{sites_view}
use Rattle.fidl_declarations.specs.FormViews.{forms_view}
use Rattle.fidl_declarations.proofs.numbering.push_sites_forms.Given as goal

-- the forms so far and those of the sites to come are all
abbrev pub invariant-loop-site : goal.invariant-loop-site
invariant-loop-site l =
    forms_view l.forms.items ++ flat_map (site_forms l.file_index (file_view l.file)) (sites_view (drop l.site-index l.sites))
    ≡ forms_view l.fn.forms.items ++ flat_map (site_forms l.file_index (file_view l.file)) (sites_view l.sites)
