use Rattle.std.proofs.Common.{◌≡◌, ◌++◌, drop, map}
use Rattle.fidl_tree.specs.Views.{import_view}
use Rattle.fidl_declarations.specs.Sites.{import_site}
use Rattle.fidl_declarations.specs.SiteViews.{sites_view}
use Rattle.fidl_declarations.proofs.declarations.push_imports.Given as goal

-- the sites so far and those of the imports to come are all
abbrev pub invariant-loop-import : goal.invariant-loop-import
invariant-loop-import l =
    sites_view l.sites.items ++ map import_site (map import_view (drop l.import-index l.imports))
    ≡ sites_view l.fn.sites.items ++ map import_site (map import_view l.imports)
