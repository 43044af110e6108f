use Rattle.std.proofs.Common.{◌≡◌, ◌++◌, drop, map}
use Rattle.std.specs.Prelude.{flat_map}
use Rattle.fidl_tree.specs.Views.{declaration_view}
use Rattle.fidl_declarations.specs.Sites.{declaration_sites}
use Rattle.fidl_declarations.specs.SiteViews.{sites_view}
use Rattle.fidl_declarations.proofs.declarations.push_declarations.Given as goal

-- the sites so far and those of the declarations to come are all
abbrev pub invariant-loop-declaration : goal.invariant-loop-declaration
invariant-loop-declaration l =
    sites_view l.sites.items ++ flat_map declaration_sites (map declaration_view (drop l.declaration-index l.declarations))
    ≡ sites_view l.fn.sites.items ++ flat_map declaration_sites (map declaration_view l.declarations)
