use Rattle.std.proofs.Common.{◌≡◌, ◌++◌, drop, map}
use Rattle.fidl_tree.specs.Syntax.{members_of}
use Rattle.fidl_tree.specs.Views.{property_view}
use Rattle.fidl_declarations.specs.Sites.{members_sites, bare_type}
use Rattle.fidl_declarations.specs.SiteViews.{sites_view}
use Rattle.fidl_declarations.proofs.declarations.push_properties.Given as goal

-- the sites so far and those of the properties to come are all
abbrev pub invariant-loop-property : goal.invariant-loop-property
invariant-loop-property l =
    sites_view l.sites.items ++ members_sites l.path.items bare_type (members_of (map property_view (drop l.property-index l.properties)))
    ≡ sites_view l.fn.sites.items ++ members_sites l.path.items bare_type (members_of (map property_view l.properties))
