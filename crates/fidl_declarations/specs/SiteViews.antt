-- The sites of the walk as the code has them.
use Rattle.std.specs.Prelude.{List, map, option_copied}
use Rattle.fidl_tree.specs.Syntax.{layout_type}
use Rattle.fidl_tree.specs.Views.{path_view, named_view, layout_view, constraints_view, body_view}
use Rattle.fidl_tree.specs.Views.{response_view, attributes_view}
use Rattle.fidl_declarations.specs.declared.site.Role as code
use Rattle.fidl_declarations.specs.declared.site.Role.TheVariants.{Any, Aliased, Bare, Present}
use Rattle.fidl_declarations.specs.declared.site.Role.TheVariants.{Service, SecondArgument}
use Rattle.fidl_declarations.specs.declared.site.Site.{Site as CodeSite}
use Rattle.fidl_declarations.specs.declared.site.Site.TheVariants.{Named, Written, Layout, Result}
use Rattle.fidl_declarations.specs.declared.site.Site.TheVariants.{EmptyResponse, Attributes}
use Rattle.fidl_declarations.specs.Sites.{Role, any_type, aliased_type, bare_type, present_type}
use Rattle.fidl_declarations.specs.Sites.{service_type, second_argument}
use Rattle.fidl_declarations.specs.Sites.{Site, type_site, layout_site, result_site}
use Rattle.fidl_declarations.specs.Sites.{empty_response_site, attributes_site}

abbrev pub role_view : code.Role → Role
role_view Any = any_type
role_view Aliased = aliased_type
role_view Bare = bare_type
role_view Present = present_type
role_view Service = service_type
role_view (SecondArgument head) = second_argument (path_view head.now)

-- a site of the code, with the plain data of what its references lead to
abbrev pub site_view : CodeSite → Site
site_view (Named role named) = type_site (role_view role) (named_view named.now)
site_view (Written role layout constraints) =
    let l = layout_view layout.now in
    type_site (role_view role) (layout_type l.0 l.1 (constraints_view (option_copied constraints)))
site_view (Layout path body) = layout_site path.items (body_view body.now)
site_view (Result path strict response) =
    result_site path.items strict (response_view response.now)
site_view (EmptyResponse path) = empty_response_site path.items
site_view (Attributes attributes) = attributes_site (attributes_view attributes.now)

-- the same of each
abbrev pub sites_view : List CodeSite → List Site
sites_view sites = map site_view sites
