use Rattle.std.proofs.Common.{◌≡◌, ◌++◌, map, drop}
use Rattle.fidl_tree.specs.Syntax.{ValueMember}
use Rattle.fidl_tree.specs.Views.{value_member_view}
use Rattle.fidl_declarations.specs.Sites.{attributes_site}
use Rattle.fidl_declarations.specs.SiteViews.{sites_view}
use Rattle.fidl_declarations.proofs.walk.push_value_members.Given as goal

-- the sites so far and those of the members to come are all
abbrev pub invariant-loop-member : goal.invariant-loop-member
invariant-loop-member l =
    sites_view l.sites.items ++ map (λ (m : ValueMember). attributes_site m.attributes) (map value_member_view (drop l.member-index l.members))
    ≡ sites_view l.fn.sites.items ++ map (λ (m : ValueMember). attributes_site m.attributes) (map value_member_view l.members)
