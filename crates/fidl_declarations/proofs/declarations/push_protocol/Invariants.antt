use Rattle.std.proofs.Common.{◌≡◌, ◌++◌, drop, map}
use Rattle.std.specs.Prelude.{flat_map}
use Rattle.fidl_tree.specs.Views.{protocol_member_view}
use Rattle.fidl_declarations.specs.Sites.{protocol_sites}
use Rattle.fidl_declarations.specs.SiteViews.{sites_view}
use Rattle.fidl_declarations.proofs.declarations.push_protocol.Given as goal

-- the sites so far and those of the members to come are all
abbrev pub invariant-loop-member : goal.invariant-loop-member
invariant-loop-member l =
    sites_view l.sites.items ++ flat_map (protocol_sites l.path.items) (map protocol_member_view (drop l.member-index l.members))
    ≡ sites_view l.fn.sites.items ++ flat_map (protocol_sites l.path.items) (map protocol_member_view l.members)
