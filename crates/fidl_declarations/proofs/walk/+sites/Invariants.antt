-- In each loop the sites so far and those of the parts to come are all sites.
use Rattle.std.proofs.Common.{◌≡◌, ◌++◌, map, drop}
use Rattle.fidl_tree.specs.Syntax.{arguments_of, members_of}
use Rattle.fidl_tree.specs.Views.{next_argument_view, member_view, ordinal_member_view}
use Rattle.fidl_declarations.specs.Sites.{any_type, present_type, further_sites, members_sites}
use Rattle.fidl_declarations.specs.SiteViews.{role_view, sites_view}
use Rattle.fidl_declarations.proofs.walk.+sites.Given as goal

abbrev pub invariant-push_others-loop-next : goal.invariant-push_others-loop-next
invariant-push_others-loop-next l =
    sites_view l.sites.items ++ further_sites l.path.items any_type (arguments_of (map next_argument_view (drop l.next-index l.others)))
    ≡ sites_view l.fn.sites.items ++ further_sites l.path.items any_type (arguments_of (map next_argument_view l.others))

abbrev pub invariant-push_members-loop-member : goal.invariant-push_members-loop-member
invariant-push_members-loop-member l =
    sites_view l.sites.items ++ members_sites l.path.items (role_view l.role) (members_of (map member_view (drop l.member-index l.members)))
    ≡ sites_view l.fn.sites.items ++ members_sites l.path.items (role_view l.role) (members_of (map member_view l.members))

abbrev pub invariant-push_ordinals-loop-member : goal.invariant-push_ordinals-loop-member
invariant-push_ordinals-loop-member l =
    sites_view l.sites.items ++ members_sites l.path.items present_type (members_of (map ordinal_member_view (drop l.member-index l.members)))
    ≡ sites_view l.fn.sites.items ++ members_sites l.path.items present_type (members_of (map ordinal_member_view l.members))
