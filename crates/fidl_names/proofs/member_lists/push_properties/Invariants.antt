use Rattle.std.proofs.Common.{◌≡◌, ◌++◌, map, drop}
use Rattle.fidl_tree.specs.Syntax.{members_of}
use Rattle.fidl_tree.specs.Views.{property_view}
use Rattle.fidl_named.specs.Spots.{members_spots}
use Rattle.fidl_names.specs.MemberLists.{held, lists_of}
use Rattle.fidl_named.specs.MemberNames.{own_names}
use Rattle.fidl_names.proofs.member_lists.push_properties.Given as goal

-- the lists and the names so far and those of the properties to come are all
abbrev pub invariant-loop-property : goal.invariant-loop-property
invariant-loop-property l = record {
  inside : held l.lists.items ++ lists_of (members_spots (members_of (map property_view (drop l.property-index l.properties))))
      ≡ held l.fn.lists.items ++ lists_of (members_spots (members_of (map property_view l.properties)));
  own : l.names.items ++ own_names (members_of (map property_view (drop l.property-index l.properties)))
      ≡ own_names (members_of (map property_view l.properties));
}
