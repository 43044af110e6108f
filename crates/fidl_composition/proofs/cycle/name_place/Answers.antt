use Rattle.std.proofs.Common.{get_or, refl}
use Rattle.std.proofs.lemmas.List.Elements.{Contains-get_or}
use Rattle.std.proofs.lemmas.Option.{slice_get-get_or}
use Rattle.fidl_tree.specs.Views.{openness_view, protocol_member_view}
use Rattle.std.specs.Prelude.{map}
use Rattle.fidl_composition.specs.Tables.{at}
use Rattle.fidl_composition.proofs.Nodes.{at_node}
use Rattle.fidl_composition.proofs.cycle.name_place.Goals as goal

pub unreachable-requires : goal.unreachable-requires
unreachable-requires c =
    let id = get_or c.args.ids.now c.args.number (at 0 0) in
    c.in_default.ensures.none refl (c.requires.protocols id (Contains-get_or c.args.ids.now c.args.number (at 0 0) c.requires.within))

pub returns : goal.returns
returns c =
    let id = get_or c.args.ids.now c.args.number (at 0 0) in
    let d = c.in-Some.protocol.now in
    let node = c.in-Some.ensures.found in
    record {
      id = id;
      file = node.file;
      openness = openness_view d.openness;
      name = d.name;
      members = map protocol_member_view d.members.items;
      number_at = slice_get-get_or c.args.ids.now c.args.number (at 0 0) c.requires.within;
      is = at_node c.args.named.now id d node;
      place_is = refl;
    }
