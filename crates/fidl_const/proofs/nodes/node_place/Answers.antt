use Rattle.std.proofs.Common.{refl, subst}
use Rattle.fidl_consts.specs.Dependencies.{IsKnownNode}
use Rattle.fidl_consts.proofs.KnownNodes.{member_node}
use Rattle.fidl_const.proofs.nodes.node_place.Goals as goal

pub returns-in_err-found-in-Member : goal.returns-in_err-found-in-Member
returns-in_err-found-in-Member c = λ f place h.
    let files = c.args.named.now in
    let known = subst (IsKnownNode files) c.in-Member.is (record { file = f; place = place; is = h }) in
    let it = member_node files c.in-Member.of c.in-Member.number known in
    absurd (c.in_err-found-in-Member.ensures.none refl it.0 it.1 it.2 it.3 it.4)
