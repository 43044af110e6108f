use Rattle.std.proofs.Common.{refl, subst}
use Rattle.fidl_const.specs.Columns.{UsesSettled}
use Rattle.fidl_const.proofs.Settled.{member_settled}
use Rattle.fidl_const.proofs.FoundValues.{found_member, no_member}
use Rattle.fidl_const.proofs.order.of_node.Goals as goal

pub member_entry-requires-clause-settled : goal.member_entry-requires-clause-settled
member_entry-requires-clause-settled c =
    let fs = c.args.scope.now.named.now in
    let of = c.in-Member.of in
    let x = c.in-Some.found in
    member_settled fs c.args.scope.now.consts.now of x.file.now x.layout.now c.in-Member.number x.member.now c.in-Some.ensures.layout c.in-Some.ensures.member
    (subst (UsesSettled fs c.args.scope.now.consts.now) c.in-Member.is c.requires.settled)

pub returns-in_ok-member_entry-in-Some-clause-ok : goal.returns-in_ok-member_entry-in-Some-clause-ok
returns-in_ok-member_entry-in-Some-clause-ok c =
    let entry = c.in_ok-member_entry-in-Some in
    found_member c.args.scope.now.named.now c.in-Member.of c.in-Member.number c.args.meaning c.in-Member.is entry.field-0 entry.ensures.offers

pub returns-in-None-clause-ok : goal.returns-in-None-clause-ok
returns-in-None-clause-ok c =
    absurd (no_member c.args.scope.now.named.now c.in-Member.of c.in-Member.number c.args.meaning c.in-Member.is (c.in-None.ensures.none refl) c.requires.node)
