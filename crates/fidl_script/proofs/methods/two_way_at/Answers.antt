use Rattle.fidl_script.proofs.Looking.{not_two_way, two_way}
use Rattle.fidl_script.proofs.methods.two_way_at.Goals as goal

pub returns-then-is_two_way-clause-two_way : goal.returns-then-is_two_way-clause-two_way
returns-then-is_two_way-clause-two_way c =
    two_way c.args.protocol.now c.args.place c.in_ok-method.method c.in_ok-method.ensures.table c.in_ok-method.ensures.found c.in_ok-method.ensures.within c.is_two_way.result c.is_two_way.ensures c.if-is_two_way.true

pub returns-else-is_two_way-clause-none : goal.returns-else-is_two_way-clause-none
returns-else-is_two_way-clause-none c =
    not_two_way c.args.protocol.now c.args.place c.in_ok-method.method c.in_ok-method.ensures.table c.in_ok-method.ensures.found c.is_two_way.result c.is_two_way.ensures c.if-is_two_way.false
