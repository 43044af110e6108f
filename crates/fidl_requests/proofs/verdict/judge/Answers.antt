use Rattle.std.proofs.Common.{rules}
use Rattle.fidl_requests.proofs.Exits.{without_header, of_unknown, of_wrong_call, of_bad_body, of_two_way_call, of_one_way_call}
use Rattle.fidl_requests.proofs.verdict.judge.Goals as goal

pub returns-in-Err : goal.returns-in-Err
returns-in-Err c = without_header _ _ _ c.message.ensures.value _ c.in-Err.ensures.fault_is_true

pub returns-in_default : goal.returns-in_default
returns-in_default c =
    of_unknown _ _ _ c.message.ensures.value c.in-Ok.header c.in-Ok.ensures.ok c.in-Ok.ensures.value
    _ _ c.openness.ensures c.in_default.ensures.none c.unknown.ensures

pub returns-then-not-is_called_right : goal.returns-then-not-is_called_right
returns-then-not-is_called_right c =
    of_wrong_call _ _ _ c.message.ensures.value c.in-Ok.header c.in-Ok.ensures.ok c.in-Ok.ensures.value
    c.in-Some.method c.in-Some.ensures.table c.in-Some.ensures.some _ c.is_two_way-two_way.ensures
    (λ t. let r = c.is_called_right.ensures.1 t in cc)

pub returns-then-not-is_body : goal.returns-then-not-is_body
returns-then-not-is_body c =
    of_bad_body _ _ _ c.message.ensures.value c.in-Ok.header c.in-Ok.ensures.ok c.in-Ok.ensures.value
    c.in-Some.method c.in-Some.ensures.table c.in-Some.ensures.some _ c.is_two_way-two_way.ensures
    _ c.requires (c.is_called_right.ensures.0 (search rules)) (λ t. let r = c.is_body.ensures.1 t in cc)

pub returns-then-two_way : goal.returns-then-two_way
returns-then-two_way c =
    of_two_way_call _ _ _ c.message.ensures.value c.in-Ok.header c.in-Ok.ensures.ok c.in-Ok.ensures.value
    c.in-Some.method c.in-Some.ensures.table c.in-Some.ensures.some _ c.is_two_way-two_way.ensures
    _ c.requires c.if-two_way.true (c.is_called_right.ensures.0 (search rules)) (c.is_body.ensures.0 (search rules))

pub returns-else-two_way : goal.returns-else-two_way
returns-else-two_way c =
    of_one_way_call _ _ _ c.message.ensures.value c.in-Ok.header c.in-Ok.ensures.ok c.in-Ok.ensures.value
    c.in-Some.method c.in-Some.ensures.table c.in-Some.ensures.some _ c.is_two_way-two_way.ensures
    _ c.requires c.if-two_way.false (c.is_called_right.ensures.0 (search rules)) (c.is_body.ensures.0 (search rules))
