use Rattle.std.proofs.Common.{◌+◌, arith}
use Rattle.std.proofs.lemmas.List.{length-drop}
use Rattle.fidl_requests.specs.Frame.{message_length}
use Rattle.fidl_requests.proofs.Framed.{parts_of, its_count}
use Rattle.fidl_requests.proofs.frame.Frame.handle_count.Goals as goal

pub returns-clause-value : goal.returns-clause-value
returns-clause-value c = its_count _ _ _ c.self.view_is c.u32_at.ensures

pub returns-clause-few : goal.returns-clause-few
returns-clause-few c = let p = parts_of _ _ c.self.view_is c.self.invariant in let v = its_count _ _ _ c.self.view_is c.u32_at.ensures in omega (arith, p.few, v)

pub returns-clause-written : goal.returns-clause-written
returns-clause-written c =
    let p = parts_of _ _ c.self.view_is c.self.invariant in
    let v = its_count _ _ _ c.self.view_is c.u32_at.ensures in
    let l = length-drop (8 + message_length c.args.self.now) c.args.self.now in
    omega (arith, p.long, v, l)
