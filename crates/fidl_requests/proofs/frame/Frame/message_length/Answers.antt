use Rattle.std.proofs.Common.{arith}
use Rattle.fidl_requests.proofs.Framed.{parts_of, its_length}
use Rattle.fidl_requests.proofs.frame.Frame.message_length.Goals as goal

pub returns-clause-value : goal.returns-clause-value
returns-clause-value c = its_length _ _ _ c.self.view_is c.u32_at.ensures

pub returns-clause-short : goal.returns-clause-short
returns-clause-short c = let p = parts_of _ _ c.self.view_is c.self.invariant in let v = its_length _ _ _ c.self.view_is c.u32_at.ensures in omega (arith, p.short, v)

pub returns-clause-within : goal.returns-clause-within
returns-clause-within c = let p = parts_of _ _ c.self.view_is c.self.invariant in let v = its_length _ _ _ c.self.view_is c.u32_at.ensures in omega (arith, p.long, v)
