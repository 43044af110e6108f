use Rattle.std.proofs.Common.{rules}
use Rattle.fidl_verify.proofs.protocol.Protocol.openness.Goals as goal

pub returns-in_default : goal.returns-in_default
returns-in_default c =
    let p = c.self.invariant.0 in
    let known = p.well_formed.protocols c.self.inside.found.index p.within in
    let most = known.openness in
    search (rules, most)
