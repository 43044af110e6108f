use Rattle.std.proofs.Common.{sym, subst}
use Rattle.fidl_protocol.specs.Starts.{AreStarts}
use Rattle.fidl_protocol.proofs.Starting.{are_starts}
use Rattle.fidl_protocol.proofs.starts.starts.Goals as goal

pub returns-clause-ok : goal.returns-clause-ok
returns-clause-ok c =
    subst (AreStarts c.args.types.now) (sym c.in_ok-push_protocols.ensures) (are_starts c.args.types.now c.args.protocols.now c.requires c.in-Ok.found.items c.in-Ok.ensures.ok)
