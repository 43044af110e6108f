use Rattle.std.proofs.Common.{rules}
use Rattle.fidl_layout.proofs.Held.{held_laid}
use Rattle.fidl_protocol.proofs.checking.protocols.Goals as goal

pub returns-clause-kept : goal.returns-clause-kept
returns-clause-kept c =
    let laid = held_laid c.laid.inside.types c.laid.inside.figures c.laid.invariant in
    search (rules, laid)
