use Rattle.fidl_view.proofs.Keyed as keyed
use Rattle.fidl_view.proofs.view.View.unknown.Goals as goal

pub returns : goal.returns
returns c v h =
    let x = c.in-Some.ensures.held v h in
    keyed.raw_member c.unknown.result v c.args.ordinal x.0 x.1 (c.unknown.ensures x.0 x.2)
