use Rattle.fidl_bench.proofs.encoding.encode_again.Goals as goal

pub encode_once-requires-clause-encoded : goal.encode_once-requires-clause-encoded
encode_once-requires-clause-encoded c = (_, c.loop.invariant)
