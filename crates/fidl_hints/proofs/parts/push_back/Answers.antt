use Rattle.std.proofs.Common.{sym, arith}
use Rattle.std.proofs.lemmas.List.{length-take-le}
use Rattle.fidl_hints.proofs.parts.push_back.Goals as goal

pub slice_bounds-push_shown-end : goal.slice_bounds-push_shown-end
slice_bounds-push_shown-end c = let long = c.if-bytes-le-BACK.false in sym (length-take-le 40 c.args.bytes.now (omega (arith, long)))
