use Rattle.std.proofs.Common.{◌≡◌, take}
use Rattle.fidl_protocol.specs.Gathered.{rows_at}
use Rattle.fidl_protocol.proofs.gathered.gathered.Given as goal

abbrev pub invariant-loop-number : goal.invariant-loop-number
invariant-loop-number l = l.methods.items ≡ rows_at l.rows (take l.number-index l.numbers)
