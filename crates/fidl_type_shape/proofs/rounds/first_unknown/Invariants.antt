use Rattle.std.proofs.Common.{ℕ, ◌<◌, true, IsTrue, get_or}
use Rattle.fidl_type_shape.proofs.rounds.first_unknown.Given as goal

-- those so far are known
abbrev pub invariant-loop-number : goal.invariant-loop-number
invariant-loop-number l = (i : ℕ) → i < l.number → IsTrue (get_or l.known i true)
