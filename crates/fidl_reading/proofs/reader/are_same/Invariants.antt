use Rattle.std.proofs.Common.{◌≡◌, ℕ, ◌<◌, get_or}
use Rattle.fidl_reading.proofs.reader.are_same.Given as goal

-- the bytes before this one are the same
abbrev pub invariant-loop-i : goal.invariant-loop-i
invariant-loop-i l = record { same : (k : ℕ) → k < l.i → get_or l.bytes k 0 ≡ get_or l.text k 0 }
