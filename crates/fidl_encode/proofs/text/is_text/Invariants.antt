use Rattle.std.proofs.Common.{ℕ, ◌<◌, get_or}
use Rattle.fidl_encode.proofs.text.is_text.Given as goal

-- the bytes before this one are ASCII
abbrev pub invariant-loop-i : goal.invariant-loop-i
invariant-loop-i l = record { ascii : (k : ℕ) → k < l.i → get_or l.text k 0 < 128 }
