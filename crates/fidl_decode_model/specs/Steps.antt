-- How many steps a call counts.
use Rattle.std.specs.Prelude.{ℕ, ◌+◌, ◌≤◌}

-- a call that begins and ends at these numbers counts so many steps at least, and so many at most
pub record Spends (old new low high : ℕ) : Type 0 where
  pub least : old + low ≤ new
  pub most : new ≤ old + high
