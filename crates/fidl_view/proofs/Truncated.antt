-- What is said of a value that exists, without a word of which one.
use Rattle.std.proofs.Common.{◌≡◌}
use Rattle.std.specs.Prelude.{Option, Some, None, IsSome}
use Rattle.std.proofs.Math.Bool.{Bool-set}

pub is_some_prop : {A : Type 0} (o : Option A) (a b : IsSome o) → a ≡ b
is_some_prop None a b = Bool-set _ _ a b
is_some_prop (Some x) a b = Bool-set _ _ a b
