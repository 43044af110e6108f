use Rattle.std.proofs.Common.{◌≡◌, take}
use Rattle.std.specs.Prelude.{◌≢◌}
use Rattle.std.specs.List.{AllByRecursion, AllPairs}
use Rattle.fidl_member_rules.specs.Ordinals.{ordinal_numbers, IsOrdinal}
use Rattle.fidl_member_rules.proofs.ordinals.check_ordinals.Given as goal

-- the numbers so far, which may stand and differ
abbrev pub invariant-loop-span : goal.invariant-loop-span
invariant-loop-span l = record {
  so_far : l.numbers.keys ≡ take l.span-index (ordinal_numbers l.file.src.now l.ordinals);
  within : AllByRecursion (IsOrdinal l.last) (take l.span-index (ordinal_numbers l.file.src.now l.ordinals));
  differ : AllPairs (λ m n. m ≢ n) (take l.span-index (ordinal_numbers l.file.src.now l.ordinals));
}
