use Rattle.std.proofs.Common.{◌≡◌, take}
use Rattle.std.specs.Prelude.{◌≢◌}
use Rattle.std.specs.List.{AllByRecursion, AllPairs}
use Rattle.fidl_tree.specs.Syntax.{bits_kind}
use Rattle.fidl_tree.specs.Views.{kind_view}
use Rattle.fidl_member_rules.specs.Numbers.{IsPowerOfTwo}
use Rattle.fidl_member_rules.proofs.value_rules.check_numbers.Given as goal

-- the numbers so far are known, differ, and are powers of two of bits
abbrev pub invariant-loop-rank : goal.invariant-loop-rank
invariant-loop-rank l = record {
  so_far : l.known.keys ≡ take l.rank l.numbers;
  differ : AllPairs (λ y z. y ≢ z) (take l.rank l.numbers);
  powers : kind_view l.keyword ≡ bits_kind → AllByRecursion IsPowerOfTwo (take l.rank l.numbers);
}
