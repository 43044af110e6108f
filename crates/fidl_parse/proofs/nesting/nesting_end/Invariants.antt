use Rattle.std.proofs.Common.{◌≡◌, ℕ, ◌+◌, ◌<◌, ◌≤◌, take}
use Rattle.std.specs.List.{count_by}
use Rattle.fidl_limits.specs.declared.limits.TheConstants.{MAX_SOURCE_BRACKETS}
use Rattle.fidl_tree.specs.Brackets.{opens, closes}
use Rattle.fidl_parse.proofs.nesting.nesting_end.Given as goal

abbrev pub invariant-loop-index : goal.invariant-loop-index
invariant-loop-index l = record {
  opened : l.opened ≡ count_by (λ w. opens w.kind) (take l.index l.words);
  closed : l.closed ≡ count_by (λ w. closes w.kind) (take l.index l.words);
  within : (n : ℕ) → n < l.index + 1 → count_by (λ w. opens w.kind) (take n l.words) ≤ count_by (λ w. closes w.kind) (take n l.words) + MAX_SOURCE_BRACKETS;
}
