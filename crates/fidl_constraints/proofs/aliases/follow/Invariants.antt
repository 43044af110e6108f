use Rattle.std.proofs.Common.{◌≡◌, length}
use Rattle.fidl_constraints.specs.BehindViews.{lists_view, use_view}
use Rattle.fidl_constraints.proofs.Walking.{IsReached}
use Rattle.fidl_constraints.proofs.aliases.follow.Given as goal

-- the current type was reached from the first, and each list so far has constraints
abbrev pub invariant-aliases : goal.invariant-aliases
invariant-aliases l = record {
  reached : IsReached l.named l.fn.file_index (use_view l.fn.of) (lists_view l.given.items) l.at (use_view l.current);
  long : length (lists_view l.given.items) ≡ length l.given.items;
}
