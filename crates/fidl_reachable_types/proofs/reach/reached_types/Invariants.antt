use Rattle.std.proofs.Common.{◌≡◌}
use Rattle.fidl_ir.specs.Terms.{definitions_view}
use Rattle.fidl_reachable_types.specs.Growing.{types_of, IsKept, IsReaching}
use Rattle.fidl_reachable_types.proofs.reach.reached_types.Given as goal

-- the list has the roots, and then what the types before this place hold
abbrev pub invariant-loop-place : goal.invariant-loop-place
invariant-loop-place l = record {
  kept : IsKept l.list;
  limit : l.list.limit ≡ l.fn.limit;
  reaching : IsReaching (definitions_view l.definitions) l.roots l.place (types_of l.list);
}
