use Rattle.std.proofs.Common.{◌≡◌, map, take}
use Rattle.fidl_reachable_types.specs.Growing.{reference_view, types_of}
use Rattle.fidl_table_build.proofs.assembling.types_of.Given as goal

-- the types before this place
abbrev pub invariant-loop-place : goal.invariant-loop-place
invariant-loop-place l = map reference_view l.types.items ≡ take l.place (types_of l.list)
