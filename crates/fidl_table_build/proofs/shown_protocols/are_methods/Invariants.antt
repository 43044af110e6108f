use Rattle.std.proofs.Common.{◌≡◌, ℕ, ◌<◌, ◌+◌, map, slice_get, Some}
use Rattle.fidl_reachable_types.specs.Growing.{reference_view}
use Rattle.fidl_table_build.specs.declared.listing.MethodEntry.{MethodEntry}
use Rattle.fidl_table_build.specs.Methods.{ShowsMethod}
use Rattle.fidl_table_build.proofs.shown_protocols.are_methods.Given as goal

-- the methods so far are as the listing has them
abbrev pub invariant-loop-place : goal.invariant-loop-place
invariant-loop-place l = (k : ℕ) (m : MethodEntry) → k < l.place → slice_get l.methods k ≡ Some m
    → ShowsMethod (map reference_view l.types) l.records m (l.first + k)
