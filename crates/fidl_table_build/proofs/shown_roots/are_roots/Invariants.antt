use Rattle.std.proofs.Common.{◌≡◌, ℕ, ◌<◌, map, slice_get, Some}
use Rattle.fidl_reachable_types.specs.Growing.{reference_view}
use Rattle.fidl_table_build.specs.Roots.{ShowsRoot}
use Rattle.fidl_table_build.proofs.shown_roots.are_roots.Given as goal

-- the roots so far are their definitions
abbrev pub invariant-loop-index : goal.invariant-loop-index
invariant-loop-index l = (k d : ℕ) → k < l.index → slice_get l.roots k ≡ Some d
    → ShowsRoot (map (λ v. v.items) l.names) (map reference_view l.types) l.records d k
