-- Points of a graph that are reached from one, as the code lists them, and nothing of the language.
use Rattle.std.specs.Prelude.{ℕ, ◌≡◌, ◌≢◌, ◌<◌, ◌⊎◌, ◌↔◌, ◌++◌, List, Some, slice_get}
use Rattle.std.specs.List.{Contains, AllPairs}
use Rattle.fidl_cycles.specs.Cycles.{Leads, IsEdge}

-- a point leads to another, or is it
abbrev pub ReachesIn : (graph : List (List ℕ)) → ℕ → ℕ → Type 0
ReachesIn graph a b = (a ≡ b) ⊎ Leads (IsEdge graph) a b

-- no number stands twice in a list
abbrev pub AreDistinct : List ℕ → Type 0
AreDistinct = AllPairs (λ x y. x ≢ y)

-- all of these points stand in a list, with those that stood there before and no others
pub record GrowsBy (old new targets : List ℕ) : Type 0 where
  pub added : List ℕ
  pub is : new ≡ old ++ added
  pub only : (t : ℕ) → Contains added t → Contains targets t
  pub has : (t : ℕ) → Contains targets t → Contains new t
  pub once : AreDistinct old → AreDistinct new

-- all that a point leads to stands in a list, with what stood there before and nothing else
pub record GrowsAt (graph : List (List ℕ)) (point : ℕ) (old new : List ℕ) : Type 0 where
  pub targets : List ℕ
  pub edges : (t : ℕ) → IsEdge graph point t ↔ Contains targets t
  pub grows : GrowsBy old new targets

-- a list on the way to all that a point reaches: it has what its points before a place lead to
pub record IsReaching (graph : List (List ℕ)) (root place : ℕ) (points : List ℕ) : Type 0 where
  pub sound : (t : ℕ) → Contains points t → ReachesIn graph root t
  pub first : slice_get points 0 ≡ Some root
  pub led : (k t u : ℕ) → k < place → slice_get points k ≡ Some t → IsEdge graph t u
      → Contains points u

-- a list of points has just those that a point reaches, itself first
pub record AreReached (graph : List (List ℕ)) (root : ℕ) (points : List ℕ) : Type 0 where
  pub first : slice_get points 0 ≡ Some root
  pub once : AreDistinct points
  pub sound : (t : ℕ) → Contains points t → ReachesIn graph root t
  pub complete : (t : ℕ) → ReachesIn graph root t → Contains points t
