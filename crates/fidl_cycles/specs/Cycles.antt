-- Ways along the edges of a graph whose points are numbered: a list has, at each point's number,
-- the points that it leads to at once.
use Rattle.std.specs.Prelude.{ℕ, ◌≡◌, ◌<◌, ◌≤◌, ◌⊎◌, ◌++◌, ◌∷◌, [], Bool, true, false, List, length}
use Rattle.std.specs.Prelude.{map, take, Some, slice_get, slice_index_or}
use Rattle.std.specs.List.{Contains}
use Rattle.std.specs.Global.{Vec}
use Rattle.fidl_cycles.specs.declared.cycles.Frame.{Frame}

-- one leads to another by one step or more
pub data Leads {X : Type 0} (R : X → X → Type 0) : X → X → Type 0 where
  step : (x y : X) → R x y → Leads R x y
  further : (x y z : X) → R x y → Leads R y z → Leads R x z

-- a point leads to another at once
pub record IsEdge (graph : List (List ℕ)) (one other : ℕ) : Type 0 where
  pub targets : List ℕ
  pub stands : slice_get graph one ≡ Some targets
  pub among : Contains targets other

-- one leads to another at once, and neither stands before this point
abbrev pub IsEdgeFrom : (graph : List (List ℕ)) (first : ℕ) → ℕ → ℕ → Type 0
IsEdgeFrom graph first one other = IsEdge graph one other × (first ≤ one) × (first ≤ other)

-- the edge of a cycle that leaves the cycle's first point: its end leads back to its start over
-- points that don't stand before it
abbrev pub IsFirstEdge : (graph : List (List ℕ)) → (one other : ℕ) → Type 0
IsFirstEdge graph one other = IsEdge graph one other × Leads (IsEdgeFrom graph one) other one

-- every point stands in the order, after all those that it leads to at once
pub record IsOrder (graph : List (List ℕ)) (order : List ℕ) : Type 0 where
  pub whole : (point : ℕ) → point < length graph → Contains order point
  pub after : (k one other : ℕ) → slice_get order k ≡ Some one → IsEdge graph one other
      → Contains (take k order) other
  pub points : (point : ℕ) → Contains order point → point < length graph

-- a graph as vectors hold it
abbrev pub points_of : List (Vec ℕ) → List (List ℕ)
points_of graph = map (λ v. v.items) graph

-- each edge leads to a point of the graph
abbrev pub EdgesWithin : List (Vec ℕ) → Type 0
EdgesWithin graph = (one other : ℕ) → IsEdge (points_of graph) one other → other < length graph

-- a point has a mark
abbrev pub IsMarked : List Bool → ℕ → Type 0
IsMarked marks point = slice_index_or marks point false ≡ true

-- no marked point leads to itself, and marked points lead to marked points alone
pub record HasNoCycle (graph : List (List ℕ)) (marks : List Bool) : Type 0 where
  pub closed : (one other : ℕ) → IsMarked marks one → IsEdge graph one other → IsMarked marks other
  pub acyclic : (point : ℕ) → IsMarked marks point → Leads (IsEdge graph) point point → ⊥

-- the marked points stand in the order, each after all those that it leads to at once
pub record IsOrdered (graph : List (List ℕ)) (marks : List Bool) (order : List ℕ) : Type 0 where
  pub whole : (point : ℕ) → IsMarked marks point → Contains order point
  pub after : (k one other : ℕ) → slice_get order k ≡ Some one → IsEdge graph one other
      → Contains (take k order) other
  pub points : (point : ℕ) → Contains order point → IsMarked marks point

-- it is one of these points
abbrev pub IsPoint : List ℕ → ℕ → Type 0
IsPoint [] t = ⊥
IsPoint (x ∷ xs) t = (x ≡ t) ⊎ IsPoint xs t

-- a point leads to the first of these at once
abbrev pub Starts : List (List ℕ) → ℕ → List ℕ → Type 0
Starts graph x [] = Unit {0}
Starts graph x (y ∷ ys) = IsEdge graph x y

-- each leads to the next at once
abbrev pub IsTrail : List (List ℕ) → List ℕ → Type 0
IsTrail graph [] = Unit {0}
IsTrail graph (x ∷ xs) = Starts graph x xs × IsTrail graph xs

-- the points on the way, with the one that it has come to
abbrev pub trail_of : List Frame → ℕ → List ℕ
trail_of path point = map (λ (f : Frame). f.point) path ++ point ∷ []
