-- The first edge of a cycle, found by going back along a trail.
use Rattle.std.proofs.Common.{◌≡◌, ◌<◌, ◌≤◌, ◌-◌, ◌+◌, ℕ, zero, suc, List, [], ◌∷◌, ◌++◌, inl, inr, refl, sym, subst, ◌∙◌, ap, arith, length, take, get_or}
use Rattle.std.specs.Prelude.{◌⊎◌}
use Rattle.std.proofs.lemmas.List.{take_more}
use Rattle.fidl_cycles.specs.declared.cycles.CycleEdge.{CycleEdge}
use Rattle.fidl_cycles.specs.declared.cycles.Frame.{Frame}
use Rattle.fidl_cycles.specs.Cycles.{Leads, step, further, IsEdge, IsEdgeFrom, IsFirstEdge, IsTrail, IsPoint, trail_of}
use Rattle.fidl_cycles.proofs.Trails.{trail_split}

-- one leads to another, or is it
abbrev pub Reaches : {X : Type 0} (R : X → X → Type 0) → X → X → Type 0
Reaches R x y = (x ≡ y) ⊎ Leads R x y

module _ {X : Type 0} where
  pub leads_by : (R Q : X → X → Type 0) → ((x y : X) → R x y → Q x y) → (x y : X) → Leads R x y → Leads Q x y
  leads_by R Q w x y (step a b e) = step a b (w a b e)
  leads_by R Q w x y (further a b c e l) = further a b c (w a b e) (leads_by R Q w b c l)

  pub leads_on : (R : X → X → Type 0) (x y z : X) → Leads R x y → Leads R y z → Leads R x z
  leads_on R x y z (step a b e) l = further a b z e l
  leads_on R x y z (further a b c e k) l = further a b z e (leads_on R b c z k l)

  reaches_by : (R Q : X → X → Type 0) → ((x y : X) → R x y → Q x y) → (x y : X) → Reaches R x y → Reaches Q x y
  reaches_by R Q w x y (inl e) = inl e
  reaches_by R Q w x y (inr l) = inr (leads_by R Q w x y l)

  after_edge : (R : X → X → Type 0) (x y z : X) → R x y → Reaches R y z → Leads R x z
  after_edge R x y z e (inl is) = step x z (subst (R x) is e)
  after_edge R x y z e (inr l) = further x y z e l

  reaches_then : (R : X → X → Type 0) (x y z : X) → Reaches R x y → Leads R y z → Leads R x z
  reaches_then R x y z (inl is) l = subst (λ a. Leads R a z) (sym is) l
  reaches_then R x y z (inr k) l = leads_on R x y z k l

-- an edge from a point that stands no later is one from this point on
lower : (graph : List (List ℕ)) (low high : ℕ) → low ≤ high → (a b : ℕ) → IsEdgeFrom graph high a b → IsEdgeFrom graph low a b
lower graph low high le a b e =
    let one = e.1 in
    let other = e.2 in
    (e.0, omega (arith, one), omega (arith, other))

-- on the way back from a cycle's last point: the next point leads on to the last one and to the first of those met, whose edge leads to the last one or is the last edge
pub record GoesBack (graph : List (List ℕ)) (way : List ℕ) (next point target : ℕ) (first : CycleEdge) : Type 0 where
  pub trail : IsTrail graph way
  pub edge : IsEdge graph first.from first.to
  pub next_later : first.from ≤ next
  pub point_later : first.from ≤ point
  pub to_first : Reaches (IsEdgeFrom graph first.from) next first.from
  pub to_point : Reaches (IsEdgeFrom graph first.from) next point
  pub leads : (first.to ≡ target) ⊎ Reaches (IsEdgeFrom graph first.from) first.to point

module _ (graph : List (List ℕ)) where
  pub sets_out : (way : List ℕ) (point target : ℕ) → IsTrail graph way → IsEdge graph point target → GoesBack graph way point point target (record { from = point; to = target })
  sets_out way point target trail edge = record {
    trail = trail;
    edge = edge;
    next_later = omega arith;
    point_later = omega arith;
    to_first = inl refl;
    to_point = inl refl;
    leads = inl refl;
  }

  module _ (way rest : List ℕ) (next point target before : ℕ) (first : CycleEdge) (h : GoesBack graph way next point target first) (trail : IsTrail graph rest) (edge : IsEdge graph before next) where
    abbrev here : CycleEdge
    here = record { from = before; to = next }

    keeps : first.from ≤ before → GoesBack graph rest before point target first
    keeps le =
        let later = h.next_later in
        let e : IsEdgeFrom graph first.from before next = (edge, le, later) in
        record {
          trail = trail;
          edge = h.edge;
          next_later = le;
          point_later = h.point_later;
          to_first = inr (after_edge (IsEdgeFrom graph first.from) before next first.from e h.to_first);
          to_point = inr (after_edge (IsEdgeFrom graph first.from) before next point e h.to_point);
          leads = h.leads;
        }

    takes : before ≤ first.from → GoesBack graph rest before point target here
    takes le =
        let next_later = h.next_later in
        let point_later = h.point_later in
        let on : Reaches (IsEdgeFrom graph before) next point = reaches_by (IsEdgeFrom graph first.from) (IsEdgeFrom graph before) (lower graph before first.from le) next point h.to_point in
        let e : IsEdgeFrom graph before before next = (edge, omega arith, omega (arith, next_later)) in
        record {
          trail = trail;
          edge = edge;
          next_later = omega arith;
          point_later = omega (arith, point_later);
          to_first = inl refl;
          to_point = inr (after_edge (IsEdgeFrom graph before) before next point e on);
          leads = inr on;
        }

    pub goes_on : (now : CycleEdge) → ((now ≡ first) × (first.from ≤ before)) ⊎ ((now ≡ here) × (before ≤ first.from)) → GoesBack graph rest before point target now
    goes_on now (inl k) = subst (GoesBack graph rest before point target) (sym k.0) (keeps k.1)
    goes_on now (inr k) = subst (GoesBack graph rest before point target) (sym k.0) (takes k.1)

  pub comes_round : (way : List ℕ) (next point target : ℕ) (first : CycleEdge) → GoesBack graph way next point target first → next ≡ target → IsEdge graph point target → IsFirstEdge graph first.from first.to
  comes_round way next point target first h is last = (h.edge, round h.leads)
    where
      by_last : first.to ≡ target → Reaches (IsEdgeFrom graph first.from) next first.from → Leads (IsEdgeFrom graph first.from) first.to first.from
      by_last there (inl back) =
          let self : first.to ≡ first.from = there ∙ sym is ∙ back in
          let e : IsEdgeFrom graph first.from first.from first.to = (h.edge, omega arith, omega (arith, self)) in
          subst (λ a. Leads (IsEdgeFrom graph first.from) a first.from) (sym self) (step first.from first.from (subst (IsEdgeFrom graph first.from first.from) self e))
      by_last there (inr back) = subst (λ a. Leads (IsEdgeFrom graph first.from) a first.from) (is ∙ sym there) back

      round : (first.to ≡ target) ⊎ Reaches (IsEdgeFrom graph first.from) first.to point → Leads (IsEdgeFrom graph first.from) first.to first.from
      round (inl there) = by_last there h.to_first
      round (inr on) =
          let later = h.next_later in
          let e : IsEdgeFrom graph first.from point target = (last, h.point_later, subst (λ a. first.from ≤ a) is later) in
          reaches_then (IsEdgeFrom graph first.from) first.to point first.from on
          (after_edge (IsEdgeFrom graph first.from) point target first.from e (subst (λ a. Reaches (IsEdgeFrom graph first.from) a first.from) is h.to_first))

-- a point of a way that isn't its last has a frame
pub frame_left : (path : List Frame) (i next target : ℕ) → IsPoint (trail_of (take i path) next) target → (next ≡ target → ⊥) → 0 < i
frame_left path zero next target (inl e) other = absurd (other e)
frame_left path zero next target (inr h) other = absurd h
frame_left path (suc i) next target h other = omega arith

-- a way without its last point
pub way_split : (path : List Frame) (i next : ℕ) (d : Frame) → 0 < i → i ≤ length path → trail_of (take i path) next ≡ trail_of (take (i - 1) path) (get_or path (i - 1) d).point ++ next ∷ []
way_split path i next d above within =
    let same : (i - 1) + 1 ≡ i = omega arith in
    let more : take i path ≡ take (i - 1) path ++ get_or path (i - 1) d ∷ [] = ap (λ n. take n path) (sym same) ∙ take_more path (i - 1) d (omega arith) in
    trail_split (take i path) (take (i - 1) path) (get_or path (i - 1) d) next more
