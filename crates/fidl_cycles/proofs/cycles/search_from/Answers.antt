use Rattle.std.proofs.Common.{◌<◌, ◌++◌, ◌∷◌, [], ℕ, true, false, get_or, set, refl, sym, ap, subst, ◌∙◌, arith, inl, inr, true≢false, length-set}
use Rattle.std.specs.Prelude.{◌⊎◌, map}
use Rattle.std.specs.List.{Contains, AllByRecursion}
use Rattle.fidl_cycles.specs.declared.cycles.Frame.{Frame}
use Rattle.fidl_cycles.specs.Cycles.{IsMarked, IsOrdered, IsTrail, IsPoint, points_of, trail_of}
use Rattle.fidl_cycles.proofs.Trails.{row_is, edge_to, target_of, each_marked, finished, trail_less, trail_more, trail_split, IsPassed, still_marked, marked_here, marked_before, point_before, point_last, point_cases, passed_still, all_front, all_last, all_more, all_weaker, unmarked_less, target_edge, target_is}
use Rattle.fidl_cycles.proofs.Orders.{order_more}
use Rattle.fidl_cycles.proofs.cycles.search_from.Goals as goal

pub first_open-requires-clause-within : goal.first_open-requires-clause-within
first_open-requires-clause-within c = λ t h.
    let row = c.index-graph-point.result in
    let e = edge_to c.args.graph.now c.loop-done.point row c.loop-done.invariant.here.0 c.index-graph-point.is t (subst (λ l. Contains l t) c.deref.ensures.value h) in
    subst (λ n. t < n) (sym c.loop-done.invariant.all_done) (c.requires.edges c.loop-done.point t e)

pub first_open-requires-clause-passed : goal.first_open-requires-clause-passed
first_open-requires-clause-passed c = λ k lt.
    let row = c.index-graph-point.result in
    let items = row_is c.args.graph.now c.loop-done.point row c.loop-done.invariant.here.0 c.index-graph-point.is ∙ sym c.deref.ensures.value in
    subst (λ l. IsMarked c.loop-done.done (get_or l k 0)) items (c.loop-done.invariant.here.1 k lt)

pub returns-in-None-pop-clause-sound : goal.returns-in-None-pop-clause-sound
returns-in-None-pop-clause-sound c = λ _.
    let row = c.index-graph-point.result in
    let graph = c.args.graph.now in
    let point = c.loop-done.point in
    let inv = c.loop-done.invariant in
    finished (points_of graph) c.loop-done.done point (subst (λ n. point < n) (sym inv.all_done) inv.here.0) inv.sound
    (λ b e. each_marked c.loop-done.done c.deref.result.now (c.in-None.ensures.none refl) b (subst (λ l. Contains l b) (sym c.deref.ensures.value) (target_of graph point row inv.here.0 c.index-graph-point.is b e)))

pub bounds-seen-target : goal.bounds-seen-target
bounds-seen-target c =
    let graph = c.args.graph.now in
    let point = c.loop-done.point in
    let inv = c.loop-done.invariant in
    let target = c.index-target.result.now in
    let edge = target_edge graph point c.index-graph-point.result c.index-graph-point-in-Some.result inv.here.0 c.index-graph-point.is c.index-graph-point-in-Some.is c.deref.result.now c.deref.ensures.value c.in-Some.i target c.in-Some.ensures.inside c.index-target.ensures in
    subst (λ n. target < n) (sym inv.all_seen) (c.requires.edges point target edge)

pub bounds-seen-target-in-Some : goal.bounds-seen-target-in-Some
bounds-seen-target-in-Some c =
    let graph = c.args.graph.now in
    let point = c.loop-done.point in
    let inv = c.loop-done.invariant in
    let target = c.index-target.result.now in
    let edge = target_edge graph point c.index-graph-point.result c.index-graph-point-in-Some.result inv.here.0 c.index-graph-point.is c.index-graph-point-in-Some.is c.deref.result.now c.deref.ensures.value c.in-Some.i target c.in-Some.ensures.inside c.index-target.ensures in
    subst (λ n. target < n) (sym inv.all_seen) (c.requires.edges point target edge)

pub returns-then-seen-target-clause-cycle : goal.returns-then-seen-target-clause-cycle
returns-then-seen-target-clause-cycle c =
    let graph = c.args.graph.now in
    let point = c.loop-done.point in
    let inv = c.loop-done.invariant in
    let target = c.index-target.result.now in
    let edge = target_edge graph point c.index-graph-point.result c.index-graph-point-in-Some.result inv.here.0 c.index-graph-point.is c.index-graph-point-in-Some.is c.deref.result.now c.deref.ensures.value c.in-Some.i target c.in-Some.ensures.inside c.index-target.ensures in
    let way = sym c.deref-then-seen-target.ensures.value in
    c.first_edge.ensures (points_of graph) (subst (λ l. IsTrail (points_of graph) (trail_of l point)) way inv.trail) edge

pub first_edge-requires : goal.first_edge-requires
first_edge-requires c =
    let graph = c.args.graph.now in
    let point = c.loop-done.point in
    let inv = c.loop-done.invariant in
    let target = c.index-target.result.now in
    let the_target = target_is graph point c.index-graph-point.result c.index-graph-point-in-Some.result inv.here.0 c.index-graph-point.is c.index-graph-point-in-Some.is c.deref.result.now c.deref.ensures.value c.in-Some.i target c.in-Some.ensures.inside c.index-target.ensures in
    let way = sym c.deref-then-seen-target.ensures.value in
    subst (λ l. IsPoint (trail_of l point) target) way (elim (inv.known target c.if-seen-target.true) as (λ _. IsPoint (trail_of c.loop-done.path.items point) target) [
      | inl done ↦ absurd (true≢false (sym done ∙ ap (λ t. get_or c.loop-done.done t false) (sym the_target) ∙ c.in-Some.ensures.open))
      | inr on ↦ on
    ])

pub returns-in-None-pop-clause-ordered : goal.returns-in-None-pop-clause-ordered
returns-in-None-pop-clause-ordered c = λ _.
    let row = c.index-graph-point.result in
    let graph = c.args.graph.now in
    let point = c.loop-done.point in
    let inv = c.loop-done.invariant in
    subst (IsOrdered (points_of graph) (set c.loop-done.done point true)) (sym c.in_ok-push-in-None.ensures.items)
    (order_more (points_of graph) c.loop-done.done c.loop-done.order.items point (subst (λ n. point < n) (sym inv.all_done) inv.here.0) inv.ordered
    (λ b e. each_marked c.loop-done.done c.deref.result.now (c.in-None.ensures.none refl) b (subst (λ l. Contains l b) (sym c.deref.ensures.value) (target_of graph point row inv.here.0 c.index-graph-point.is b e))))

pub loop-done-smaller : goal.loop-done-smaller
loop-done-smaller c =
    let graph = c.args.graph.now in
    let point = c.loop-done.point in
    let inv = c.loop-done.invariant in
    let target = c.index-target.result.now in
    let edge = target_edge graph point c.index-graph-point.result c.index-graph-point-in-Some.result inv.here.0 c.index-graph-point.is c.index-graph-point-in-Some.is c.deref.result.now c.deref.ensures.value c.in-Some.i target c.in-Some.ensures.inside c.index-target.ensures in
    let lt = subst (λ n. target < n) (sym inv.all_seen) (c.requires.edges point target edge) in
    let less = unmarked_less c.loop-done.seen target lt c.if-seen-target.false in
    let longer = c.in_ok-push-in-Some.ensures.len in
    omega (arith, less, longer)

pub loop-done-preserved : goal.loop-done-preserved
loop-done-preserved c =
    let graph = c.args.graph.now in
    let point = c.loop-done.point in
    let inv = c.loop-done.invariant in
    let target = c.index-target.result.now in
    let edge = target_edge graph point c.index-graph-point.result c.index-graph-point-in-Some.result inv.here.0 c.index-graph-point.is c.index-graph-point-in-Some.is c.deref.result.now c.deref.ensures.value c.in-Some.i target c.in-Some.ensures.inside c.index-target.ensures in
    let within = c.requires.edges point target edge in
    let lt = subst (λ n. target < n) (sym inv.all_seen) within in
    let path = c.loop-done.path.items in
    let frame : Frame = record { point = point; next = c.in-Some.i } in
    let longer = c.in_ok-push-in-Some.ensures.items in
    let split = trail_split c.push-in-Some.new.self.items path frame target longer in
    let points = trail_of path point in
    let row = row_is graph point c.index-graph-point.result inv.here.0 c.index-graph-point.is ∙ sym c.deref.ensures.value in
    let passed : IsPassed graph c.loop-done.done point c.in-Some.i = (inv.here.0, λ k below. subst (λ l. IsMarked c.loop-done.done (get_or l k 0)) (sym row) (c.in-Some.ensures.passed k below)) in
    let met : (t : ℕ) → IsMarked (set c.loop-done.seen target true) t → IsMarked c.loop-done.done t ⊎ IsPoint (points ++ target ∷ []) t =
    λ t h. elim (marked_before c.loop-done.seen target t h) as (λ _. IsMarked c.loop-done.done t ⊎ IsPoint (points ++ target ∷ []) t) [
      | inl is ↦ inr (point_last points target t (sym is))
      | inr old ↦ elim (inv.known t old) as (λ _. IsMarked c.loop-done.done t ⊎ IsPoint (points ++ target ∷ []) t) [
        | inl done ↦ inl done
        | inr on ↦ inr (point_before points target t on)
      ]
    ] in
    record {
      all_seen = length-set c.loop-done.seen target true ∙ inv.all_seen;
      all_done = inv.all_done;
      sound = inv.sound;
      trail = subst (IsTrail (points_of graph)) (sym split) (trail_more (points_of graph) (map (λ (f : Frame). f.point) path) point target inv.trail edge);
      known = λ t h. subst (λ l. IsMarked c.loop-done.done t ⊎ IsPoint l t) (sym split) (met t h);
      frames = subst (AllByRecursion (λ (f : Frame). IsPassed graph c.loop-done.done f.point f.next)) (sym longer) (all_more (λ (f : Frame). IsPassed graph c.loop-done.done f.point f.next) path frame inv.frames passed);
      here = (within, λ k below. absurd (omega (arith, below)));
      ordered = inv.ordered;
      kept = inv.kept;
      root = still_marked c.loop-done.seen target lt c.args.root inv.root;
    }

pub loop-done-preserved-in-Some-pop : goal.loop-done-preserved-in-Some-pop
loop-done-preserved-in-Some-pop c =
    let graph = c.args.graph.now in
    let point = c.loop-done.point in
    let inv = c.loop-done.invariant in
    let row = c.index-graph-point.result in
    let done = c.loop-done.done in
    let lt = subst (λ n. point < n) (sym inv.all_done) inv.here.0 in
    let front = c.pop.new.self.items in
    let frame = c.in-Some-pop.frame in
    let longer = c.in-Some-pop.ensures.items in
    let split = trail_split c.loop-done.path.items front frame point longer in
    let points = trail_of front frame.point in
    let held = subst (AllByRecursion (λ (f : Frame). IsPassed graph done f.point f.next)) longer inv.frames in
    let more = passed_still graph done point lt in
    let met : (t : ℕ) → IsMarked c.loop-done.seen t → IsMarked (set done point true) t ⊎ IsPoint points t =
    λ t h. elim (inv.known t h) as (λ _. IsMarked (set done point true) t ⊎ IsPoint points t) [
      | inl old ↦ inl (still_marked done point lt t old)
      | inr on ↦ elim (point_cases points point t (subst (λ l. IsPoint l t) split on)) as (λ _. IsMarked (set done point true) t ⊎ IsPoint points t) [
        | inl before ↦ inr before
        | inr is ↦ inl (subst (IsMarked (set done point true)) is (marked_here done point lt))
      ]
    ] in
    record {
      all_seen = inv.all_seen;
      all_done = length-set done point true ∙ inv.all_done;
      sound = finished (points_of graph) done point lt inv.sound
          (λ b e. each_marked done c.deref.result.now (c.in-None.ensures.none refl) b (subst (λ l. Contains l b) (sym c.deref.ensures.value) (target_of graph point row inv.here.0 c.index-graph-point.is b e)));
      trail = trail_less (points_of graph) points point (subst (IsTrail (points_of graph)) split inv.trail);
      known = met;
      frames = all_weaker (λ (f : Frame). IsPassed graph done f.point f.next) (λ (f : Frame). IsPassed graph (set done point true) f.point f.next) (λ f. more f.point f.next) front (all_front (λ (f : Frame). IsPassed graph done f.point f.next) front frame held);
      ordered = subst (IsOrdered (points_of graph) (set done point true)) (sym c.in_ok-push-in-None.ensures.items)
          (order_more (points_of graph) done c.loop-done.order.items point lt inv.ordered
          (λ b e. each_marked done c.deref.result.now (c.in-None.ensures.none refl) b (subst (λ l. Contains l b) (sym c.deref.ensures.value) (target_of graph point row inv.here.0 c.index-graph-point.is b e))));
      here = more frame.point frame.next (all_last (λ (f : Frame). IsPassed graph done f.point f.next) front frame held);
      kept = λ t h. still_marked done point lt t (inv.kept t h);
      root = inv.root;
    }
