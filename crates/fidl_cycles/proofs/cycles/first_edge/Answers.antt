use Rattle.std.proofs.Common.{◌<◌, ◌-◌, ℕ, List, get_or, take, map, inl, inr, subst, arith}
use Rattle.fidl_cycles.specs.declared.cycles.Frame.{Frame}
use Rattle.fidl_cycles.specs.Cycles.{IsPoint, IsTrail, trail_of}
use Rattle.fidl_cycles.proofs.Trails.{point_cases, trail_less, trail_edge}
use Rattle.fidl_cycles.proofs.Firsts.{goes_on, comes_round, frame_left, way_split}
use Rattle.fidl_cycles.proofs.cycles.first_edge.Goals as goal

pub loop-next-preserved : goal.loop-next-preserved
loop-next-preserved c =
    let path = c.args.path.now in
    let i = c.loop-next.index in
    let next = c.loop-next.next in
    let target = c.args.target in
    let inv = c.loop-next.invariant in
    let other = c.loop-next-test.true in
    let nowhere : Frame = record { point = 0; next = 0 } in
    let before : ℕ = (get_or path (i - 1) nowhere).point in
    let front = take (i - 1) path in
    let points : List ℕ = map (λ (f : Frame). f.point) front in
    let above : 0 < i = frame_left path i next target inv.on other in
    let split = way_split path i next nowhere above inv.within in
    let on : IsPoint (trail_of front before) target =
    elim (point_cases (trail_of front before) next target (subst (λ l. IsPoint l target) split inv.on)) as (λ _. IsPoint (trail_of front before) target) [
      | inl h ↦ h
      | inr is ↦ absurd (other is)
    ] in
    record {
      within = omega arith;
      on = on;
      back = λ graph trail edge.
          let old = inv.back graph trail edge in
          let whole = subst (IsTrail graph) split old.trail in
          goes_on graph (trail_of (take i path) next) (trail_of front before) next c.args.point target before c.loop-next.first old (trail_less graph (trail_of front before) next whole) (trail_edge graph points before next whole) c.earlier-first.result c.earlier-first.ensures;
    }

pub returns : goal.returns
returns c = λ graph trail edge.
    let old = c.loop-next.invariant.back graph trail edge in
    comes_round graph (trail_of (take c.loop-next.index c.args.path.now) c.loop-next.next) c.loop-next.next c.args.point c.args.target c.loop-next.first old c.loop-next-test.false edge
