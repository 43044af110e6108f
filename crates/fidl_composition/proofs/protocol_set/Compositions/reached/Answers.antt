use Rattle.std.proofs.Common.{◌≡◌, ◌∙◌, ℕ, List, Some, length, ap, sym, subst, arith}
use Rattle.std.specs.Prelude.{◌↔◌, slice_get}
use Rattle.std.specs.List.{Contains}
use Rattle.std.specs.Global.{Vec}
use Rattle.std.proofs.lemmas.Result.{IfOk-weaker}
use Rattle.fidl_tree.specs.declared.file.File.{File}
use Rattle.fidl_named.specs.declared.place.DeclarationId.{DeclarationId}
use Rattle.fidl_cycles.specs.Cycles.{EdgesWithin, points_of}
use Rattle.fidl_composition.specs.Numbers.{AreCompositions, ReachesByNumber}
use Rattle.fidl_composition.specs.Points.{AreDistinct, AreReached}
use Rattle.fidl_composition.proofs.Ways.{reached_all}
use Rattle.fidl_composition.proofs.protocol_set.Compositions.reached.Goals as goal

pub reached_points-requires-clause-edges : goal.reached_points-requires-clause-edges
reached_points-requires-clause-edges c = subst EdgesWithin (sym c.deref.ensures.value) c.self.invariant.0

pub reached_points-requires-clause-within : goal.reached_points-requires-clause-within
reached_points-requires-clause-within c =
    let within = c.requires.within in
    let ids = ap (λ (v : List DeclarationId × List (List ℕ)). length v.0) c.self.view_is in
    let long = c.self.invariant.1 in
    let value = ap length c.deref.ensures.value in
    omega (arith, within, ids, long, value)

pub returns-clause-reached : goal.returns-clause-reached
returns-clause-reached c =
    let value = c.args.self.now in
    let graph : points_of c.deref.result.now ≡ value.1 = ap points_of c.deref.ensures.value ∙ ap (λ (v : List DeclarationId × List (List ℕ)). v.1) c.self.view_is in
    IfOk-weaker c.reached_points.result (λ (p : Vec ℕ). AreReached (points_of c.deref.result.now) c.args.number p.items)
    (λ (p : Vec ℕ). (files : List File) → AreCompositions files value → (t : ℕ) → Contains p.items t ↔ ReachesByNumber files value.0 c.args.number t)
    (λ p h files known. reached_all files value known c.args.number c.requires.within p.items (subst (λ (g : List (List ℕ)). AreReached g c.args.number p.items) graph h)) c.reached_points.ensures

pub returns-clause-first : goal.returns-clause-first
returns-clause-first c =
    IfOk-weaker c.reached_points.result (λ (p : Vec ℕ). AreReached (points_of c.deref.result.now) c.args.number p.items) (λ (p : Vec ℕ). slice_get p.items 0 ≡ Some c.args.number) (λ p h. h.first) c.reached_points.ensures

pub returns-clause-once : goal.returns-clause-once
returns-clause-once c =
    IfOk-weaker c.reached_points.result (λ (p : Vec ℕ). AreReached (points_of c.deref.result.now) c.args.number p.items) (λ (p : Vec ℕ). AreDistinct p.items) (λ p h. h.once) c.reached_points.ensures
