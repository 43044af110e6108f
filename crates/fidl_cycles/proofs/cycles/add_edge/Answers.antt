use Rattle.std.proofs.Common.{◌≡◌, ◌<◌, ℕ, List, [], ◌∷◌, ◌++◌, length, get_or, set, sym, ap, subst, ◌∙◌, arith}
use Rattle.std.specs.Prelude.{◌⊎◌, ◌↔◌}
use Rattle.std.specs.Global.{Vec}
use Rattle.std.proofs.lemmas.List.{map-set, get_or_default}
use Rattle.std.proofs.Math.ListN.{get_or-map, length-map}
use Rattle.fidl_cycles.specs.Cycles.{IsEdge, points_of}
use Rattle.fidl_cycles.proofs.Edges.{edge_more}
use Rattle.fidl_cycles.proofs.cycles.add_edge.Goals as goal

pub returns : goal.returns
returns c =
    let g = c.args.graph.now in
    let from = c.args.from in
    let to = c.args.to in
    let row = c.index-graph-from.result in
    let asked = c.requires in
    let lt : from < length (points_of g) = omega (arith, length-map g (λ (v : Vec ℕ). v.items)) in
    let old : row.items ≡ get_or (points_of g) from [] =
    ap (λ (v : Vec ℕ). v.items) c.index-graph-from.is
    ∙ sym (get_or-map (λ (v : Vec ℕ). v.items) g from row)
    ∙ get_or_default (points_of g) from row.items [] lt in
    let more = c.in_ok-push.ensures.items ∙ ap (λ (v : Vec ℕ). v.items ++ to ∷ []) (sym c.index-graph-from.is) ∙ ap (λ l. l ++ to ∷ []) old in
    let all = map-set (λ (v : Vec ℕ). v.items) g from c.push.new.self ∙ ap (set (points_of g) from) more in
    subst (λ (l : List (List ℕ)). (one other : ℕ) → IsEdge l one other ↔ (IsEdge (points_of g) one other ⊎ ((one ≡ from) × (other ≡ to)))) (sym all) (edge_more (points_of g) from to lt)
