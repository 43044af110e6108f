use Rattle.std.proofs.Common.{◌≡◌, ◌<◌, ◌≤◌, ◌+◌, ◌++◌, ◌∷◌, [], ℕ, List, length, take, get_or, ap, sym, subst, ◌∙◌}
use Rattle.std.specs.Prelude.{slice_get}
use Rattle.std.specs.Global.{Vec}
use Rattle.std.proofs.lemmas.List.{take_all, take_more, map-append}
use Rattle.std.proofs.lemmas.Option.{slice_get-get_or}
use Rattle.fidl_named.specs.declared.place.DeclarationId.{DeclarationId}
use Rattle.fidl_names.specs.AliasGraph.{AreRows}
use Rattle.fidl_cycles.specs.Cycles.{points_of}
use Rattle.fidl_named.proofs.FullNames.{at}
use Rattle.fidl_names.proofs.AliasEdges.{edges_more}
use Rattle.fidl_names.proofs.alias_graph.alias_graph.Goals as goal

pub referred-requires-clause-stands : goal.referred-requires-clause-stands
referred-requires-clause-stands c =
    let items = c.deref-id-items.result.now in
    let i = c.loop-id.id-index in
    c.requires.declared i (get_or items i (at 0 0))
    (ap (λ (l : List DeclarationId). slice_get l i) (sym c.deref-id-items.ensures.value) ∙ slice_get-get_or items i (at 0 0) c.loop-id-test.true)

pub loop-id-preserved : goal.loop-id-preserved
loop-id-preserved c =
    let fs = c.args.names.now.set.now in
    let ps = c.args.numbers.now.ids.items in
    let ss = c.args.numbers.now.starts.items in
    let items = c.deref-id-items.result.now in
    let value = c.deref-id-items.ensures.value in
    let i = c.loop-id.id-index in
    let rows = c.loop-id.graph.items in
    let row = c.in_ok-row.row in
    let p = get_or items i (at 0 0) in
    let inside = c.loop-id-test.true in
    let lt : i < length ps = subst (λ (l : List DeclarationId). i < length l) value inside in
    let more : take (i + 1) ps ≡ take i ps ++ p ∷ [] = take_more ps i (at 0 0) lt ∙ ap (λ (l : List DeclarationId). take i ps ++ get_or l i (at 0 0) ∷ []) (sym value) in
    let now : points_of c.push.new.self.items ≡ points_of rows ++ row.items ∷ [] = ap points_of c.in_ok-push.ensures.items ∙ map-append (λ (v : Vec ℕ). v.items) rows (row ∷ []) in
    subst (λ (l : List DeclarationId). AreRows fs ss l (points_of c.push.new.self.items)) (sym more)
    (subst (AreRows fs ss (take i ps ++ p ∷ [])) (sym now) (edges_more fs ss (take i ps) (points_of rows) p row.items c.loop-id.invariant c.in_ok-row.ensures))

pub returns : goal.returns
returns c =
    let ps = c.args.numbers.now.ids.items in
    let past = c.loop-id-test.false in
    let over = subst (λ (l : List DeclarationId). length l ≤ c.loop-id.id-index) c.deref-id-items.ensures.value past in
    subst (λ (l : List DeclarationId). AreRows c.args.names.now.set.now c.args.numbers.now.starts.items l (points_of c.loop-id.graph.items)) (take_all c.loop-id.id-index ps over) c.loop-id.invariant
