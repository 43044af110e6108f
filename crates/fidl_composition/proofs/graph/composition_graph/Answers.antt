use Rattle.std.proofs.Common.{◌≡◌, ◌≤◌, ◌<◌, ◌+◌, ◌∙◌, ◌∷◌, [], ◌++◌, ℕ, List, length, take, get_or, ap, sym, subst}
use Rattle.std.specs.Global.{Vec}
use Rattle.std.specs.List.{Contains, AllByRecursion}
use Rattle.std.proofs.lemmas.List.{take_all, take_more, map-append, get_or_default}
use Rattle.std.proofs.lemmas.List.Elements.{Contains-get_or}
use Rattle.fidl_named.specs.declared.place.DeclarationId.{DeclarationId}
use Rattle.fidl_cycles.specs.Cycles.{points_of}
use Rattle.fidl_cycles.proofs.Lists.{all_take}
use Rattle.fidl_composition.specs.Compositions.{ProtocolHolds}
use Rattle.fidl_composition.specs.Tables.{at, AreComposedRows}
use Rattle.fidl_composition.proofs.Members.{no_rows, rows_more}
use Rattle.fidl_composition.proofs.graph.composition_graph.Goals as goal

pub row_of-requires-clause-protocol : goal.row_of-requires-clause-protocol
row_of-requires-clause-protocol c =
    let items = c.deref-id-items.result.now in
    let p = get_or items c.loop-id.id-index (at 0 0) in
    c.requires.numbered.protocols.entries p (subst (λ (l : List DeclarationId). Contains l p) c.deref-id-items.ensures.value (Contains-get_or items c.loop-id.id-index (at 0 0) c.loop-id-test.true))

pub loop-id-init : goal.loop-id-init
loop-id-init c =
    let fs = c.args.named.now in
    let ids = c.args.numbers.now.ids.items in
    record {
      rows = subst (λ (l : List (Vec ℕ)). AreComposedRows fs ids [] (points_of l)) (sym c.new-graph.ensures.items) (no_rows fs ids);
      holds = tt;
    }

pub loop-id-preserved : goal.loop-id-preserved
loop-id-preserved c =
    let fs = c.args.named.now in
    let ids = c.args.numbers.now.ids.items in
    let items = c.deref-id-items.result.now in
    let value = c.deref-id-items.ensures.value in
    let i = c.loop-id.id-index in
    let p = get_or items i (at 0 0) in
    let rows = c.loop-id.graph.items in
    let row = c.in_ok-row.row in
    let inside = c.loop-id-test.true in
    let lt : i < length ids = subst (λ (l : List DeclarationId). i < length l) value inside in
    let is : p ≡ get_or ids i p = ap (λ (l : List DeclarationId). get_or l i (at 0 0)) value ∙ get_or_default ids i (at 0 0) p lt in
    let more : take (i + 1) ids ≡ take i ids ++ p ∷ [] = take_more ids i p lt ∙ ap (λ (x : DeclarationId). take i ids ++ x ∷ []) (sym is) in
    let now : points_of c.push.new.self.items ≡ points_of rows ++ row.items ∷ [] = ap points_of c.in_ok-push.ensures.items ∙ map-append (λ (v : Vec ℕ). v.items) rows (row ∷ []) in
    record {
      rows = subst (λ (l : List DeclarationId). AreComposedRows fs ids l (points_of c.push.new.self.items)) (sym more)
          (subst (AreComposedRows fs ids (take i ids ++ p ∷ [])) (sym now) (rows_more fs ids (take i ids) p (points_of rows) row.items c.loop-id.invariant.rows c.in_ok-row.ensures.ok));
      holds = all_take ids i p lt is (ProtocolHolds fs) c.loop-id.invariant.holds c.in_ok-row.ensures.holds;
    }

pub returns-clause-ok : goal.returns-clause-ok
returns-clause-ok c =
    let ids = c.args.numbers.now.ids.items in
    let past = c.loop-id-test.false in
    let over = subst (λ (l : List DeclarationId). length l ≤ c.loop-id.id-index) c.deref-id-items.ensures.value past in
    subst (λ (l : List DeclarationId). AreComposedRows c.args.named.now ids l (points_of c.loop-id.graph.items)) (take_all c.loop-id.id-index ids over) c.loop-id.invariant.rows

pub returns-clause-holds : goal.returns-clause-holds
returns-clause-holds c =
    let ids = c.args.numbers.now.ids.items in
    let past = c.loop-id-test.false in
    let over = subst (λ (l : List DeclarationId). length l ≤ c.loop-id.id-index) c.deref-id-items.ensures.value past in
    subst (AllByRecursion (ProtocolHolds c.args.named.now)) (take_all c.loop-id.id-index ids over) c.loop-id.invariant.holds
