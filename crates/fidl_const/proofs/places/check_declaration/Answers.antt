use Rattle.std.proofs.Common.{◌≡◌, ◌<◌, length, get_or, ap, sym, subst, ◌∙◌, arith}
use Rattle.std.specs.List.{Contains, AllByRecursion}
use Rattle.std.proofs.lemmas.List.{take_all}
use Rattle.std.proofs.lemmas.List.Elements.{Contains-get_or}
use Rattle.std.proofs.lemmas.Result.{err_from_is_err_and}
use Rattle.std.proofs.Math.ListN.{get_or-map, length-map}
use Rattle.fidl_named.specs.Places.{body_places}
use Rattle.fidl_named.specs.PlaceViews.{name_place_view, name_places_view}
use Rattle.fidl_tree.specs.Views.{declared_view}
use Rattle.fidl_consts.specs.Places.{PlaceHolds, PlaceFails, DeclarationFails}
use Rattle.fidl_cycles.proofs.Lists.{all_take}
use Rattle.fidl_consts.proofs.Reports.{reports_more}
use Rattle.fidl_const.proofs.places.check_declaration.Goals as goal

pub returns-in_err-check_place-clause-fault_is_true : goal.returns-in_err-check_place-clause-fault_is_true
returns-in_err-check_place-clause-fault_is_true c =
    let files = c.args.scope.now.file.named.now in
    let f = c.args.scope.now.file.tree.now in
    let body = declared_view c.args.body.now in
    let found = c.deref-place-items.result.now in
    let places = name_places_view found in
    let i = c.loop-place.place-index in
    let place = name_place_view c.place-item.result in
    let lt = c.loop-place-test.true in
    let within : i < length places = omega (arith, length-map found name_place_view) in
    let is : place ≡ get_or places i place = ap name_place_view c.place-item.is ∙ sym (get_or-map name_place_view found i c.place-item.result) in
    let whole : places ≡ body_places body = ap name_places_view c.deref-place-items.ensures.value ∙ c.in_ok-places.ensures in
    let there : Contains (body_places body) place = subst (λ l. Contains l place) whole (subst (Contains places) (sym is) (Contains-get_or places i place within)) in
    let h = reports_more (λ fault. PlaceFails files f c.args.scope.now.file.file_index fault place) (DeclarationFails files f c.args.scope.now.file.file_index body) (λ fault k. record { place = place; stands = there; fails = k }) c.in_err-check_place.field-0.0 c.in_err-check_place.ensures.fault_is_true in
    let p = err_from_is_err_and c.from_residual-in_err-check_place.result c.from_residual-in_err-check_place.ensures.1 in
    rw (p.1, p.2) h

pub loop-place-preserved : goal.loop-place-preserved
loop-place-preserved c =
    let found = c.deref-place-items.result.now in
    let places = name_places_view found in
    let i = c.loop-place.place-index in
    let place = name_place_view c.place-item.result in
    let lt = c.loop-place-test.true in
    let within : i < length places = omega (arith, length-map found name_place_view) in
    let is : place ≡ get_or places i place = ap name_place_view c.place-item.is ∙ sym (get_or-map name_place_view found i c.place-item.result) in
    all_take places i place within is (PlaceHolds c.args.scope.now.file.named.now c.args.scope.now.file.tree.now) c.loop-place.invariant c.in_ok-check_place.ensures.ok

pub returns-clause-ok : goal.returns-clause-ok
returns-clause-ok c =
    let holds = AllByRecursion (PlaceHolds c.args.scope.now.file.named.now c.args.scope.now.file.tree.now) in
    let found = c.deref-place-items.result.now in
    let over = c.loop-place-test.false in
    let all : holds (name_places_view found) = subst holds (take_all c.loop-place.place-index (name_places_view found) (omega (arith, length-map found name_place_view))) c.loop-place.invariant in
    subst holds (ap name_places_view c.deref-place-items.ensures.value ∙ c.in_ok-places.ensures) all
