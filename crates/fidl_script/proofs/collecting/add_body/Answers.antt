use Rattle.std.proofs.Common.{◌≡◌, ◌<◌, List, [], ◌∷◌, ◌++◌, length, get_or, set, sym, ap, ◌∙◌, arith}
use Rattle.std.specs.Global.{Vec}
use Rattle.std.proofs.lemmas.List.{map-set, get_or_default, map_push}
use Rattle.std.proofs.Math.ListN.{get_or-map, length-map}
use Rattle.fidl_encode.specs.declared.message.Message.{Message}
use Rattle.fidl_script.specs.Script.{Body}
use Rattle.fidl_script.specs.Held.{body_view, bodies_view}
use Rattle.fidl_script.specs.Collected.{places_view}
use Rattle.fidl_script.proofs.collecting.add_body.Goals as goal

pub returns : goal.returns
returns c =
    let ms = c.args.places.now in
    let place = c.args.place in
    let row = c.index-places-place.result in
    let asked = c.requires in
    let lt : place < length (places_view ms) = omega (arith, length-map ms (λ (v : Vec Message). bodies_view v.items)) in
    let old : bodies_view row.items ≡ get_or (places_view ms) place [] =
    ap (λ (v : Vec Message). bodies_view v.items) c.index-places-place.is
    ∙ sym (get_or-map (λ (v : Vec Message). bodies_view v.items) ms place row)
    ∙ get_or_default (places_view ms) place (bodies_view row.items) [] lt in
    let more = ap bodies_view (c.in_ok-push.ensures.items ∙ ap (λ (v : Vec Message). v.items ++ c.args.message ∷ []) (sym c.index-places-place.is)) ∙ map_push body_view row.items c.args.message ∙ ap (λ (l : List Body). l ++ body_view c.args.message ∷ []) old in
    map-set (λ (v : Vec Message). bodies_view v.items) ms place c.push.new.self ∙ ap (set (places_view ms) place) more
