use Rattle.std.proofs.Common.{◌≡◌, ◌∙◌, ℕ, ◌+◌, List, [], ◌∷◌, ◌++◌, Some, map, take, get_or, slice_get, ap, sym}
use Rattle.std.proofs.lemmas.List.{map-append, take_more}
use Rattle.std.proofs.lemmas.Option.{slice_get_within, same_Some, slice_get-get_or}
use Rattle.fidl_wire.specs.Term.{Term}
use Rattle.fidl_reachable_types.specs.Growing.{reference_view, types_of}
use Rattle.fidl_table_build.proofs.assembling.types_of.Goals as goal

further : (ts : List Term) (i : ℕ) (t : Term) → slice_get ts i ≡ Some t → take (i + 1) ts ≡ take i ts ++ t ∷ []
further ts i t at =
    let within = slice_get_within ts i t at in
    let same : get_or ts i t ≡ t = same_Some (get_or ts i t) t (sym (slice_get-get_or ts i t within) ∙ at) in
    take_more ts i t within ∙ ap (λ u. take i ts ++ u ∷ []) same

pub loop-place-preserved : goal.loop-place-preserved
loop-place-preserved c =
    let ts = types_of c.args.list.now in
    let of = c.in-Some.of in
    let at : slice_get ts c.loop-place.place ≡ Some (reference_view of) = sym c.in-Some.ensures in
    ap (map reference_view) c.in_ok-push.ensures.items
    ∙ map-append reference_view c.loop-place.types.items (of ∷ [])
    ∙ ap (λ l. l ++ reference_view of ∷ []) c.loop-place.invariant
    ∙ sym (further ts c.loop-place.place (reference_view of) at)
