use Rattle.std.proofs.Common.{sym, subst}
use Rattle.std.proofs.Math.Logic.{∥∥₁_map, ∥∥₁_elim}
use Rattle.std.proofs.Math.Bridge.{le_prop}
use Rattle.fidl_view.specs.Shows.{Shows}
use Rattle.fidl_view.proofs.Lists as lists
use Rattle.fidl_view.proofs.Keyed as keyed
use Rattle.fidl_view.proofs.envelope.Envelope.part.Goals as goal

pub invariant_of-result : goal.invariant_of-result
invariant_of-result c =
    let e = c.args.self in
    let d = e.decoded.now in
    let w = c.content_place.ensures.well_formed in
    let place = c.content_place.ensures.place in
    record {
      in_range = c.requires.below;
      room = ∥∥₁_elim e.shown le_prop (λ h. let x = keyed.known_shown d w e.index e.ordinal e.place c.args.entry c.requires.below c.requires.known h.0 h.1 in
          lists.shows_room d w c.args.entry c.content_place.result x.0 c.requires.below (subst (λ k. Shows d c.args.entry k x.0) (sym place) x.2));
      short = e.short;
      shown = ∥∥₁_map e.shown (λ h. let x = keyed.known_shown d w e.index e.ordinal e.place c.args.entry c.requires.below c.requires.known h.0 h.1 in
          (x.0, subst (λ k. Shows d c.args.entry k x.0) (sym place) x.2));
    }

pub returns-clause-part : goal.returns-clause-part
returns-clause-part c x h =
    let e = c.args.self in
    let d = e.decoded.now in
    let y = keyed.known_shown d c.content_place.ensures.well_formed e.index e.ordinal e.place c.args.entry c.requires.below c.requires.known x h in
    (y.0, y.1, subst (λ k. Shows d c.args.entry k y.0) (sym c.content_place.ensures.place) y.2)
