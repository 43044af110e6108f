use Rattle.std.proofs.Common.{◌∙◌, Option, ap, inl, inr, sym, subst, true≢false}
use Rattle.std.specs.Prelude.{is_some, IfSome}
use Rattle.fidl_named.specs.declared.place.Place.{Place}
use Rattle.fidl_composition.specs.Compositions.{IsWay}
use Rattle.fidl_protocol.specs.Gathered.{IsLaterOwn}
use Rattle.fidl_protocol.proofs.Nodes.{declares}
use Rattle.fidl_protocol.proofs.Reporting.{goes_on, other_composed, one_composed}
use Rattle.fidl_protocol.proofs.alike.place_of_two.Goals as goal

pub returns-then-is_later_own : goal.returns-then-is_later_own
returns-then-is_later_own c =
    let own = c.is_later_own.ensures.0 c.if-is_later_own.true in
    inl (inl (record { own = own.own; later = own.later; place_is = c.place.ensures }))

pub way_to-requires-clause-to : goal.way_to-requires-clause-to
way_to-requires-clause-to c = let pair = c.requires.pair in declares c.args.named.now c.args.pair.now.other pair.has_other.declared

pub unreachable-requires : goal.unreachable-requires
unreachable-requires c =
    let files = c.args.named.now in
    let id = c.args.id in
    let pair = c.args.pair.now in
    let h = c.requires.pair in
    let apart = other_composed files id pair h (λ own. true≢false (sym (c.is_later_own.ensures.1 own) ∙ c.if-is_later_own.false)) (λ own. true≢false (sym (c.is_later_own-2.ensures.1 own) ∙ c.if-is_later_own-2.false)) in
    let r = goes_on files id pair.other.protocol h.has_other.reaches apart in
    c.in_ok-place.ensures.none (ap is_some c.in-None.is) r.0 r.1.0 r.1.1

pub returns : goal.returns
returns c =
    let files = c.args.named.now in
    let id = c.args.id in
    let pair = c.args.pair.now in
    let h = c.requires.pair in
    let not_other : IsLaterOwn id pair.other pair.one → ⊥ = λ own. true≢false (sym (c.is_later_own.ensures.1 own) ∙ c.if-is_later_own.false) in
    let not_one : IsLaterOwn id pair.one pair.other → ⊥ = λ own. true≢false (sym (c.is_later_own-2.ensures.1 own) ∙ c.if-is_later_own-2.false) in
    inl (inr (record {
      reported_composed = other_composed files id pair h not_other not_one;
      other_composed = one_composed files id pair h not_other not_one;
      way = subst (λ (o : Option Place). IfSome o (λ (place : Place). IsWay files id pair.other.protocol place)) c.in-Some.is c.in_ok-place.ensures.found;
    }))
