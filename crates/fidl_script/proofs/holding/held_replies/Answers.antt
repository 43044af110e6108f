use Rattle.std.proofs.Common.{◌≡◌, ◌++◌, ◌∷◌, [], length, length-append, sym, ap, subst, ◌∙◌, arith}
use Rattle.std.specs.Global.{Vec}
use Rattle.std.proofs.lemmas.List.{map_push}
use Rattle.std.proofs.Math.ListN.{length-map}
use Rattle.std.proofs.lemmas.Iterator.Consumers.{YieldsList-turn}
use Rattle.std.proofs.lemmas.Iterator.Adapters.{YieldsList-from_vec}
use Rattle.fidl_encode.specs.declared.message.Message.{Message}
use Rattle.fidl_script.specs.Held.{body_view, bodies_view}
use Rattle.fidl_script.specs.Collected.{places_view, held_from, HaveBodies}
use Rattle.fidl_script.proofs.Given.{held_more, have_more, lacks_here}
use Rattle.fidl_script.proofs.holding.held_replies.Goals as goal

pub loop-bodies-preserved : goal.loop-bodies-preserved
loop-bodies-preserved c =
    let p = c.args.methods.now in
    let old = c.loop-bodies.yielded in
    let bodies = c.in-Some.bodies in
    let place = c.loop-bodies.place in
    let before = c.loop-bodies.invariant in
    let more : places_view (old ++ bodies ∷ []) ≡ places_view old ++ bodies_view bodies.items ∷ [] = map_push (λ (v : Vec Message). bodies_view v.items) old bodies in
    let at : place ≡ length (places_view old) = before.place ∙ sym (length-map old (λ (v : Vec Message). bodies_view v.items)) in
    let long = length-map bodies.items body_view in
    record {
      place = omega (arith, before.place, length-append old (bodies ∷ []));
      held = held_more p (places_view old) (bodies_view bodies.items) c.loop-bodies.held.items c.hold.new.held.items place at before.held (c.in_ok-has.ensures.held c.if-not-has.false) ∙ ap (held_from p 0) (sym more);
      some = subst (HaveBodies p) (sym more) (have_more p (places_view old) (bodies_view bodies.items) place at before.some (λ way. let some = c.in_ok-has.ensures.some c.if-not-has.false way in omega (arith, some, long)));
    }

pub returns-then-not-has : goal.returns-then-not-has
returns-then-not-has c =
    let p = c.args.methods.now in
    let gives = c.into_iter-bodies-iterator.ensures.into_iter_gives in
    let all = YieldsList-from_vec {s = c.into_iter-bodies-iterator.result} c.args.places.items gives.0 (gives.1 ∙ c.args.places.ok.0) in
    let turn = YieldsList-turn all c.loop-bodies.yielded c.loop-bodies.bodies-iterator c.loop-bodies.yielded_by c.next.result c.next.new.self c.in-Some.bodies c.in-Some.is c.next.ensures.steps in
    let none = c.in_ok-has.ensures.none c.if-not-has.true in
    lacks_here p c.args.places.items (length c.loop-bodies.yielded) c.loop-bodies.place c.in-Some.bodies c.loop-bodies.invariant.place turn.0 turn.1 none.0 none.1
