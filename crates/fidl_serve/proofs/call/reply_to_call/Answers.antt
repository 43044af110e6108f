use Rattle.std.proofs.Common.{ℕ, ◌<◌, length, get_or, sym, ap, subst, ◌∙◌}
use Rattle.std.proofs.lemmas.List.{length-map}
use Rattle.fidl_script.specs.Held.{body_view}
use Rattle.fidl_serve.proofs.Calls.{IsFound, call_within, call_place, call_fits, call_replies, call_takes, call_places}
use Rattle.fidl_serve.proofs.call.reply_to_call.Goals as goal

pub bounds-places-index : goal.bounds-places-index
bounds-places-index c =
    let f : IsFound c.args.script.now c.args.places.now c.args.ordinal c.method_place-index.result c.methods-methods.result.now c.index-methods-index.result =
    record { same = c.methods-methods.ensures; places_are = c.requires.places; place = c.method_place-index.ensures; is = c.index-methods-index.is } in
    call_within _ _ _ _ _ _ f

pub bounds-places-index-2 : goal.bounds-places-index-2
bounds-places-index-2 c =
    let f : IsFound c.args.script.now c.args.places.now c.args.ordinal c.method_place-index.result c.methods-methods.result.now c.index-methods-index.result =
    record { same = c.methods-methods.ensures; places_are = c.requires.places; place = c.method_place-index.ensures; is = c.index-methods-index.is } in
    call_within _ _ _ _ _ _ f

pub next_place-requires : goal.next_place-requires
next_place-requires c =
    let long = sym (ap length c.bodies.ensures.bodies) ∙ length-map c.bodies.result.now body_view in
    let f : IsFound c.args.script.now c.args.places.now c.args.ordinal c.method_place-index.result c.methods-methods.result.now c.index-methods-index.result =
    record { same = c.methods-methods.ensures; places_are = c.requires.places; place = c.method_place-index.ensures; is = c.index-methods-index.is } in
    subst (λ (n : ℕ). get_or c.args.places.now c.method_place-index.result 0 < n) long (call_place _ _ _ _ _ _ f)

pub put_reply-requires-clause-place : goal.put_reply-requires-clause-place
put_reply-requires-clause-place c =
    let f : IsFound c.args.script.now c.args.places.now c.args.ordinal c.method_place-index.result c.methods-methods.result.now c.index-methods-index.result =
    record { same = c.methods-methods.ensures; places_are = c.requires.places; place = c.method_place-index.ensures; is = c.index-methods-index.is } in
    call_place _ _ _ _ _ _ f

pub put_reply-requires-clause-fit : goal.put_reply-requires-clause-fit
put_reply-requires-clause-fit c =
    let f : IsFound c.args.script.now c.args.places.now c.args.ordinal c.method_place-index.result c.methods-methods.result.now c.index-methods-index.result =
    record { same = c.methods-methods.ensures; places_are = c.requires.places; place = c.method_place-index.ensures; is = c.index-methods-index.is } in
    call_fits _ _ _ _ _ _ f c.requires.ready

pub returns-clause-places : goal.returns-clause-places
returns-clause-places c =
    let long = sym (length-map c.bodies.result.now body_view) ∙ ap length c.bodies.ensures.bodies in
    let f : IsFound c.args.script.now c.args.places.now c.args.ordinal c.method_place-index.result c.methods-methods.result.now c.index-methods-index.result =
    record { same = c.methods-methods.ensures; places_are = c.requires.places; place = c.method_place-index.ensures; is = c.index-methods-index.is } in
    call_places _ _ _ _ _ _ f c.next_place.result (length c.bodies.result.now) long c.next_place.ensures

pub returns-clause-answer : goal.returns-clause-answer
returns-clause-answer c =
    let f : IsFound c.args.script.now c.args.places.now c.args.ordinal c.method_place-index.result c.methods-methods.result.now c.index-methods-index.result =
    record { same = c.methods-methods.ensures; places_are = c.requires.places; place = c.method_place-index.ensures; is = c.index-methods-index.is } in
    call_replies _ _ _ _ _ _ f c.args.txid _ c.put_reply.ensures.frame

pub returns-clause-next : goal.returns-clause-next
returns-clause-next c =
    let long = sym (length-map c.bodies.result.now body_view) ∙ ap length c.bodies.ensures.bodies in
    let f : IsFound c.args.script.now c.args.places.now c.args.ordinal c.method_place-index.result c.methods-methods.result.now c.index-methods-index.result =
    record { same = c.methods-methods.ensures; places_are = c.requires.places; place = c.method_place-index.ensures; is = c.index-methods-index.is } in
    call_takes _ _ _ _ _ _ f c.next_place.result (length c.bodies.result.now) long c.next_place.ensures c.args.txid
