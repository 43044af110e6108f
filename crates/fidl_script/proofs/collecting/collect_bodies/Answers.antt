use Rattle.std.proofs.Common.{◌≡◌, ◌+◌, List, length, take, drop, sym, ap, subst, ◌∙◌, arith}
use Rattle.std.specs.Global.{Vec}
use Rattle.std.proofs.lemmas.List.{take_all, take_at}
use Rattle.std.proofs.Math.ListN.{length-map}
use Rattle.fidl_encode.specs.declared.message.Message.{Message}
use Rattle.fidl_script.specs.declared.fault.ScriptFault.TheVariants.{Memory}
use Rattle.fidl_script.specs.declared.lines.SaidLine.{SaidLine}
use Rattle.fidl_script.specs.Held.{lines_view, body_view, bodies_view}
use Rattle.fidl_script.specs.Collected.{AreCollected, places_view}
use Rattle.fidl_script.proofs.Passing.{handed_on}
use Rattle.fidl_script.proofs.Gathered.{none_yet, stops_at, collected_at}
use Rattle.fidl_script.proofs.collecting.collect_bodies.Goals as goal

pub returns-in_err-places-clause-fault_is_true : goal.returns-in_err-places-clause-fault_is_true
returns-in_err-places-clause-fault_is_true c = handed_on c.from_residual.result Memory _ c.from_residual.ensures.1 tt

pub loop-line-init : goal.loop-line-init
loop-line-init c = none_yet c.args.methods.now c.len.result (places_view c.in_ok-places.places.items) c.len.ensures c.in_ok-places.ensures.long c.in_ok-places.ensures.none

pub returns-in_err-reply-clause-fault_is_true : goal.returns-in_err-reply-clause-fault_is_true
returns-in_err-reply-clause-fault_is_true c =
    handed_on c.from_residual-in_err-reply.result c.in_err-reply.field-0.0 _ c.from_residual-in_err-reply.ensures.1
    (stops_at c.args.methods.now c.args.lines.now c.loop-line.line-index _ c.loop-line-test.true (places_view c.loop-line.places.items) c.loop-line.invariant c.in_err-reply.field-0.0 c.in_err-reply.ensures.fault_is_true)

pub returns-in_err-add_body-clause-fault_is_true : goal.returns-in_err-add_body-clause-fault_is_true
returns-in_err-add_body-clause-fault_is_true c = handed_on c.from_residual-in_err-add_body.result Memory _ c.from_residual-in_err-add_body.ensures.1 tt

pub add_body-requires : goal.add_body-requires
add_body-requires c =
    let way = c.in_ok-reply.ensures.two_way in
    let within = way.within in
    let long = c.loop-line.invariant.long in
    let same = length-map c.loop-line.places.items (λ (v : Vec Message). bodies_view v.items) in
    let value = ap length c.deref_mut.ensures.value in
    omega (arith, within, long, same, value)

pub loop-line-preserved : goal.loop-line-preserved
loop-line-preserved c =
    let p = c.args.methods.now in
    let lines = c.args.lines.now in
    let i = c.loop-line.line-index in
    let reply = c.in_ok-reply.reply in
    let old = c.deref_mut.result.now in
    let now = c.add_body.new.places in
    let value = c.deref_mut.ensures.value in
    let long_now : length now ≡ length old = c.add_body.auto.places in
    let back = take_at now (drop (length now) c.loop-line.places.items) c.loop-line.places.len (long_now ∙ c.deref_mut.ensures.len) in
    let before = subst (λ (ms : List (Vec Message)). AreCollected p (lines_view (take i lines)) (places_view ms)) (sym value) c.loop-line.invariant in
    subst (λ (ms : List (Vec Message)). AreCollected p (lines_view (take (i + 1) lines)) (places_view ms)) (sym back)
    (collected_at p lines i _ c.loop-line-test.true c.requires.protocol (places_view old) (places_view now) before reply.place (body_view reply.message) c.in_ok-reply.ensures.two_way c.in_ok-reply.ensures.ok c.in_ok-add_body.ensures)

pub returns-clause-ok : goal.returns-clause-ok
returns-clause-ok c =
    let over = c.loop-line-test.false in
    subst (λ (l : List SaidLine). AreCollected c.args.methods.now (lines_view l) (places_view c.loop-line.places.items)) (take_all c.loop-line.line-index c.args.lines.now (omega arith)) c.loop-line.invariant
