use Rattle.std.proofs.Common.{subst}
use Rattle.fidl_verify.specs.Lookups.{TableProtocol}
use Rattle.fidl_script.specs.declared.fault.ScriptFault.TheVariants.{Memory}
use Rattle.fidl_script.specs.Faults.{IsLinesFault}
use Rattle.fidl_script.specs.Held.{lines_view}
use Rattle.fidl_script.specs.Collected.{AreCollected, LacksBody, IsHeld, places_view}
use Rattle.fidl_script.proofs.Passing.{handed_on, match_some, match_none}
use Rattle.fidl_script.proofs.Given.{given, lacks_reply}
use Rattle.fidl_script.proofs.script.replies_of.Goals as goal

pub returns-in_err-methods-clause-fault_is_true : goal.returns-in_err-methods-clause-fault_is_true
returns-in_err-methods-clause-fault_is_true c = handed_on c.from_residual.result Memory _ c.from_residual.ensures.1 tt

pub returns-in_err-bodies-clause-fault_is_true : goal.returns-in_err-bodies-clause-fault_is_true
returns-in_err-bodies-clause-fault_is_true c =
    handed_on c.from_residual-in_err-bodies.result c.in_err-bodies.field-0.0 _ c.from_residual-in_err-bodies.ensures.1
    (subst (λ (q : TableProtocol). IsLinesFault q (lines_view c.args.lines.now) c.in_err-bodies.field-0.0) c.in_ok-methods.ensures c.in_err-bodies.ensures.fault_is_true)

pub returns-in_err-found-clause-fault_is_true : goal.returns-in_err-found-clause-fault_is_true
returns-in_err-found-clause-fault_is_true c = handed_on c.from_residual-in_err-found.result Memory _ c.from_residual-in_err-found.ensures.1 tt

pub returns-in-Some-clause-ok : goal.returns-in-Some-clause-ok
returns-in-Some-clause-ok c =
    let p = c.args.protocol.now in
    let lines = lines_view c.args.lines.now in
    let places = places_view c.in_ok-bodies.bodies.items in
    let e = c.in_ok-methods.ensures in
    let held = match_some c.in_ok-found.found c.in-Some.held _ _ c.in-Some.is c.in_ok-found.ensures in
    given p c.requires.protocol lines places c.in-Some.held.items (subst (λ (q : TableProtocol). AreCollected q lines places) e c.in_ok-bodies.ensures.ok) (subst (λ (q : TableProtocol). IsHeld q places c.in-Some.held.items) e held)

pub returns-clause-fault_is_true : goal.returns-clause-fault_is_true
returns-clause-fault_is_true c =
    let p = c.args.protocol.now in
    let lines = lines_view c.args.lines.now in
    let places = places_view c.in_ok-bodies.bodies.items in
    let e = c.in_ok-methods.ensures in
    let lacks = match_none c.in_ok-found.found _ _ c.in-None.is c.in_ok-found.ensures in
    lacks_reply p lines places (subst (λ (q : TableProtocol). AreCollected q lines places) e c.in_ok-bodies.ensures.ok) (subst (λ (q : TableProtocol). LacksBody q places) e lacks)
