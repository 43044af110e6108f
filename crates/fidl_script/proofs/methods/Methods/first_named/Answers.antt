use Rattle.std.proofs.Common.{subst}
use Rattle.std.specs.Prelude.{IfSome, IfNone}
use Rattle.fidl_verify.specs.Lookups.{TableProtocol, protocol_record}
use Rattle.fidl_script.specs.Named.{FindsAll, HasNoneNamed, IsFirstNamed}
use Rattle.fidl_script.proofs.Passing.{if_none}
use Rattle.fidl_script.proofs.Mapped.{first_place, no_place}
use Rattle.fidl_script.proofs.methods.Methods.first_named.Goals as goal

pub returns-in_err-place-clause-none : goal.returns-in_err-place-clause-none
returns-in_err-place-clause-none c =
    let p = c.args.self.now in
    let finds = subst (λ (u : TableProtocol). FindsAll u c.self.inside.places) c.self.view_is c.self.invariant in
    if_none _ _ c.from_residual.ensures (no_place p (protocol_record p).methods c.self.inside.places finds c.args.name.now c.if-name-le-LONGEST_NAME.true c.in_err-place.ensures.value)

pub returns-then-name-le-LONGEST_NAME-clause-found : goal.returns-then-name-le-LONGEST_NAME-clause-found
returns-then-name-le-LONGEST_NAME-clause-found c =
    let p = c.args.self.now in
    let finds = subst (λ (u : TableProtocol). FindsAll u c.self.inside.places) c.self.view_is c.self.invariant in
    first_place p (protocol_record p).methods c.self.inside.places finds c.args.name.now c.if-name-le-LONGEST_NAME.true c.in_ok-place.place.now c.in_ok-place.ensures.value

pub returns-clause-found : goal.returns-clause-found
returns-clause-found c = subst (λ (u : TableProtocol). IfSome c.first_named.result (IsFirstNamed u (protocol_record u).methods c.args.name.now)) c.self.view_is c.first_named.ensures.found

pub returns-clause-none : goal.returns-clause-none
returns-clause-none c = subst (λ (u : TableProtocol). IfNone c.first_named.result (HasNoneNamed u (protocol_record u).methods c.args.name.now)) c.self.view_is c.first_named.ensures.none
