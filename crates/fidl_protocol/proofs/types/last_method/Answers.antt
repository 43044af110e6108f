use Rattle.std.proofs.Common.{◌+◌, ◌-◌, List, length, take, sym, subst}
use Rattle.std.specs.Prelude.{IfSome}
use Rattle.std.specs.List.{Contains}
use Rattle.std.proofs.lemmas.Option.{IfSome_then}
use Rattle.fidl_composition.proofs.Lists.{among}
use Rattle.fidl_protocol.specs.declared.method.Method.{Method}
use Rattle.fidl_protocol.proofs.Starting.{StandsIn, stands_here, stands_more, stands_declared}
use Rattle.fidl_protocol.proofs.types.last_method.Goals.{in-Some, in_default}
use Rattle.fidl_protocol.proofs.types.last_method.Goals as goal

pub loop-protocol-preserved : goal.loop-protocol-preserved
loop-protocol-preserved c =
    let ps = c.args.protocols.now in
    let i = c.loop-protocol.protocol-index in
    let p = c.protocol-item.result in
    let lt = c.loop-protocol-test.true in
    elim c.match-last.branch [
      | in-Some w ↦ subst (λ o. IfSome o (StandsIn (take (i + 1) ps))) (sym w.found-is) (stands_here ps i p lt c.protocol-item.is w.in-Some.method.now (subst (λ (l : List Method). Contains l w.in-Some.method.now) c.deref.ensures.value (among c.deref.result.now (length c.deref.result.now - 1) w.in-Some.method.now (sym w.in-Some.ensures.value))))
      | in_default w ↦ subst (λ o. IfSome o (StandsIn (take (i + 1) ps))) (sym w.found-is) (IfSome_then c.loop-protocol.found c.loop-protocol.invariant (stands_more ps i p lt c.protocol-item.is))
    ]

pub returns : goal.returns
returns c =
    let ps = c.args.protocols.now in
    IfSome_then c.loop-protocol.found c.loop-protocol.invariant (λ m h files are. stands_declared files ps are c.loop-protocol.protocol-index m h)
