use Rattle.std.proofs.Common.{◌∙◌, List, Option, refl, ap, sym, subst}
use Rattle.std.specs.Prelude.{IfSome, is_some}
use Rattle.std.specs.List.{Contains, AllByRecursion}
use Rattle.std.proofs.lemmas.List.{take_all}
use Rattle.std.proofs.lemmas.List.Elements.{Contains-get_or}
use Rattle.std.proofs.lemmas.Option.{slice_get_within}
use Rattle.fidl_span.specs.declared.words.Span.{Span}
use Rattle.fidl_tree.specs.Views.{protocol_member_view}
use Rattle.fidl_tree.specs.declared.protocol.ProtocolMember.{ProtocolMember}
use Rattle.fidl_cycles.proofs.Lists.{all_take}
use Rattle.fidl_composition.specs.Tables.{IsWayBy}
use Rattle.fidl_composition.proofs.Ways.{composing}
use Rattle.fidl_composition.proofs.Finding.{NoWay, way_is, no_way}
use Rattle.fidl_composition.proofs.way.way_to.Goals as goal

pub returns-in_default-clause-none : goal.returns-in_default-clause-none
returns-in_default-clause-none c = λ _ q h _. c.in_default.ensures.none refl (composing c.args.named.now c.args.from q h)

pub way_by-requires-clause-within : goal.way_by-requires-clause-within
way_by-requires-clause-within c =
    let node = c.in-Some.ensures.found in
    slice_get_within c.args.named.now c.args.from.file node.file node.at.file_at

pub returns-in-Some-2-clause-found : goal.returns-in-Some-2-clause-found
returns-in-Some-2-clause-found c =
    let items = c.deref-member-items.result.now in
    let m = c.member-item.result in
    let i = c.loop-member.member-index in
    let among = subst (λ (l : List ProtocolMember). Contains l m) c.deref-member-items.ensures.value (subst (Contains items) (sym c.member-item.is) (Contains-get_or items i m c.loop-member-test.true)) in
    way_is c.args.named.now c.args.from c.in-Some.protocol.now c.in-Some.ensures.found c.args.to m among c.in-Some-2.span
    (subst (λ (o : Option Span). IfSome o (IsWayBy c.args.named.now c.args.from.file (protocol_member_view m) c.args.to)) c.in-Some-2.is c.in_ok-span.ensures.found)

pub loop-member-preserved : goal.loop-member-preserved
loop-member-preserved c =
    let items = c.deref-member-items.result.now in
    let m = c.member-item.result in
    let i = c.loop-member.member-index in
    all_take items i m c.loop-member-test.true c.member-item.is (λ (x : ProtocolMember). NoWay c.args.named.now c.args.from.file (protocol_member_view x) c.args.to) c.loop-member.invariant
    (c.in_ok-span.ensures.none (ap is_some c.in_default-2.is))

pub returns-clause-none : goal.returns-clause-none
returns-clause-none c = λ _ q.
    let items = c.deref-member-items.result.now in
    let whole = take_all c.loop-member.member-index items c.loop-member-test.false ∙ c.deref-member-items.ensures.value in
    no_way c.args.named.now c.args.from c.in-Some.protocol.now c.in-Some.ensures.found c.args.to
    (subst (AllByRecursion (λ (x : ProtocolMember). NoWay c.args.named.now c.args.from.file (protocol_member_view x) c.args.to)) whole c.loop-member.invariant) q
