use Rattle.std.proofs.Common.{◌+◌, ◌∙◌, ℕ, List, take, subst}
use Rattle.std.specs.Prelude.{◌↔◌}
use Rattle.std.specs.List.{Contains, Any, AllByRecursion}
use Rattle.std.proofs.lemmas.List.{take_all}
use Rattle.fidl_tree.specs.Views.{openness_view, protocol_member_view}
use Rattle.fidl_tree.specs.declared.protocol.ProtocolMember.{ProtocolMember}
use Rattle.fidl_cycles.proofs.Lists.{all_more}
use Rattle.fidl_cycles.proofs.Lists.{any_more}
use Rattle.fidl_cycles.proofs.Lists.{all_take}
use Rattle.fidl_composition.specs.Tables.{IsTargetBy, MemberHolds}
use Rattle.fidl_composition.proofs.Members.{composed_row, protocol_holds}
use Rattle.fidl_composition.proofs.composing.composed_numbers.Goals as goal

pub loop-member-preserved : goal.loop-member-preserved
loop-member-preserved c =
    let scope = c.args.scope.now in
    let items = c.deref-member-items.result.now in
    let i = c.loop-member.member-index in
    let m = c.member-item.result in
    let By = λ (t : ℕ) (x : ProtocolMember). IsTargetBy scope.named.now scope.id.file scope.numbers.now.ids.items (protocol_member_view x) t in
    let Holds = λ (x : ProtocolMember). MemberHolds scope.named.now scope.id.file (openness_view scope.protocol.now.openness) (protocol_member_view x) in
    record {
      numbers = λ t. all_more (Contains c.loop-member.row.items t) (Contains c.add_member.new.row.items t) (Any (By t) (take i items)) (By t m) (Any (By t) (take (i + 1) items))
          (c.loop-member.invariant.numbers t) (c.in_ok-add_member.ensures.ok t) (any_more (By t) items i m c.loop-member-test.true c.member-item.is);
      holds = all_take items i m c.loop-member-test.true c.member-item.is Holds c.loop-member.invariant.holds c.in_ok-add_member.ensures.holds;
    }

pub returns-clause-ok : goal.returns-clause-ok
returns-clause-ok c =
    let scope = c.args.scope.now in
    let items = c.deref-member-items.result.now in
    let By = λ (t : ℕ) (x : ProtocolMember). IsTargetBy scope.named.now scope.id.file scope.numbers.now.ids.items (protocol_member_view x) t in
    let whole = take_all c.loop-member.member-index items c.loop-member-test.false ∙ c.deref-member-items.ensures.value in
    composed_row scope.named.now scope.id scope.protocol.now c.requires.protocol scope.numbers.now.ids.items c.loop-member.row.items
    (λ t. subst (λ (l : List ProtocolMember). Contains c.loop-member.row.items t ↔ Any (By t) l) whole (c.loop-member.invariant.numbers t))

pub returns-clause-holds : goal.returns-clause-holds
returns-clause-holds c =
    let scope = c.args.scope.now in
    let items = c.deref-member-items.result.now in
    let Holds = λ (x : ProtocolMember). MemberHolds scope.named.now scope.id.file (openness_view scope.protocol.now.openness) (protocol_member_view x) in
    let whole = take_all c.loop-member.member-index items c.loop-member-test.false ∙ c.deref-member-items.ensures.value in
    protocol_holds scope.named.now scope.id scope.protocol.now c.requires.protocol (subst (AllByRecursion Holds) whole c.loop-member.invariant.holds)
