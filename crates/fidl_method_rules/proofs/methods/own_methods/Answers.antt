use Rattle.std.proofs.Common.{rules, ◌≡◌, ◌<◌, List, length, get_or, map, subst}
use Rattle.fidl_tree.specs.Views.{file_view, openness_view, protocol_member_view}
use Rattle.fidl_tree.specs.declared.protocol.ProtocolMember.{ProtocolMember}
use Rattle.fidl_declarations.proofs.Items.{among_seen, all_seen}
use Rattle.fidl_method_rules.specs.Rules.{MemberHolds}
use Rattle.fidl_method_rules.proofs.Reports.{report_member}
use Rattle.fidl_method_rules.proofs.Entries.{further}
use Rattle.fidl_method_rules.proofs.methods.own_methods.Goals as goal

pub returns-in_err-own-clause-fault_is_true : goal.returns-in_err-own-clause-fault_is_true
returns-in_err-own-clause-fault_is_true c =
    let p = c.args.protocol.now in
    let ms = p.members.items in
    let i = c.loop-number.number in
    let m = c.member-item.result in
    let lt : i < length ms = subst (λ (l : List ProtocolMember). i < length l) c.deref-member-items.ensures.value c.loop-number-test.true in
    let is : m ≡ get_or ms i m = subst (λ (l : List ProtocolMember). m ≡ get_or l i m) c.deref-member-items.ensures.value c.member-item.is in
    let among = among_seen protocol_member_view ms i m lt is in
    let h = report_member c.args.file_index (file_view c.args.file.now) (openness_view p.openness) p.name (map protocol_member_view ms) (protocol_member_view m) among c.in_err-own.field-0.0 c.in_err-own.ensures.fault_is_true in
    search (rules, h)

pub loop-number-preserved : goal.loop-number-preserved
loop-number-preserved c =
    let f = file_view c.args.file.now in
    let p = c.args.protocol.now in
    let ms = p.members.items in
    let i = c.loop-number.number in
    let m = c.member-item.result in
    let lt : i < length ms = subst (λ (l : List ProtocolMember). i < length l) c.deref-member-items.ensures.value c.loop-number-test.true in
    let is : m ≡ get_or ms i m = subst (λ (l : List ProtocolMember). m ≡ get_or l i m) c.deref-member-items.ensures.value c.member-item.is in
    record {
      ok = further f p.name ms i m lt is c.loop-number.owns.items c.push_own.new.owns.items c.in_ok-own.own c.in_ok-push_own.ensures c.in_ok-own.ensures.found c.in_ok-own.ensures.number c.in_ok-own.ensures.none c.loop-number.invariant.ok;
      holds = all_seen protocol_member_view ms i m lt is (MemberHolds f (openness_view p.openness) p.name) c.loop-number.invariant.holds c.in_ok-own.ensures.holds;
    }
