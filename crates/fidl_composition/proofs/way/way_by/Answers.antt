use Rattle.std.proofs.Common.{◌≡◌, ◌∙◌, ap, sym, subst, true≢false}
use Rattle.fidl_tree.specs.Syntax.{compose_member}
use Rattle.fidl_tree.specs.Views.{path_view, attributes_view, protocol_body_view, protocol_member_view}
use Rattle.fidl_tree.specs.declared.protocol.Compose.{Compose}
use Rattle.fidl_tree.specs.declared.protocol.ProtocolMember.{ProtocolMember as CodeMember}
use Rattle.fidl_tree.specs.declared.protocol.ProtocolMemberBody.{ProtocolMemberBody}
use Rattle.fidl_tree.specs.declared.protocol.ProtocolMemberBody.TheVariants as body
use Rattle.fidl_named.specs.Meanings.{IsJust}
use Rattle.fidl_named.proofs.PathViews.{place_seen}
use Rattle.fidl_composition.specs.Compositions.{MeansProtocol}
use Rattle.fidl_composition.proofs.Nodes.{meant_protocol}
use Rattle.fidl_composition.proofs.Finding.{nothing_meant, not_reached}
use Rattle.fidl_composition.proofs.way.way_by.Goals as goal

composes : (m : CodeMember) (x : Compose) → m.body ≡ body.Compose x → protocol_member_view m ≡ compose_member (attributes_view m.attributes.items) (path_view x.path)
composes m x is = ap (λ (b : ProtocolMemberBody). protocol_body_view (attributes_view m.attributes.items) b) is

pub returns-in_default-2-clause-none : goal.returns-in_default-2-clause-none
returns-in_default-2-clause-none c = λ _.
    let fs = c.args.named.now in
    let m = c.args.member.now in
    let path = path_view c.in-Compose.compose.path in
    nothing_meant fs c.args.file_index (protocol_member_view m) c.args.to (attributes_view m.attributes.items) path (composes m c.in-Compose.compose c.in-Compose.is)
    (subst (IsJust (MeansProtocol fs c.args.file_index path)) c.in_default-2.is c.in_ok-composed.ensures)

pub reaches-requires-clause-from : goal.reaches-requires-clause-from
reaches-requires-clause-from c =
    let fs = c.args.named.now in
    let path = path_view c.in-Compose.compose.path in
    let its = subst (IsJust (MeansProtocol fs c.args.file_index path)) c.in-Some.is c.in_ok-composed.ensures in
    meant_protocol fs c.args.file_index path c.in-Some.composed its.0

pub returns-then-not-branch-clause-none : goal.returns-then-not-branch-clause-none
returns-then-not-branch-clause-none c = λ _.
    let fs = c.args.named.now in
    let m = c.args.member.now in
    let path = path_view c.in-Compose.compose.path in
    let its = subst (IsJust (MeansProtocol fs c.args.file_index path)) c.in-Some.is c.in_ok-composed.ensures in
    not_reached fs c.args.file_index (protocol_member_view m) c.args.to (attributes_view m.attributes.items) path (composes m c.in-Compose.compose c.in-Compose.is) c.in-Some.composed its.1
    (λ h. true≢false (sym (c.in_ok-reaches.ensures.1 h) ∙ c.if-not-branch.true))

pub returns-clause-found : goal.returns-clause-found
returns-clause-found c =
    let fs = c.args.named.now in
    let m = c.args.member.now in
    let path = path_view c.in-Compose.compose.path in
    let its = subst (IsJust (MeansProtocol fs c.args.file_index path)) c.in-Some.is c.in_ok-composed.ensures in
    record {
      attributes = attributes_view m.attributes.items;
      path = path;
      is = composes m c.in-Compose.compose c.in-Compose.is;
      through = c.in-Some.composed;
      means = its.0;
      reaches = c.in_ok-reaches.ensures.0 c.if-not-branch.false;
      place = c.path_span.ensures ∙ place_seen c.in-Compose.compose.path;
    }
