use Rattle.std.proofs.Common.{◌≡◌, Option, ℕ, ap, subst}
use Rattle.std.specs.List.{Contains}
use Rattle.fidl_tree.specs.Syntax.{compose_member}
use Rattle.fidl_tree.specs.Views.{path_view, attributes_view, protocol_body_view, protocol_member_view, openness_view}
use Rattle.fidl_tree.specs.declared.protocol.Compose.{Compose}
use Rattle.fidl_tree.specs.declared.protocol.ProtocolMember.{ProtocolMember}
use Rattle.fidl_tree.specs.declared.protocol.ProtocolMemberBody.{ProtocolMemberBody}
use Rattle.fidl_tree.specs.declared.protocol.ProtocolMemberBody.TheVariants as body
use Rattle.fidl_named.specs.Meanings.{IsJust}
use Rattle.fidl_composition.specs.Tables.{IsTarget}
use Rattle.fidl_composition.proofs.Lists.{map_there}
use Rattle.fidl_composition.proofs.Members.{row_none, row_some, path_holds}
use Rattle.fidl_composition.proofs.composing.add_member.Goals as goal

composes : (m : ProtocolMember) (x : Compose) → m.body ≡ body.Compose x → protocol_member_view m ≡ compose_member (attributes_view m.attributes.items) (path_view x.path)
composes m x is = ap (λ (b : ProtocolMemberBody). protocol_body_view (attributes_view m.attributes.items) b) is

pub find_target-requires-clause-written : goal.find_target-requires-clause-written
find_target-requires-clause-written c =
    let m = c.args.member.now in
    let ms = c.args.scope.now.protocol.now.members.items in
    (attributes_view m.attributes.items, subst (Contains _) (composes m c.in-Compose.compose c.in-Compose.is) (map_there protocol_member_view ms m c.requires.among))

pub returns-in-None-clause-ok : goal.returns-in-None-clause-ok
returns-in-None-clause-ok c =
    let fs = c.args.scope.now.named.now in
    let n = c.args.scope.now.id.file in
    let ids = c.args.scope.now.numbers.now.ids.items in
    let m = c.args.member.now in
    let path = path_view c.in-Compose.compose.path in
    let none = subst (λ (o : Option ℕ). IsJust (IsTarget fs n ids path) o) c.in-None.is c.in_ok-find_target-in-Compose.ensures.ok in
    row_none fs n ids (protocol_member_view m) c.args.row.now.items (attributes_view m.attributes.items) path (composes m c.in-Compose.compose c.in-Compose.is) none

pub returns-in-None-clause-holds : goal.returns-in-None-clause-holds
returns-in-None-clause-holds c =
    let scope = c.args.scope.now in
    let m = c.args.member.now in
    path_holds scope.named.now scope.id.file scope.numbers.now.ids.items (openness_view scope.protocol.now.openness) (protocol_member_view m) (attributes_view m.attributes.items) (path_view c.in-Compose.compose.path) (composes m c.in-Compose.compose c.in-Compose.is) c.in_ok-find_target-in-Compose.ensures.holds

pub returns-in_ok-push-in-Some-clause-ok : goal.returns-in_ok-push-in-Some-clause-ok
returns-in_ok-push-in-Some-clause-ok c =
    let fs = c.args.scope.now.named.now in
    let n = c.args.scope.now.id.file in
    let ids = c.args.scope.now.numbers.now.ids.items in
    let m = c.args.member.now in
    let path = path_view c.in-Compose.compose.path in
    let just = subst (λ (o : Option ℕ). IsJust (IsTarget fs n ids path) o) c.in-Some.is c.in_ok-find_target-in-Compose.ensures.ok in
    row_some fs n ids (protocol_member_view m) c.args.row.now.items (attributes_view m.attributes.items) path (composes m c.in-Compose.compose c.in-Compose.is) c.push.new.self.items c.in-Some.target c.in_ok-push-in-Some.ensures.items just

pub returns-in_ok-push-in-Some-clause-holds : goal.returns-in_ok-push-in-Some-clause-holds
returns-in_ok-push-in-Some-clause-holds c =
    let scope = c.args.scope.now in
    let m = c.args.member.now in
    path_holds scope.named.now scope.id.file scope.numbers.now.ids.items (openness_view scope.protocol.now.openness) (protocol_member_view m) (attributes_view m.attributes.items) (path_view c.in-Compose.compose.path) (composes m c.in-Compose.compose c.in-Compose.is) c.in_ok-find_target-in-Compose.ensures.holds
