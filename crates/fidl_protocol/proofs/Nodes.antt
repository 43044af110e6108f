-- The protocol of an id is one, and so is the method of a member's number.
use Rattle.std.proofs.Common.{◌≡◌, List, ap, sym, subst, ◌∙◌}
use Rattle.std.specs.Prelude.{slice_get}
use Rattle.std.specs.List.{Contains}
use Rattle.std.proofs.lemmas.Option.{same_Some}
use Rattle.fidl_span.specs.declared.words.Span.{Span}
use Rattle.fidl_tree.specs.Syntax.{Openness, ProtocolMember, File as Plain}
use Rattle.fidl_tree.specs.Views.{file_view, declaration_view, declared_name}
use Rattle.fidl_tree.specs.declared.file.File.{File}
use Rattle.fidl_tree.specs.declared.declaration.Declaration.{Declaration}
use Rattle.fidl_named.specs.declared.place.DeclarationId.{DeclarationId}
use Rattle.fidl_composition.specs.Protocols.{IsProtocolAt, IsProtocol}
use Rattle.fidl_composition.proofs.Lists.{among, map_there}
use Rattle.fidl_composition.proofs.Nodes.{one_declaration, one_openness, one_members}
use Rattle.fidl_method_rules.specs.Methods as plain
use Rattle.fidl_method_rules.specs.Methods.{method_of, OrdinalIs}
use Rattle.fidl_method_rules.specs.MethodViews.{IsEntryOf}
use Rattle.fidl_method_rules.specs.declared.methods.OwnMethod.{OwnMethod}
use Rattle.fidl_method_rules.proofs.Excluded.{ordinal_once}
use Rattle.fidl_payloads.specs.Payloads.{RequestIs, ResponseIs}
use Rattle.fidl_payloads.specs.Members.{IsMemberOf}
use Rattle.fidl_payloads.proofs.One.{one_request, one_response}
use Rattle.fidl_protocol.specs.declared.method.Method.{Method}
use Rattle.fidl_protocol.specs.Methods.{IsDeclared}

module _ (files : List File) (p : DeclarationId) (f g : File) (o q : Openness) (n m : Span) (ms ns : List ProtocolMember) (h : IsProtocolAt files p f o n ms) (k : IsProtocolAt files p g q m ns) where
  pub one_file : f ≡ g
  one_file = same_Some f g (sym h.at.file_at ∙ k.at.file_at)

  pub one_name : n ≡ m
  one_name = sym h.name_is ∙ ap (λ (x : Declaration). declared_name x.body) (one_declaration files p f g h.declaration k.declaration h.at k.at) ∙ k.name_is

  -- what holds of a protocol, however it was found
  pub carried : (P : File → Openness → Span → List ProtocolMember → Type 0) → P f o n ms → P g q m ns
  carried P x =
      subst (λ (l : List ProtocolMember). P g q m l) (one_members files p f g o q n m ms ns h k)
      (subst (λ (s : Span). P g q s ms) one_name
      (subst (λ (r : Openness). P g r n ms) (one_openness files p f g o q n m ms ns h k)
      (subst (λ (t : File). P t o n ms) one_file x)))

module _ (files : List File) (p : DeclarationId) (f : File) (o : Openness) (n : Span) (ms : List ProtocolMember) (h : IsProtocolAt files p f o n ms) where
  pub it_is : IsProtocol files p
  it_is = (o, record { file = f; name = n; members = ms; is = h })

  -- its members are members of a protocol of its file
  pub member_of : (m : ProtocolMember) → Contains ms m → IsMemberOf files p.file n m
  member_of m there = record {
    file = f;
    at = h.at.file_at;
    declaration = declaration_view h.declaration;
    declared = map_there declaration_view f.declarations.items h.declaration (among f.declarations.items p.index h.declaration h.at.stands);
    name_is = h.name_is;
    openness = o;
    members = ms;
    body_is = h.body;
    among = there;
  }

-- who declares a method is a protocol
pub declares : (files : List File) (m : Method) → IsDeclared files m → IsProtocol files m.protocol
declares files m h = it_is files m.protocol h.file h.openness h.protocol h.members h.at

-- Two entries of one member.
module _ (f : Plain) (protocol : Span) (member : ProtocolMember) (a b : OwnMethod) (h : IsEntryOf f protocol member a) (k : IsEntryOf f protocol member b) where
  one_entry : h.method ≡ k.method
  one_entry = same_Some h.method k.method (sym h.is ∙ k.is)

  pub one_own : a.member ≡ b.member → a ≡ b
  one_own number =
      let name : a.name ≡ b.name = h.name ∙ ap (λ (x : plain.Method). x.name) one_entry ∙ sym k.name in
      let strict : a.is_strict ≡ b.is_strict = h.strict ∙ ap (λ (x : plain.Method). x.is_strict) one_entry ∙ sym k.strict in
      let ordinal : a.ordinal ≡ b.ordinal = ordinal_once f protocol k.method a.ordinal b.ordinal (subst (λ (x : plain.Method). OrdinalIs f protocol x a.ordinal) one_entry h.ordinal) k.ordinal in
      λ i. record { member = number i; name = name i; is_strict = strict i; ordinal = ordinal i }

-- Two methods that are the same member of the same protocol.
module _ (files : List File) (a b : Method) (h : IsDeclared files a) (k : IsDeclared files b) (protocol : a.protocol ≡ b.protocol) (number : a.own.member ≡ b.own.member) where
  there : IsProtocolAt files b.protocol h.file h.openness h.protocol h.members
  there = subst (λ (p : DeclarationId). IsProtocolAt files p h.file h.openness h.protocol h.members) protocol h.at

  file_is : h.file ≡ k.file
  file_is = one_file files b.protocol h.file k.file h.openness k.openness h.protocol k.protocol h.members k.members there k.at

  name_is : h.protocol ≡ k.protocol
  name_is = one_name files b.protocol h.file k.file h.openness k.openness h.protocol k.protocol h.members k.members there k.at

  members_are : h.members ≡ k.members
  members_are = one_members files b.protocol h.file k.file h.openness k.openness h.protocol k.protocol h.members k.members there k.at

  member_is : h.member ≡ k.member
  member_is = same_Some h.member k.member (sym h.stands ∙ ap (λ (l : List ProtocolMember). slice_get l a.own.member) members_are ∙ ap (slice_get k.members) number ∙ k.stands)

  own_is : a.own ≡ b.own
  own_is =
      let same = subst (λ (m : ProtocolMember). IsEntryOf (file_view k.file) k.protocol m a.own) member_is (subst (λ (s : Span). IsEntryOf (file_view k.file) s h.member a.own) name_is (subst (λ (f : File). IsEntryOf (file_view f) h.protocol h.member a.own) file_is h.own)) in
      one_own (file_view k.file) k.protocol k.member a.own b.own same k.own number

  request_is : a.payloads.request ≡ b.payloads.request
  request_is =
      let same = subst (λ (m : ProtocolMember). RequestIs files b.protocol.file m a.payloads.request) member_is (subst (λ (p : DeclarationId). RequestIs files p.file h.member a.payloads.request) protocol h.request) in
      one_request files b.protocol.file k.member a.payloads.request b.payloads.request same k.request

  response_is : a.payloads.response ≡ b.payloads.response
  response_is =
      let same = subst (λ (m : ProtocolMember). ResponseIs files b.protocol.file k.protocol m a.payloads.response) member_is (subst (λ (s : Span). ResponseIs files b.protocol.file s h.member a.payloads.response) name_is (subst (λ (p : DeclarationId). ResponseIs files p.file h.protocol h.member a.payloads.response) protocol h.response)) in
      one_response files b.protocol.file k.protocol k.member a.payloads.response b.payloads.response same k.response

  payloads_are : a.payloads ≡ b.payloads
  payloads_are = λ i. record { request = request_is i; response = response_is i }

  pub one_method : a ≡ b
  one_method = λ i. record { protocol = protocol i; own = own_is i; payloads = payloads_are i }
