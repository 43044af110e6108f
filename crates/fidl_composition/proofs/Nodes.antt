-- The protocol of an id is one, and so is what a path means.
use Rattle.std.proofs.Common.{◌≡◌, ◌<◌, ℕ, List, [], ◌∷◌, Some, length, map, inl, inr, refl, ap, sym, subst, ◌∙◌}
use Rattle.std.specs.Prelude.{slice_get}
use Rattle.std.proofs.lemmas.Option.{slice_get_within, same_Some}
use Rattle.fidl_span.specs.declared.words.Span.{Span}
use Rattle.fidl_tree.specs.Syntax.{Path, Openness, ProtocolMember, protocol_body}
use Rattle.fidl_tree.specs.Views.{declared_name, declared_view, openness_view, protocol_member_view}
use Rattle.fidl_tree.specs.declared.file.File.{File}
use Rattle.fidl_tree.specs.declared.declaration.Declaration.{Declaration}
use Rattle.fidl_tree.specs.declared.declaration.ProtocolDeclaration.{ProtocolDeclaration}
use Rattle.fidl_tree.specs.declared.declaration.DeclarationBody.{DeclarationBody}
use Rattle.fidl_tree.specs.declared.declaration.DeclarationBody.TheVariants as body
use Rattle.fidl_named.specs.declared.place.DeclarationId.{DeclarationId}
use Rattle.fidl_named.specs.declared.meaning.Wanted.TheVariants as wanted
use Rattle.fidl_named.specs.declared.meaning.Meaning.TheVariants as meaning
use Rattle.fidl_named.specs.Constraints.{IsDeclarationAt}
use Rattle.fidl_named.specs.Meanings.{kind_of, IsReading, IsOwn, IsDeclarationOf, Means}
use Rattle.fidl_named.specs.Names.{library_of}
use Rattle.fidl_named.specs.Paths.{texts}
use Rattle.fidl_composition.specs.Protocols.{IsProtocolAt, HasOpenness, IsProtocol}
use Rattle.fidl_composition.specs.Compositions.{MeansProtocol}
use Rattle.fidl_composition.specs.Tables.{IsProtocolNode, IsProtocolBody}

-- a body that is a protocol in plain data is one
body_node : (b : DeclarationBody) (o : Openness) (ms : List ProtocolMember) → declared_view b ≡ protocol_body o ms → (d : ProtocolDeclaration) × (b ≡ body.Protocol d)
body_node (body.Const d) o ms e = absurd (cc)
body_node (body.Alias d) o ms e = absurd (cc)
body_node (body.«Type» d) o ms e = absurd (cc)
body_node (body.Protocol d) o ms e = (d, refl)
body_node (body.Service d) o ms e = absurd (cc)
body_node (body.Resource d) o ms e = absurd (cc)

-- so is one whose name is that of a protocol
kind_body : (b : DeclarationBody) → kind_of b ≡ Some wanted.Protocol → IsProtocolBody (declared_view b)
kind_body (body.Const d) e = absurd (cc)
kind_body (body.Alias d) e = absurd (cc)
kind_body (body.«Type» d) e = absurd (cc)
kind_body (body.Protocol d) e = record { openness = openness_view d.openness; members = map protocol_member_view d.members.items; is = refl }
kind_body (body.Service d) e = absurd (cc)
kind_body (body.Resource d) e = absurd (cc)

module _ (files : List File) where
  pub one_declaration : (p : DeclarationId) (f g : File) (d e : Declaration) → IsDeclarationAt files p f d → IsDeclarationAt files p g e → d ≡ e
  one_declaration p f g d e h k =
      let same : g ≡ f = same_Some g f (sym k.file_at ∙ h.file_at) in
      let there : slice_get f.declarations.items p.index ≡ Some e = subst (λ (x : File). slice_get x.declarations.items p.index ≡ Some e) same k.stands in
      same_Some d e (sym h.stands ∙ there)

  pub protocol_of : (p : DeclarationId) (f : File) (d : Declaration) → IsDeclarationAt files p f d → IsProtocolBody (declared_view d.body) → IsProtocol files p
  protocol_of p f d at b = (b.openness, record { file = f; name = declared_name d.body; members = b.members; is = record { declaration = d; at = at; name_is = refl; body = b.is } })

  pub body_of : (p : DeclarationId) (f : File) (d : Declaration) → IsDeclarationAt files p f d → IsProtocol files p → IsProtocolBody (declared_view d.body)
  body_of p f d at h =
      let its = h.1.is in
      let same : its.declaration ≡ d = one_declaration p h.1.file f its.declaration d its.at at in
      subst (λ (x : Declaration). IsProtocolBody (declared_view x.body)) same (record { openness = h.0; members = h.1.members; is = its.body })

  -- a protocol stands in its file
  pub protocol_within : (p : DeclarationId) (k : ℕ) (f : File) → slice_get files k ≡ Some f → IsProtocol files p → p.file ≡ k → p.index < length f.declarations.items
  protocol_within p k f stands h is =
      let its = h.1.is.at in
      let same : h.1.file ≡ f = same_Some h.1.file f (sym its.file_at ∙ ap (slice_get files) is ∙ stands) in
      subst (λ (g : File). p.index < length g.declarations.items) same (slice_get_within h.1.file.declarations.items p.index h.1.is.declaration its.stands)

  pub protocol_in : (p : DeclarationId) → IsProtocol files p → p.file < length files
  protocol_in p h = slice_get_within files p.file h.1.file h.1.is.at.file_at

  -- the protocol of an id as the code has it
  pub node_of : (p : DeclarationId) → IsProtocol files p → (d : ProtocolDeclaration) × IsProtocolNode files p d
  node_of p h =
      let its = h.1.is in
      let b = body_node its.declaration.body h.0 h.1.members its.body in
      (b.0, record { file = h.1.file; declaration = its.declaration; at = its.at; body = b.1 })

  pub at_node : (p : DeclarationId) (d : ProtocolDeclaration) (h : IsProtocolNode files p d) → IsProtocolAt files p h.file (openness_view d.openness) d.name (map protocol_member_view d.members.items)
  at_node p d h = record {
    declaration = h.declaration;
    at = h.at;
    name_is = ap (λ (b : DeclarationBody). declared_name b) h.body;
    body = ap (λ (b : DeclarationBody). declared_view b) h.body;
  }

  pub has_openness : (p : DeclarationId) (d : ProtocolDeclaration) → IsProtocolNode files p d → HasOpenness files p (openness_view d.openness)
  has_openness p d h = record { file = h.file; name = d.name; members = map protocol_member_view d.members.items; is = at_node p d h }

  -- another declaration is none
  pub no_protocol : (p : DeclarationId) (f : File) (d : Declaration) → IsDeclarationAt files p f d → ((x : ProtocolDeclaration) → d.body ≡ body.Protocol x → ⊥) → IsProtocol files p → ⊥
  no_protocol p f d at none h =
      let b = body_of p f d at h in
      let its = body_node d.body b.openness b.members b.is in
      none its.0 its.1

  -- its openness and its members are one
  module _ (p : DeclarationId) (f g : File) (o q : Openness) (n m : Span) (ms ns : List ProtocolMember) (h : IsProtocolAt files p f o n ms) (k : IsProtocolAt files p g q m ns) where
    both : protocol_body o ms ≡ protocol_body q ns
    both = sym h.body ∙ ap (λ (x : Declaration). declared_view x.body) (one_declaration p f g h.declaration k.declaration h.at k.at) ∙ k.body

    pub one_openness : o ≡ q
    one_openness = let same = both in cc

    pub one_members : ms ≡ ns
    one_members = let same = both in cc

  pub openness_is : (p : DeclarationId) (d : ProtocolDeclaration) (o : Openness) → IsProtocolNode files p d → HasOpenness files p o → openness_view d.openness ≡ o
  openness_is p d o h k = one_openness p h.file k.file (openness_view d.openness) o d.name k.name (map protocol_member_view d.members.items) k.members (at_node p d h) k.is

  -- a path means one protocol
  pub one_meant : (number : ℕ) (path : Path) (p q : DeclarationId) → MeansProtocol files number path p → MeansProtocol files number path q → q ≡ p
  one_meant number path p q h k =
      let same : k.file ≡ h.file = same_Some k.file h.file (sym k.at ∙ h.at) in
      let means : Means files h.file wanted.Protocol (texts h.file.src.now path) (meaning.Declared q) = subst (λ (f : File). Means files f wanted.Protocol (texts f.src.now path) (meaning.Declared q)) same k.means in
      let both : meaning.Declared q ≡ meaning.Declared p = h.means.1 (meaning.Declared q) means.0 in
      cc

  own_protocol : (library : List ℕ) (n : List ℕ) (q : DeclarationId) → IsOwn files library wanted.Protocol n (meaning.Declared q) → IsProtocol files q
  own_protocol library n q h =
      let both : meaning.Declared q ≡ meaning.Declared h.id = h.means in
      let same : q ≡ h.id = cc in
      let at : IsDeclarationAt files h.id h.file h.declaration = record { file_at = h.declared.file_at; stands = h.declared.stands } in
      subst (IsProtocol files) (sym same) (protocol_of h.id h.file h.declaration at (kind_body h.declaration.body h.kind))

  declaration_protocol : (f : File) (front : List (List ℕ)) (n : List ℕ) (q : DeclarationId) → IsDeclarationOf files f wanted.Protocol front n (meaning.Declared q) → IsProtocol files q
  declaration_protocol f [] n q (inl own) = own_protocol (library_of f) n q own
  declaration_protocol f [] n q (inr word) =
      let both : meaning.Declared q ≡ meaning.Predeclared word.predeclared = word.means in
      absurd (cc)
  declaration_protocol f (c ∷ cs) n q h = own_protocol h.library n q h.own

  reading_protocol : (f : File) (name : List (List ℕ)) (q : DeclarationId) → IsReading files f wanted.Protocol name (meaning.Declared q) → IsProtocol files q
  reading_protocol f name q (IsReading.declaration front n is h) = declaration_protocol f front n q h
  reading_protocol f name q (IsReading.member before n is kind h) =
      let never : wanted.Protocol ≡ wanted.Value = kind in
      absurd (cc)

  -- what a path means as a protocol is one
  pub meant_protocol : (number : ℕ) (path : Path) (q : DeclarationId) → MeansProtocol files number path q → IsProtocol files q
  meant_protocol number path q h = reading_protocol h.file (texts h.file.src.now path) q h.means.0
