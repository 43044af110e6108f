-- Worked facts of small sets of protocols.
use Rattle.std.proofs.Common.{◌≡◌, ◌∙◌, ℕ, zero, suc, List, [], ◌∷◌, Some, inl, inr, refl, ap, sym, subst}
use Rattle.std.specs.Prelude.{◌≢◌, slice_get}
use Rattle.std.specs.List.{Contains}
use Rattle.std.proofs.lemmas.Option.{same_Some, none-some}
use Rattle.fidl_span.specs.declared.words.Span.{Span}
use Rattle.fidl_tree.specs.Syntax.{Path, Attribute, ProtocolMember, Openness, TypeUse, Body, compose_member, protocol_body, alias_body, open_protocol, ajar_protocol, closed_protocol}
use Rattle.fidl_tree.specs.Views.{declared_name, declared_view}
use Rattle.fidl_tree.specs.declared.file.File.{File}
use Rattle.fidl_tree.specs.declared.declaration.Declaration.{Declaration}
use Rattle.fidl_named.specs.declared.place.Place.{Place}
use Rattle.fidl_named.specs.declared.place.DeclarationId.{DeclarationId}
use Rattle.fidl_named.specs.Constraints.{IsDeclarationAt}
use Rattle.fidl_cycles.specs.Cycles.{Leads, step, further}
use Rattle.fidl_named.specs.Paths.{path_place}
use Rattle.fidl_composition.specs.Protocols.{IsProtocolAt, HasOpenness, IsProtocol, IsBefore, AreProtocols}
use Rattle.fidl_composition.specs.Compositions.{MeansProtocol, ComposesAt, Composes, Reaches, MayCompose, BreaksAt, ComposesFrom, IsFirstOfCycle}
use Rattle.fidl_composition.specs.Numbers.{ReachesByNumber, AreCompositions}
use Rattle.fidl_composition.proofs.Lists.{here, nothing_there, just_one, no_pairs, first_before}
use Rattle.fidl_composition.proofs.Order.{before_not_after, before_itself}
use Rattle.fidl_composition.proofs.Nodes.{one_declaration, one_members, one_meant}

pub no_files : (p : DeclarationId) → IsProtocol [] p → ⊥
no_files p h = none-some h.1.file h.1.is.at.file_at

pub none_composes : (p q : DeclarationId) → Composes [] p q → ⊥
none_composes p q h = none-some h.1.file h.1.is.at.file_at

pub none_leads : (p q : DeclarationId) → Leads (Composes []) p q → ⊥
none_leads p q (step a b h) = none_composes a b h
none_leads p q (further a b c h l) = none_composes a b h

pub none_listed : AreProtocols [] []
none_listed = record { entries = λ p c. absurd (nothing_there p c); all = λ p h. absurd (no_files p h); rise = no_pairs IsBefore }

module _ (files : List File) where
  body_same : (p : DeclarationId) (f : File) (d : Declaration) (b : Body) → IsDeclarationAt files p f d → declared_view d.body ≡ b → (o : Openness) (h : HasOpenness files p o) → b ≡ protocol_body o h.members
  body_same p f d b at is o h = sym is ∙ ap (λ (x : Declaration). declared_view x.body) (one_declaration files p f h.file d h.is.declaration at h.is.at) ∙ h.is.body

  pub is_one : (p : DeclarationId) (f : File) (d : Declaration) (o : Openness) (ms : List ProtocolMember) → IsDeclarationAt files p f d → declared_view d.body ≡ protocol_body o ms → HasOpenness files p o
  is_one p f d o ms at is = record { file = f; name = declared_name d.body; members = ms; is = record { declaration = d; at = at; name_is = refl; body = is } }

  pub is_not_closed : (p : DeclarationId) (f : File) (d : Declaration) (ms : List ProtocolMember) → IsDeclarationAt files p f d → declared_view d.body ≡ protocol_body open_protocol ms → HasOpenness files p closed_protocol → ⊥
  is_not_closed p f d ms at is h =
      let both : protocol_body open_protocol ms ≡ protocol_body closed_protocol h.members = body_same p f d (protocol_body open_protocol ms) at is closed_protocol h in
      absurd (cc)

  pub is_none : (p : DeclarationId) (f : File) (d : Declaration) (t : TypeUse) → IsDeclarationAt files p f d → declared_view d.body ≡ alias_body t → IsProtocol files p → ⊥
  is_none p f d t at is h =
      let both : alias_body t ≡ protocol_body h.0 h.1.members = body_same p f d (alias_body t) at is h.0 h.1 in
      absurd (cc)

  pub its_name : (p : DeclarationId) (f : File) (d : Declaration) (g : File) (o : Openness) (n : Span) (ms : List ProtocolMember) → IsDeclarationAt files p f d → IsProtocolAt files p g o n ms → n ≡ declared_name d.body
  its_name p f d g o n ms at h = sym h.name_is ∙ ap (λ (x : Declaration). declared_name x.body) (one_declaration files p g f h.declaration d h.at at)

  pub not_in_order : (p q : DeclarationId) → IsBefore p q → AreProtocols files (q ∷ p ∷ []) → ⊥
  not_in_order p q before h = before_not_after p q before (first_before IsBefore q (p ∷ []) h.rise p (here p []))

  pub not_twice : (p : DeclarationId) → AreProtocols files (p ∷ p ∷ []) → ⊥
  not_twice p h = before_itself p (first_before IsBefore p (p ∷ []) h.rise p (here p []))

  pub it_composes : (p : DeclarationId) (f : File) (o : Openness) (n : Span) (a : List Attribute) (path : Path) (q : DeclarationId) → IsProtocolAt files p f o n (compose_member a path ∷ []) → MeansProtocol files p.file path q → ComposesAt files p (path_place path) q
  it_composes p f o n a path q h means = record { file = f; openness = o; name = n; members = compose_member a path ∷ []; attributes = a; path = path; is = h; among = here (compose_member a path) []; means = means; place = refl }

  pub not_elsewhere : (p : DeclarationId) (f : File) (o : Openness) (n : Span) (a : List Attribute) (path : Path) (q : DeclarationId) (s : Span) → IsProtocolAt files p f o n (compose_member a path ∷ []) → s ≢ path_place path → ComposesAt files p s q → ⊥
  not_elsewhere p f o n a path q s h other c =
      let same = one_members files p c.file f c.openness o c.name n c.members (compose_member a path ∷ []) c.is h in
      let its : compose_member a path ≡ compose_member c.attributes c.path = just_one (compose_member a path) (compose_member c.attributes c.path) (subst (λ ms. Contains ms (compose_member c.attributes c.path)) same c.among) in
      let paths : c.path ≡ path = cc in
      other (c.place ∙ ap path_place paths)

  pub without_members : (p : DeclarationId) (f : File) (o : Openness) (n : Span) (q : DeclarationId) → IsProtocolAt files p f o n [] → Composes files p q → ⊥
  without_members p f o n q h composes =
      let c = composes.1 in
      let same = one_members files p c.file f c.openness o c.name n c.members [] c.is h in
      nothing_there (compose_member c.attributes c.path) (subst (λ ms. Contains ms (compose_member c.attributes c.path)) same c.among)

  pub not_both : (number : ℕ) (path : Path) (p q : DeclarationId) → p ≢ q → MeansProtocol files number path p → MeansProtocol files number path q → ⊥
  not_both number path p q other h k = other (sym (one_meant files number path p q h k))

  pub reaches_through : (p q r : DeclarationId) → Composes files p q → Composes files q r → Reaches files p r
  reaches_through p q r h k = inr (further p q r h (step q r k))

  leads_none : (p q : DeclarationId) → ((r : DeclarationId) → Composes files p r → ⊥) → Leads (Composes files) p q → ⊥
  leads_none p q none (step a b h) = none b h
  leads_none p q none (further a b c h l) = none b h

  pub reaches_none : (p q : DeclarationId) → ((r : DeclarationId) → Composes files p r → ⊥) → p ≢ q → Reaches files p q → ⊥
  reaches_none p q none other (inl is) = other is
  reaches_none p q none other (inr l) = leads_none p q none l

  pub openness_breaks : (p q : DeclarationId) (s : Span) → ComposesAt files p s q → HasOpenness files p closed_protocol → HasOpenness files q ajar_protocol → BreaksAt files (record { file = p.file; span = s })
  openness_breaks p q s h one other = record { composing = p; composed = q; one = closed_protocol; other = ajar_protocol; composes = h; one_is = one; other_is = other; wrong = λ x. x; file_is = refl }

  all_closed : (one other : Openness) → one ≡ closed_protocol → other ≡ closed_protocol → MayCompose one other
  all_closed one other a b = subst (λ x. MayCompose x other) (sym a) (subst (MayCompose closed_protocol) (sym b) tt)

  pub closed_hold : (place : Place) → ((p : DeclarationId) (o : Openness) → HasOpenness files p o → o ≡ closed_protocol) → BreaksAt files place → ⊥
  closed_hold place all h = h.wrong (all_closed h.one h.other (all h.composing h.one h.one_is) (all h.composed h.other h.other_is))

  pub itself_back : (p : DeclarationId) (f : File) (o : Openness) (n : Span) (ms : List ProtocolMember) → IsProtocolAt files p f o n ms → Composes files p p → IsFirstOfCycle files (record { file = p.file; span = n })
  itself_back p f o n ms at h = record { id = p; file = f; openness = o; name = n; members = ms; is = at; back = step p p (h, before_itself p, before_itself p); place_is = refl }

  pub pair_back : (p q : DeclarationId) (f : File) (o : Openness) (n : Span) (ms : List ProtocolMember) → IsProtocolAt files p f o n ms → IsBefore p q → Composes files p q → Composes files q p → IsFirstOfCycle files (record { file = p.file; span = n })
  pair_back p q f o n ms at before h k = record {
    id = p;
    file = f;
    openness = o;
    name = n;
    members = ms;
    is = at;
    back = further p q p (h, before_itself p, before_not_after p q before) (step q p (k, before_not_after p q before, before_itself p));
    place_is = refl;
  }

  pub second_not : (p q : DeclarationId) → IsBefore p q → ((r : DeclarationId) → Composes files q r → r ≡ p) → Leads (ComposesFrom files q) q q → ⊥
  second_not p q before only l = leaves q q l refl
    where
      first : (r : DeclarationId) → ComposesFrom files q q r → ⊥
      first r e = e.2 (subst (λ x. IsBefore x q) (sym (only r e.0)) before)

      leaves : (a b : DeclarationId) → Leads (ComposesFrom files q) a b → a ≡ q → ⊥
      leaves a b (step x y e) is = first y (subst (λ z. ComposesFrom files q z y) is e)
      leaves a b (further x y z e k) is = first y (subst (λ w. ComposesFrom files q w y) is e)

  pub no_first : (place : Place) → ((p q : DeclarationId) → Composes files p q → ⊥) → IsFirstOfCycle files place → ⊥
  no_first place none h = leads (h.id) (h.id) h.back
    where
      leads : (a b : DeclarationId) → Leads (ComposesFrom files h.id) a b → ⊥
      leads a b (step x y e) = none x y e.0
      leads a b (further x y z e k) = none x y e.0

  one_place : (p q : DeclarationId) (k : ℕ) → slice_get (p ∷ []) k ≡ Some q → (k ≡ 0) × (p ≡ q)
  one_place p q zero is = (refl, same_Some p q is)
  one_place p q (suc k) is = absurd (none-some q is)

  pub edge_lacks : (p : DeclarationId) → Composes files p p → AreCompositions files (p ∷ [], [] ∷ []) → ⊥
  edge_lacks p h c =
      let e = (c.edges 0 0).1 (record { composing = p; one_at = refl; is = record { composed = p; composes = h; number_at = refl } }) in
      let none : [] ≡ e.targets = same_Some [] e.targets e.stands in
      nothing_there 0 (subst (λ l. Contains l 0) (sym none) e.among)

  pub edge_more : (p : DeclarationId) → (Composes files p p → ⊥) → AreCompositions files (p ∷ [], (0 ∷ []) ∷ []) → ⊥
  edge_more p none c =
      let by = (c.edges 0 0).0 (record { targets = 0 ∷ []; stands = refl; among = here 0 [] }) in
      let from : p ≡ by.composing = (one_place p by.composing 0 by.one_at).1 in
      let to : p ≡ by.is.composed = (one_place p by.is.composed 0 by.is.number_at).1 in
      none (subst (λ x. Composes files x p) (sym from) (subst (Composes files by.composing) (sym to) by.is.composes))

  pub number_itself : (p : DeclarationId) → ReachesByNumber files (p ∷ []) 0 0
  number_itself p = record { from = p; to = p; one_at = refl; other_at = refl; reaches = inl refl }

  pub number_past : (p : DeclarationId) → ReachesByNumber files (p ∷ []) 0 1 → ⊥
  number_past p h = none-some h.to h.other_at

pub none_numbered : AreCompositions [] ([], [])
none_numbered = record {
  protocols = none_listed;
  long = refl;
  edges = λ one other. ((λ e. absurd (none-some e.targets e.stands)), (λ c. absurd (none-some c.composing c.one_at)));
}
