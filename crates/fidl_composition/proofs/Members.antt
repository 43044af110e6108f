-- What a protocol composes, one member and one protocol more at a time.
use Rattle.std.proofs.Common.{◌≡◌, ◌⊎◌, ℕ, List, [], ◌∷◌, ◌++◌, Some, None, length, map, inl, inr, refl, sym, subst, ◌∙◌, arith}
use Rattle.std.specs.Prelude.{◌↔◌, slice_get}
use Rattle.std.specs.List.{Contains, Any, AllByRecursion}
use Rattle.std.proofs.lemmas.List.{length_push}
use Rattle.std.proofs.lemmas.List.Elements.{Contains-push, Contains-push_cases, Contains-append_left}
use Rattle.std.proofs.lemmas.Option.{slice_get_within, none-some}
use Rattle.fidl_span.specs.declared.words.Span.{Span}
use Rattle.fidl_tree.specs.Syntax.{Path, Attribute, Openness, ProtocolMember, compose_member}
use Rattle.fidl_tree.specs.Views.{openness_view, protocol_member_view}
use Rattle.fidl_tree.specs.declared.file.File.{File}
use Rattle.fidl_tree.specs.declared.declaration.ProtocolDeclaration.{ProtocolDeclaration}
use Rattle.fidl_tree.specs.declared.protocol.ProtocolMember as code
use Rattle.fidl_named.specs.declared.place.DeclarationId.{DeclarationId}
use Rattle.fidl_named.specs.Meanings.{IsJust}
use Rattle.fidl_named.specs.Paths.{path_place}
use Rattle.fidl_cycles.proofs.Lists.{all_at, pick, any_of}
use Rattle.fidl_composition.specs.Compositions.{MeansProtocol, ComposesAt, MayCompose, ProtocolHolds}
use Rattle.fidl_composition.specs.Numbers.{IsComposedNumber}
use Rattle.fidl_composition.specs.Tables.{IsProtocolNode, IsWritten, IsTarget, IsTargetBy, PathHolds, MemberHolds, IsComposedRow, AreComposedRows}
use Rattle.fidl_composition.proofs.Lists.{map_there, map_back, same_at}
use Rattle.fidl_composition.proofs.Nodes.{at_node, one_members, openness_is}

module _ (files : List File) (p : DeclarationId) (d : ProtocolDeclaration) (node : IsProtocolNode files p d) where
  -- what a path of a protocol means it composes
  pub composes_by : (path : Path) (q : DeclarationId) → IsWritten d path → MeansProtocol files p.file path q → ComposesAt files p (path_place path) q
  composes_by path q written means = record {
    file = node.file;
    openness = openness_view d.openness;
    name = d.name;
    members = map protocol_member_view d.members.items;
    attributes = written.0;
    path = path;
    is = at_node files p d node;
    among = written.1;
    means = means;
    place = refl;
  }

  -- what it composes, a member of it means
  pub member_of : (span : Span) (q : DeclarationId) (h : ComposesAt files p span q) → Contains (map protocol_member_view d.members.items) (compose_member h.attributes h.path)
  member_of span q h =
      let same = one_members files p h.file node.file h.openness (openness_view d.openness) h.name d.name h.members (map protocol_member_view d.members.items) h.is (at_node files p d node) in
      subst (λ ms. Contains ms (compose_member h.attributes h.path)) same h.among

  -- where all members hold, it composes what it may
  pub protocol_holds : AllByRecursion (λ (m : code.ProtocolMember). MemberHolds files p.file (openness_view d.openness) (protocol_member_view m)) d.members.items → ProtocolHolds files p
  protocol_holds all q one other composes one_is other_is =
      let h = composes.1 in
      let r = map_back protocol_member_view d.members.items (compose_member h.attributes h.path) (member_of composes.0 q h) in
      let holds = all_at (λ (m : code.ProtocolMember). MemberHolds files p.file (openness_view d.openness) (protocol_member_view m)) d.members.items r.0 all r.1 in
      subst (λ o. MayCompose o other) (openness_is files p d one node one_is) (holds h.attributes h.path r.2 q other h.means other_is)

  -- the numbers that its members mean are those of what it composes
  module _ (ids : List DeclarationId) (row : List ℕ) (numbers : (t : ℕ) → Contains row t ↔ Any (λ (m : code.ProtocolMember). IsTargetBy files p.file ids (protocol_member_view m) t) d.members.items) where
    abbrev ByMember : ℕ → code.ProtocolMember → Type 0
    ByMember t m = IsTargetBy files p.file ids (protocol_member_view m) t

    row_sound : (t : ℕ) → Contains row t → IsComposedNumber files ids p t
    row_sound t c =
        let m = pick (ByMember t) d.members.items ((numbers t).0 c) in
        let by = m.holds in
        let among : Contains (map protocol_member_view d.members.items) (compose_member by.attributes by.path) = subst (Contains (map protocol_member_view d.members.items)) by.is (map_there protocol_member_view d.members.items m.item m.among) in
        record { composed = by.target.id; composes = (path_place by.path, composes_by by.path by.target.id (by.attributes, among) by.target.means); number_at = by.target.number_at }

    row_complete : (t : ℕ) → IsComposedNumber files ids p t → Contains row t
    row_complete t c =
        let h = c.composes.1 in
        let r = map_back protocol_member_view d.members.items (compose_member h.attributes h.path) (member_of c.composes.0 c.composed h) in
        let by : IsTargetBy files p.file ids (protocol_member_view r.0) t = record { attributes = h.attributes; path = h.path; is = r.2; target = record { id = c.composed; means = h.means; number_at = c.number_at } } in
        (numbers t).1 (any_of (ByMember t) d.members.items r.0 r.1 by)

    pub composed_row : IsComposedRow files ids p row
    composed_row t = (row_sound t, row_complete t)

module _ (files : List File) (number : ℕ) (ids : List DeclarationId) where
  -- the member that composes by a path
  pub by_path : (m : ProtocolMember) (attributes : List Attribute) (path : Path) (t : ℕ) → m ≡ compose_member attributes path → IsTargetBy files number ids m t → IsTarget files number ids path t
  by_path m attributes path t is by =
      let both : compose_member by.attributes by.path ≡ compose_member attributes path = sym by.is ∙ is in
      let same : by.path ≡ path = cc in
      subst (λ x. IsTarget files number ids x t) same by.target

  pub path_holds : (o : Openness) (m : ProtocolMember) (attributes : List Attribute) (path : Path) → m ≡ compose_member attributes path → PathHolds files number o path → MemberHolds files number o m
  path_holds o m attributes path is h attributes_again path_again again =
      let both : compose_member attributes path ≡ compose_member attributes_again path_again = sym is ∙ again in
      let same : path ≡ path_again = cc in
      subst (PathHolds files number o) same h

  -- the numbers of a row, with what one member more composes
  module _ (m : ProtocolMember) (row : List ℕ) where
    module _ (attributes : List Attribute) (path : Path) (is : m ≡ compose_member attributes path) where
      pub row_none : IsJust (IsTarget files number ids path) None → (t : ℕ) → Contains row t ↔ (Contains row t ⊎ IsTargetBy files number ids m t)
      row_none none t = ((λ c. inl c), back)
        where
          back : Contains row t ⊎ IsTargetBy files number ids m t → Contains row t
          back (inl c) = c
          back (inr by) = absurd (none t (by_path m attributes path t is by))

      pub row_some : (more : List ℕ) (x : ℕ) → more ≡ row ++ x ∷ [] → IsJust (IsTarget files number ids path) (Some x) → (t : ℕ) → Contains more t ↔ (Contains row t ⊎ IsTargetBy files number ids m t)
      row_some more x now just t = ((λ c. there (Contains-push_cases row x t (subst (λ l. Contains l t) now c))), (λ h. subst (λ l. Contains l t) (sym now) (back h)))
        where
          there : Contains row t ⊎ (x ≡ t) → Contains row t ⊎ IsTargetBy files number ids m t
          there (inl c) = inl c
          there (inr same) = inr (record { attributes = attributes; path = path; is = is; target = subst (IsTarget files number ids path) same just.0 })

          back : Contains row t ⊎ IsTargetBy files number ids m t → Contains (row ++ x ∷ []) t
          back (inl c) = Contains-append_left row (x ∷ []) t c
          back (inr by) = subst (Contains (row ++ x ∷ [])) (sym (just.1 t (by_path m attributes path t is by))) (Contains-push row x)

-- no row yet
pub no_rows : (files : List File) (ids : List DeclarationId) → AreComposedRows files ids [] []
no_rows files ids = record { long = refl; each = λ n p row at is. absurd (none-some p at) }

-- one row more
module _ (files : List File) (ids done : List DeclarationId) (p : DeclarationId) (rows : List (List ℕ)) (row : List ℕ) (old : AreComposedRows files ids done rows) (new : IsComposedRow files ids p row) where
  row_there : (n : ℕ) (q : DeclarationId) (r : List ℕ) → slice_get (done ++ p ∷ []) n ≡ Some q → slice_get (rows ++ row ∷ []) n ≡ Some r → IsComposedRow files ids q r
  row_there n q r at is = either (same_at done p n q at) (same_at rows row n r is)
    where
      either : (slice_get done n ≡ Some q) ⊎ ((n ≡ length done) × (q ≡ p)) → (slice_get rows n ≡ Some r) ⊎ ((n ≡ length rows) × (r ≡ row)) → IsComposedRow files ids q r
      either (inl a) (inl b) = old.each n q r a b
      either (inl a) (inr b) = let within = slice_get_within done n q a in let last = b.0 in let long = old.long in absurd (omega (arith, within, last, long))
      either (inr a) (inl b) = let within = slice_get_within rows n r b in let last = a.0 in let long = old.long in absurd (omega (arith, within, last, long))
      either (inr a) (inr b) = subst (λ (x : DeclarationId). IsComposedRow files ids x r) (sym a.1) (subst (IsComposedRow files ids p) (sym b.1) new)

  pub rows_more : AreComposedRows files ids (done ++ p ∷ []) (rows ++ row ∷ [])
  rows_more =
      let long = old.long in
      let a = length_push done p in
      let b = length_push rows row in
      record { long = omega (arith, long, a, b); each = row_there }
