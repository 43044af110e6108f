-- By which composition a protocol reaches another, as the code finds it.
use Rattle.std.proofs.Common.{◌≡◌, ◌∙◌, ℕ, List, true, Some, map, nat_eq, refl, sym, subst}
use Rattle.std.specs.Prelude.{slice_get}
use Rattle.std.specs.Bool.{Decides}
use Rattle.std.specs.List.{Contains, AllByRecursion, list_any}
use Rattle.std.proofs.lemmas.List.Folds.{Any-from_list_any, list_any-from_Any}
use Rattle.std.proofs.lemmas.Bool.Decides.{Decides-eqb}
use Rattle.std.proofs.lemmas.Option.{same_Some}
use Rattle.fidl_span.specs.declared.words.Span.{Span}
use Rattle.fidl_tree.specs.Syntax.{Path, Attribute, ProtocolMember, compose_member}
use Rattle.fidl_tree.specs.Views.{protocol_member_view}
use Rattle.fidl_tree.specs.declared.file.File.{File}
use Rattle.fidl_tree.specs.declared.declaration.ProtocolDeclaration.{ProtocolDeclaration}
use Rattle.fidl_tree.specs.declared.protocol.ProtocolMember as code
use Rattle.fidl_named.specs.declared.place.DeclarationId.{DeclarationId}
use Rattle.fidl_cycles.proofs.Lists.{all_at, pick, any_of}
use Rattle.fidl_composition.specs.Compositions.{MeansProtocol, ComposesAt, Composes, Reaches, IsWay}
use Rattle.fidl_composition.specs.Numbers.{ReachesByNumber}
use Rattle.fidl_composition.specs.Tables.{IsProtocolNode, IsWayBy}
use Rattle.fidl_composition.proofs.Lists.{map_there, map_back}
use Rattle.fidl_composition.proofs.Members.{composes_by, member_of}

module _ (files : List File) (ids : List DeclarationId) (p q : DeclarationId) (one other : ℕ) (one_at : slice_get ids one ≡ Some p) (other_at : slice_get ids other ≡ Some q) where
  pub reaches_by : ReachesByNumber files ids one other → Reaches files p q
  reaches_by h =
      subst (λ (x : DeclarationId). Reaches files x q) (same_Some h.from p (sym h.one_at ∙ one_at))
      (subst (λ (x : DeclarationId). Reaches files h.from x) (same_Some h.to q (sym h.other_at ∙ other_at)) h.reaches)

  pub by_number : Reaches files p q → ReachesByNumber files ids one other
  by_number h = record { from = p; to = q; one_at = one_at; other_at = other_at; reaches = h }

module _ (files : List File) (number : ℕ) (m : ProtocolMember) (q : DeclarationId) where
  abbrev pub NoWay : Type 0
  NoWay = (span : Span) → IsWayBy files number m q span → ⊥

  module _ (attributes : List Attribute) (path : Path) (is : m ≡ compose_member attributes path) where
    same_path : (span : Span) (h : IsWayBy files number m q span) → h.path ≡ path
    same_path span h =
        let both : compose_member h.attributes h.path ≡ compose_member attributes path = sym h.is ∙ is in
        cc

    pub nothing_meant : ((r : DeclarationId) → MeansProtocol files number path r → ⊥) → NoWay
    nothing_meant none span h = none h.through (subst (λ x. MeansProtocol files number x h.through) (same_path span h) h.means)

    pub not_reached : (r : DeclarationId) → ((s : DeclarationId) → MeansProtocol files number path s → s ≡ r) → (Reaches files r q → ⊥) → NoWay
    not_reached r only not span h =
        let same = only h.through (subst (λ x. MeansProtocol files number x h.through) (same_path span h) h.means) in
        not (subst (λ (x : DeclarationId). Reaches files x q) same h.reaches)

-- all members of a protocol
module _ (files : List File) (p : DeclarationId) (d : ProtocolDeclaration) (node : IsProtocolNode files p d) (q : DeclarationId) where
  pub way_is : (m : code.ProtocolMember) → Contains d.members.items m → (span : Span) → IsWayBy files p.file (protocol_member_view m) q span → IsWay files p q (record { file = p.file; span = span })
  way_is m among span h =
      let there : Contains (map protocol_member_view d.members.items) (compose_member h.attributes h.path) = subst (Contains (map protocol_member_view d.members.items)) h.is (map_there protocol_member_view d.members.items m among) in
      record {
        through = h.through;
        composes = subst (λ (s : Span). ComposesAt files p s h.through) (sym h.place) (composes_by files p d node h.path h.through (h.attributes, there) h.means);
        reaches = h.reaches;
        file_is = refl;
      }

  pub no_way : AllByRecursion (λ (m : code.ProtocolMember). NoWay files p.file (protocol_member_view m) q) d.members.items → (r : DeclarationId) → Composes files p r → Reaches files r q → ⊥
  no_way all r composes reaches =
      let h = composes.1 in
      let back = map_back protocol_member_view d.members.items (compose_member h.attributes h.path) (member_of files p d node composes.0 r h) in
      all_at (λ (m : code.ProtocolMember). NoWay files p.file (protocol_member_view m) q) d.members.items back.0 all back.1 composes.0
      (record { attributes = h.attributes; path = h.path; is = back.2; through = r; means = h.means; reaches = reaches; place = h.place })

-- the test of a list of numbers
pub among_test : (xs : List ℕ) (x : ℕ) → Decides (list_any (λ y. nat_eq y x) xs) (Contains xs x)
among_test xs x = (
  λ e. let p = pick (λ (y : ℕ). nat_eq y x ≡ true) xs (Any-from_list_any (λ y. nat_eq y x) xs e) in subst (Contains xs) ((Decides-eqb p.item x).0 p.holds) p.among,
  λ h. list_any-from_Any (λ y. nat_eq y x) xs (any_of (λ (y : ℕ). nat_eq y x ≡ true) xs x h ((Decides-eqb x x).1 refl)),
)
