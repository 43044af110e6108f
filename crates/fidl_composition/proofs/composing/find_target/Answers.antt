use Rattle.std.proofs.Common.{◌≡◌, List, Option, Some, None, ℕ, subst}
use Rattle.std.specs.Prelude.{slice_get}
use Rattle.std.proofs.lemmas.Option.{slice_get_within}
use Rattle.fidl_tree.specs.Syntax.{Path}
use Rattle.fidl_tree.specs.declared.file.File.{File}
use Rattle.fidl_tree.specs.Views.{path_view}
use Rattle.fidl_named.specs.declared.place.DeclarationId.{DeclarationId}
use Rattle.fidl_named.specs.Meanings.{IsJust}
use Rattle.fidl_composition.specs.Protocols.{HasOpenness}
use Rattle.fidl_composition.specs.Compositions.{MeansProtocol}
use Rattle.fidl_composition.proofs.Nodes.{meant_protocol}
use Rattle.fidl_composition.proofs.Members.{composes_by}
use Rattle.fidl_composition.proofs.Order.{one_number}
use Rattle.fidl_composition.proofs.composing.find_target.Goals as goal

module _ (files : List File) (number : ℕ) (path : Path) (o : Option DeclarationId) (h : IsJust (MeansProtocol files number path) o) where
  none : o ≡ None → (q : DeclarationId) → MeansProtocol files number path q → ⊥
  none is = subst (IsJust (MeansProtocol files number path)) is h

  just : (q : DeclarationId) → o ≡ Some q → IsJust (MeansProtocol files number path) (Some q)
  just q is = subst (IsJust (MeansProtocol files number path)) is h

pub protocol_meant-requires : goal.protocol_meant-requires
protocol_meant-requires c =
    let node = c.requires.protocol in
    slice_get_within c.args.scope.now.named.now c.args.scope.now.id.file node.file node.at.file_at

pub returns-in_default-clause-ok : goal.returns-in_default-clause-ok
returns-in_default-clause-ok c = λ t h. none c.args.scope.now.named.now c.args.scope.now.id.file (path_view c.args.path.now) c.in_ok-composed.field-0 c.in_ok-composed.ensures c.in_default.is h.id h.means

pub returns-in_default-clause-holds : goal.returns-in_default-clause-holds
returns-in_default-clause-holds c = λ q other h its. absurd (none c.args.scope.now.named.now c.args.scope.now.id.file (path_view c.args.path.now) c.in_ok-composed.field-0 c.in_ok-composed.ensures c.in_default.is q h)

pub check_openness-requires-clause-composes : goal.check_openness-requires-clause-composes
check_openness-requires-clause-composes c =
    let fs = c.args.scope.now.named.now in
    let p = c.args.scope.now.id in
    let path = path_view c.args.path.now in
    let q = c.in-Some.composed in
    composes_by fs p c.args.scope.now.protocol.now c.requires.protocol path q c.requires.written (just fs p.file path c.in_ok-composed.field-0 c.in_ok-composed.ensures q c.in-Some.is).0

pub number-requires : goal.number-requires
number-requires c =
    let fs = c.args.scope.now.named.now in
    let p = c.args.scope.now.id in
    let path = path_view c.args.path.now in
    let q = c.in-Some.composed in
    c.requires.numbered.numbers q (meant_protocol fs p.file path q (just fs p.file path c.in_ok-composed.field-0 c.in_ok-composed.ensures q c.in-Some.is).0)

pub returns-clause-ok : goal.returns-clause-ok
returns-clause-ok c =
    let fs = c.args.scope.now.named.now in
    let p = c.args.scope.now.id in
    let path = path_view c.args.path.now in
    let q = c.in-Some.composed in
    let ids = c.args.scope.now.numbers.now.ids.items in
    let its = just fs p.file path c.in_ok-composed.field-0 c.in_ok-composed.ensures q c.in-Some.is in (
      record { id = q; means = its.0; number_at = c.number.ensures },
      λ t h. one_number ids c.requires.numbered.protocols.rise t c.number.result q (subst (λ (x : DeclarationId). slice_get ids t ≡ Some x) (its.1 h.id h.means) h.number_at) c.number.ensures,
    )

pub returns-clause-holds : goal.returns-clause-holds
returns-clause-holds c = λ q other h open_is.
    let fs = c.args.scope.now.named.now in
    let p = c.args.scope.now.id in
    let path = path_view c.args.path.now in
    let its = just fs p.file path c.in_ok-composed.field-0 c.in_ok-composed.ensures c.in-Some.composed c.in-Some.is in
    c.in_ok-check_openness.ensures.ok other (subst (λ (x : DeclarationId). HasOpenness fs x other) (its.1 q h) open_is)
