use Rattle.std.proofs.Common.{◌≡◌, ◌<◌, ◌≤◌, ◌++◌, ◌∷◌, [], ℕ, List, Option, Some, length, take, get_or, ap, sym, subst, ◌∙◌, arith}
use Rattle.std.specs.Global.{Vec}
use Rattle.std.proofs.Math.ListN.{get_or-map, length-map}
use Rattle.std.proofs.lemmas.List.{take_all}
use Rattle.std.proofs.lemmas.Option.{slice_get_within}
use Rattle.fidl_tree.specs.Syntax.{Path}
use Rattle.fidl_tree.specs.Views.{path_view}
use Rattle.fidl_tree.specs.declared.file.File.{File}
use Rattle.fidl_names.specs.declared.outer_types.OuterType.{OuterType}
use Rattle.fidl_named.specs.declared.place.DeclarationId.{DeclarationId}
use Rattle.fidl_named.specs.declared.meaning.Wanted.TheVariants as wanted
use Rattle.fidl_named.specs.Meanings.{IsJust}
use Rattle.fidl_named.specs.Paths.{texts}
use Rattle.fidl_names.specs.AliasGraph.{IsMeant, AreTargets}
use Rattle.fidl_named.specs.FullNames.{HasDeclaration}
use Rattle.fidl_names.specs.DeclarationNumbers.{number_of}
use Rattle.fidl_named.specs.ReferenceViews.{optional_path_view}
use Rattle.fidl_names.specs.OuterViews.{read_types}
use Rattle.fidl_cycles.proofs.Lists.{take_item}
use Rattle.fidl_names.proofs.AliasNames.{read_id}
use Rattle.fidl_names.proofs.AliasEdges.{target_none, target_more}
use Rattle.fidl_names.proofs.alias_graph.targets.Goals.{in-Some+in_ok-push, in_default}
use Rattle.fidl_names.proofs.alias_graph.targets.Goals as goal

-- what is meant is declared
declared : (fs : List File) (f : File) (of : Option Path) (path : Path) (o : Option DeclarationId) (q : DeclarationId) → IsJust (IsMeant fs f of path) o → o ≡ Some q → HasDeclaration fs q
declared fs f of path o q h is =
    let just = subst (λ (o : Option DeclarationId). IsJust (IsMeant fs f of path) o) is h in
    read_id fs f wanted.«Type» (texts f.src.now path) q just.0.means.0

pub number-requires-clause-file : goal.number-requires-clause-file
number-requires-clause-file c =
    let outer = c.outer-item.result in
    let there = declared c.args.scope.now.names.set.now c.args.scope.now.file.now (optional_path_view outer.argument_of) (path_view outer.path.now) c.in_ok-meant.meant c.in-Some.id c.in_ok-meant.ensures c.in-Some.is in
    let inside : c.in-Some.id.file < length c.args.scope.now.names.set.now = slice_get_within c.args.scope.now.names.set.now c.in-Some.id.file there.file there.file_at in
    omega (arith, inside, c.requires.long)

pub number-requires-clause-fits : goal.number-requires-clause-fits
number-requires-clause-fits c =
    let q = c.in-Some.id in
    let outer = c.outer-item.result in
    let there = declared c.args.scope.now.names.set.now c.args.scope.now.file.now (optional_path_view outer.argument_of) (path_view outer.path.now) c.in_ok-meant.meant q c.in_ok-meant.ensures c.in-Some.is in
    slice_get_within c.args.numbers.now.ids.items (number_of c.args.numbers.now.starts.items q) q (c.requires.numbered q there)

pub loop-outer-preserved : goal.loop-outer-preserved
loop-outer-preserved c =
    let fs = c.args.scope.now.names.set.now in
    let f = c.args.scope.now.file.now in
    let ss = c.args.numbers.now.starts.items in
    let i = c.loop-outer.outer-index in
    let items = c.deref-outer-items.result.now in
    let ts = read_types items in
    let outer = c.outer-item.result in
    let of = optional_path_view outer.argument_of in
    let path = path_view outer.path.now in
    let inside = c.loop-outer-test.true in
    let lt : i < length ts = omega (arith, inside, length-map {B = Option Path × Path} items (λ (t : OuterType). (optional_path_view t.argument_of, path_view t.path.now))) in
    let at : ◌≡◌ {A = Option Path × Path} (of, path) (get_or ts i (of, path)) =
    ap (λ (t : OuterType). (optional_path_view t.argument_of, path_view t.path.now)) c.outer-item.is ∙ sym (get_or-map (λ (t : OuterType). (optional_path_view t.argument_of, path_view t.path.now)) items i outer) in
    let before = c.loop-outer.found.items in
    let more = take_item ts i (of, path) lt at in
    subst (λ (l : List (Option Path × Path)). AreTargets fs f ss l c.match-meant.found.items) (sym more)
    (elim c.match-meant.branch as (λ _. AreTargets fs f ss (take i ts ++ (of, path) ∷ []) c.match-meant.found.items) [
      | in-Some+in_ok-push w ↦
          let q = w.in-Some.id in
          let just = subst (λ (o : Option DeclarationId). IsJust (IsMeant fs f of path) o) w.in-Some.is c.in_ok-meant.ensures in
          let now : c.match-meant.found.items ≡ before ++ number_of ss q ∷ [] = ap (λ (v : Vec ℕ). v.items) w.found-is ∙ w.in_ok-push.ensures.items ∙ ap (λ n. before ++ n ∷ []) w.number.ensures in
          subst (AreTargets fs f ss (take i ts ++ (of, path) ∷ [])) (sym now) (target_more fs f ss (take i ts) of path before c.loop-outer.invariant q just)
      | in_default w ↦
          let none = subst (λ (o : Option DeclarationId). IsJust (IsMeant fs f of path) o) w.in_default.is c.in_ok-meant.ensures in
          let now : c.match-meant.found.items ≡ before = ap (λ (v : Vec ℕ). v.items) w.found-is in
          subst (AreTargets fs f ss (take i ts ++ (of, path) ∷ [])) (sym now) (target_none fs f ss (take i ts) of path before c.loop-outer.invariant none)
    ])

pub returns : goal.returns
returns c =
    let items = c.deref-outer-items.result.now in
    let i = c.loop-outer.outer-index in
    let past = c.loop-outer-test.false in
    let over : length (read_types items) ≤ i = omega (arith, past, length-map {B = Option Path × Path} items (λ (t : OuterType). (optional_path_view t.argument_of, path_view t.path.now))) in
    subst (λ (l : List (Option Path × Path)). AreTargets c.args.scope.now.names.set.now c.args.scope.now.file.now c.args.numbers.now.starts.items l c.loop-outer.found.items)
    (take_all i (read_types items) over ∙ ap read_types c.deref-outer-items.ensures.value ∙ c.in_ok-types.ensures) c.loop-outer.invariant
