use Rattle.std.proofs.Common.{◌≡◌, ◌<◌, ◌≤◌, ◌+◌, ◌++◌, ◌∷◌, [], ℕ, List, Option, length, take, get_or, ap, sym, subst, ◌∙◌, true≢false, arith}
use Rattle.std.specs.Global.{Vec}
use Rattle.std.proofs.Math.ListN.{get_or-map, length-map}
use Rattle.std.proofs.lemmas.List.{take_all, take_more}
use Rattle.fidl_tree.specs.Syntax.{Path}
use Rattle.fidl_named.specs.declared.meaning.Wanted.{Wanted}
use Rattle.fidl_named.specs.declared.meaning.Meaning.{Meaning}
use Rattle.fidl_named.specs.Meanings.{Means, IsJust}
use Rattle.fidl_named.specs.Paths.{texts}
use Rattle.fidl_tree.specs.Views.{path_view}
use Rattle.fidl_const.specs.declared.graph.NameUse.{NameUse}
use Rattle.fidl_consts.specs.Dependencies.{IsKnownNode}
use Rattle.fidl_const.specs.Columns.{AreTargets, name_uses_view}
use Rattle.fidl_consts.specs.Tables.{number_of}
use Rattle.fidl_const.proofs.Targets.{target_none, target_more}
use Rattle.fidl_const.proofs.graph.targets.Goals.{in-Some+then-is_node+in_ok-push, in-Some+else-is_node, in_default}
use Rattle.fidl_const.proofs.graph.targets.Goals as goal

pub loop-name-preserved : goal.loop-name-preserved
loop-name-preserved c = λ f at.
    let fs = c.args.named.now in
    let ss = c.args.numbers.now.starts.items in
    let i = c.loop-name.name-index in
    let items = c.args.uses.now in
    let us = name_uses_view items in
    let name = c.name-item.result in
    let kind = name.kind in
    let path = path_view name.path.now in
    let inside = c.loop-name-test.true in
    let lt : i < length us = omega (arith, inside, length-map {B = Wanted × Path} items (λ (u : NameUse). (u.kind, path_view u.path.now))) in
    let is : ◌≡◌ {A = Wanted × Path} (kind, path) (get_or us i (kind, path)) =
    ap (λ (u : NameUse). (u.kind, path_view u.path.now)) c.name-item.is ∙ sym (get_or-map (λ (u : NameUse). (u.kind, path_view u.path.now)) items i name) in
    let before = c.loop-name.row.items in
    let more : take (i + 1) us ≡ take i us ++ (kind, path) ∷ [] = take_more us i (kind, path) lt ∙ ap (λ (x : Wanted × Path). take i us ++ x ∷ []) (sym is) in
    let just = c.in_ok-meaning.ensures f at in
    let old = c.loop-name.invariant f at in
    subst (λ (l : List (Wanted × Path)). AreTargets fs f ss l c.match-branch-2.row.items) (sym more)
    (elim c.match-branch-2.branch as (λ _. AreTargets fs f ss (take i us ++ (kind, path) ∷ []) c.match-branch-2.row.items) [
      | in-Some+then-is_node+in_ok-push w ↦
          let m = w.in-Some.meaning in
          let its = subst (λ (o : Option Meaning). IsJust (Means fs f kind (texts f.src.now path)) o) w.in-Some.is just in
          let now : c.match-branch-2.row.items ≡ before ++ number_of ss m ∷ [] =
          ap (λ (v : Vec ℕ). v.items) w.row-is ∙ w.in_ok-push.ensures.items ∙ ap (λ n. before ++ n ∷ []) (w.node_number.ensures ∙ ap (λ (l : List (Vec ℕ)). number_of l m) w.deref.ensures.value) in
          subst (AreTargets fs f ss (take i us ++ (kind, path) ∷ [])) (sym now) (target_more fs f ss (take i us) kind path before old m its.0 (w.is_node.ensures.0 w.if-is_node.true))
      | in-Some+else-is_node w ↦
          let m = w.in-Some.meaning in
          let its = subst (λ (o : Option Meaning). IsJust (Means fs f kind (texts f.src.now path)) o) w.in-Some.is just in
          let now : c.match-branch-2.row.items ≡ before = ap (λ (v : Vec ℕ). v.items) w.row-is in
          subst (AreTargets fs f ss (take i us ++ (kind, path) ∷ [])) (sym now)
          (target_none fs f ss (take i us) kind path before old (λ other means node.
          let here = subst (IsKnownNode fs) (its.1 other means) node in
          true≢false (sym (w.is_node.ensures.1 here) ∙ w.if-is_node.false)))
      | in_default w ↦
          let none = subst (λ (o : Option Meaning). IsJust (Means fs f kind (texts f.src.now path)) o) w.in_default.is just in
          let now : c.match-branch-2.row.items ≡ before = ap (λ (v : Vec ℕ). v.items) w.row-is in
          subst (AreTargets fs f ss (take i us ++ (kind, path) ∷ [])) (sym now) (target_none fs f ss (take i us) kind path before old (λ other means node. none other means))
    ])

pub returns : goal.returns
returns c = λ f at.
    let us = name_uses_view c.args.uses.now in
    let i = c.loop-name.name-index in
    let past = c.loop-name-test.false in
    let over : length us ≤ i = omega (arith, past, length-map {B = Wanted × Path} c.args.uses.now (λ (u : NameUse). (u.kind, path_view u.path.now))) in
    subst (λ (l : List (Wanted × Path)). AreTargets c.args.named.now f c.args.numbers.now.starts.items l c.loop-name.row.items)
    (take_all i us over) (c.loop-name.invariant f at)
