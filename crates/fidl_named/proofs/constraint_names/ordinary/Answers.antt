use Rattle.std.proofs.Common.{◌≡◌, ◌++◌, ◌<◌, ◌∷◌, [], Bor, length, map, get_or, not, ap, sym, ◌∙◌, arith}
use Rattle.std.specs.Global.{Vec}
use Rattle.std.proofs.lemmas.List.{map-append}
use Rattle.std.proofs.Math.ListN.{get_or-map, length-map}
use Rattle.fidl_tree.specs.Syntax.{Value}
use Rattle.fidl_tree.specs.Views.{value_view}
use Rattle.fidl_tree.specs.declared.value.Value.{Value as Tree}
use Rattle.fidl_named.specs.Constraints.{is_optional}
use Rattle.fidl_named.proofs.Judging.{passes, fails}
use Rattle.fidl_named.proofs.constraint_names.ordinary.Goals as goal
use Rattle.fidl_named.proofs.constraint_names.ordinary.Goals.{then-not-branch+in_ok-push, else-not-branch}

pub loop-value-preserved : goal.loop-value-preserved
loop-value-preserved c =
    let f = c.args.file.now in
    let seen = λ (v : Bor Tree). value_view v.now in
    let test = λ (v : Value). not (is_optional f v) in
    let all = c.deref-value-items.result.now in
    let xs = map seen all in
    let i = c.loop-value.value-index in
    let item = c.value-item.result in
    let lt = c.loop-value-test.true in
    let within : i < length xs = omega (arith, length-map all seen) in
    let is : (seen item) ≡ get_or xs i (seen item) = ap seen c.value-item.is ∙ sym (get_or-map seen all i item) in
    let word : c.in_ok-is_optional.field-0 ≡ is_optional f (seen item) = c.in_ok-is_optional.ensures in
    elim c.if-not-branch.branch [
      | then-not-branch+in_ok-push w ↦
          ap (λ (v : Vec (Bor Tree)). map seen v.items) w.found-is
          ∙ ap (map seen) w.in_ok-push.ensures.items
          ∙ map-append seen c.loop-value.found.items (item ∷ [])
          ∙ ap (λ l. l ++ seen item ∷ []) c.loop-value.invariant
          ∙ sym (passes xs i (seen item) is test within (ap not (sym word ∙ w.if-not-branch.true)))
      | else-not-branch w ↦
          ap (λ (v : Vec (Bor Tree)). map seen v.items) w.found-is
          ∙ c.loop-value.invariant
          ∙ sym (fails xs i (seen item) is test within (ap not (sym word ∙ w.if-not-branch.false)))
    ]
