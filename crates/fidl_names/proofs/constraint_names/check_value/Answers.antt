use Rattle.std.proofs.Common.{◌≡◌, ◌<◌, Bor, map, length, get_or, ap, sym, subst, ◌∙◌, arith, inr}
use Rattle.std.specs.List.{Contains}
use Rattle.std.proofs.lemmas.List.Elements.{Contains-get_or}
use Rattle.std.proofs.lemmas.Result.{err_from_is_err_and}
use Rattle.std.proofs.Math.ListN.{get_or-map, length-map}
use Rattle.fidl_tree.specs.Syntax.{Path}
use Rattle.fidl_tree.specs.Views.{path_view, value_view}
use Rattle.fidl_tree.specs.declared.path.Path.{Path as Tree}
use Rattle.fidl_named.specs.declared.meaning.Meaning.{Meaning}
use Rattle.fidl_named.specs.declared.meaning.Wanted.TheVariants as wanted
use Rattle.fidl_named.specs.Meanings.{Means}
use Rattle.fidl_named.specs.Paths.{texts}
use Rattle.fidl_named.specs.Places.{value_paths}
use Rattle.fidl_named.specs.Constraints.{NameOfValueFails}
use Rattle.fidl_named.specs.Scopes.{IsMemoryOr}
use Rattle.fidl_cycles.proofs.Lists.{all_take}
use Rattle.fidl_named.proofs.PathViews.{means_seen, refusal_seen}
use Rattle.fidl_names.proofs.constraint_names.check_value.Goals as goal

pub returns-in_err-read-clause-fault_is_true : goal.returns-in_err-read-clause-fault_is_true
returns-in_err-read-clause-fault_is_true c =
    let seen = λ (p : Bor Tree). path_view p.now in
    let found = c.deref-path-items.result.now in
    let ps = map seen found in
    let i = c.loop-path.path-index in
    let item = c.path-item.result in
    let lt = c.loop-path-test.true in
    let within : i < length ps = omega (arith, length-map found seen) in
    let is : seen item ≡ get_or ps i (seen item) = ap seen c.path-item.is ∙ sym (get_or-map seen found i item) in
    let whole : ps ≡ value_paths (value_view c.args.value.now) = ap (map seen) c.deref-path-items.ensures.value ∙ c.in_ok-paths.ensures in
    let there : Contains (value_paths (value_view c.args.value.now)) (seen item) = subst (λ l. Contains l (seen item)) whole (subst (Contains ps) (sym is) (Contains-get_or ps i (seen item) within)) in
    let fault = c.in_err-read.field-0.0 in
    let h : NameOfValueFails c.args.scope.now.named.now c.args.scope.now.file.now c.args.scope.now.file_index (value_view c.args.value.now) fault = record { path = seen item; among = there; fails = refusal_seen c.args.scope.now.named.now c.args.scope.now.file.now c.args.scope.now.file_index wanted.Value item.now fault c.in_err-read.ensures.fault_is_true } in
    let t : IsMemoryOr (NameOfValueFails c.args.scope.now.named.now c.args.scope.now.file.now c.args.scope.now.file_index (value_view c.args.value.now)) fault = inr h in
    let p = err_from_is_err_and c.from_residual-in_err-read.result c.from_residual-in_err-read.ensures.1 in
    rw (p.1, p.2) t

pub loop-path-preserved : goal.loop-path-preserved
loop-path-preserved c =
    let f = c.args.scope.now.file.now in
    let seen = λ (p : Bor Tree). path_view p.now in
    let found = c.deref-path-items.result.now in
    let ps = map seen found in
    let i = c.loop-path.path-index in
    let item = c.path-item.result in
    let lt = c.loop-path-test.true in
    let within : i < length ps = omega (arith, length-map found seen) in
    let is : seen item ≡ get_or ps i (seen item) = ap seen c.path-item.is ∙ sym (get_or-map seen found i item) in
    all_take ps i (seen item) within is (λ (p : Path). (m : Meaning) × Means c.args.scope.now.named.now f wanted.Value (texts f.src.now p) m) c.loop-path.invariant (c.in_ok-read.field-0, means_seen c.args.scope.now.named.now f wanted.Value item.now c.in_ok-read.field-0 c.in_ok-read.ensures.ok)
