use Rattle.std.proofs.Common.{◌≡◌, ◌<◌, Bor, Some, map, length, get_or, ap, sym, subst, ◌∙◌, refl, arith}
use Rattle.std.specs.Prelude.{slice_get, option_copied}
use Rattle.std.proofs.lemmas.Option.{slice_get_read, slice_get_within}
use Rattle.std.proofs.lemmas.Result.{err_from_is_err_and}
use Rattle.std.proofs.Math.ListN.{get_or-map, length-map}
use Rattle.fidl_tree.specs.Views.{value_view, constraints_view}
use Rattle.fidl_tree.specs.declared.value.Value.{Value as Tree}
use Rattle.fidl_named.specs.Constraints.{ordinary}
use Rattle.fidl_consts.specs.Constraints.{ConstraintHolds, ConstraintFails, ConstraintsFail}
use Rattle.fidl_named.proofs.Judging.{holds_more}
use Rattle.fidl_consts.proofs.Reports.{reports_more}
use Rattle.fidl_const.proofs.constraints.check_constraints.Goals as goal

pub returns-in_err-check_constraint-clause-fault_is_true : goal.returns-in_err-check_constraint-clause-fault_is_true
returns-in_err-check_constraint-clause-fault_is_true c =
    let files = c.args.scope.now.file.named.now in
    let f = c.args.scope.now.file.tree.now in
    let cs = constraints_view (option_copied c.args.constraints) in
    let seen = λ (v : Bor Tree). value_view v.now in
    let found = c.deref-value-items.result.now in
    let vs = map seen found in
    let i = c.loop-rank.rank in
    let item = c.value-item.result in
    let lt = c.loop-rank-test.true in
    let within : i < length vs = omega (arith, length-map found seen) in
    let is : (seen item) ≡ get_or vs i (seen item) = ap seen c.value-item.is ∙ sym (get_or-map seen found i item) in
    let whole : vs ≡ ordinary f cs = ap (map seen) c.deref-value-items.ensures.value ∙ c.in_ok-values.ensures in
    let there : slice_get (ordinary f cs) i ≡ Some (seen item) = subst (λ l. slice_get l i ≡ Some (seen item)) whole (slice_get_read vs (length vs) i (seen item) refl within is) in
    let h = reports_more (ConstraintFails files f c.args.scope.now.file.file_index c.args.end i (seen item)) (ConstraintsFail files f c.args.scope.now.file.file_index c.args.end cs) (λ e k. record { rank = i; value = (seen item); stands = there; fails = k })
    c.in_err-check_constraint.field-0.0 c.in_err-check_constraint.ensures.fault_is_true in
    let p = err_from_is_err_and c.from_residual-in_err-check_constraint.result c.from_residual-in_err-check_constraint.ensures.1 in
    rw (p.1, p.2) h

pub loop-rank-preserved : goal.loop-rank-preserved
loop-rank-preserved c =
    let seen = λ (v : Bor Tree). value_view v.now in
    let found = c.deref-value-items.result.now in
    let item = c.value-item.result in
    let is : (seen item) ≡ get_or (map seen found) c.loop-rank.rank (seen item) = ap seen c.value-item.is ∙ sym (get_or-map seen found c.loop-rank.rank item) in
    holds_more (map seen found) c.loop-rank.rank (seen item) is (ConstraintHolds c.args.scope.now.file.named.now c.args.scope.now.file.tree.now c.args.end) c.loop-rank.invariant c.in_ok-check_constraint.ensures.ok

pub returns-clause-ok : goal.returns-clause-ok
returns-clause-ok c = λ rank v at.
    let seen = λ (v : Bor Tree). value_view v.now in
    let found = c.deref-value-items.result.now in
    let whole : map seen found ≡ ordinary c.args.scope.now.file.tree.now (constraints_view (option_copied c.args.constraints)) = ap (map seen) c.deref-value-items.ensures.value ∙ c.in_ok-values.ensures in
    let there : slice_get (map seen found) rank ≡ Some v = subst (λ l. slice_get l rank ≡ Some v) (sym whole) at in
    let over = c.loop-rank-test.false in
    let within : rank < c.loop-rank.rank = omega (arith, slice_get_within (map seen found) rank v there, length-map found seen) in
    c.loop-rank.invariant rank within v there
