use Rattle.std.proofs.Common.{◌≡◌, ℕ, ◌+◌, ◌<◌, ◌++◌, ◌∷◌, [], Bor, false, not, List, take, length, get_or, ap, sym, subst, ◌∙◌, arith}
use Rattle.std.specs.Prelude.{option_copied}
use Rattle.std.specs.List.{Contains}
use Rattle.std.proofs.lemmas.List.{take_more}
use Rattle.std.proofs.lemmas.Result.{err_from_is_err_and}
use Rattle.std.proofs.Math.ListN.{get_or-map, length-map}
use Rattle.fidl_tree.specs.declared.file.File.{File}
use Rattle.fidl_named.specs.Constraints.{is_optional, ordinary}
use Rattle.fidl_tree.specs.Syntax.{Value}
use Rattle.fidl_tree.specs.Views.{value_view, constraints_view}
use Rattle.fidl_tree.specs.declared.value.Value.{Value as Tree}
use Rattle.fidl_named.specs.Places.{value_paths}
use Rattle.fidl_named.specs.ReferenceViews.{value_list_view}
use Rattle.fidl_consts.specs.declared.const_type.NumberKind.TheVariants.{Uint32}
use Rattle.fidl_consts.specs.declared.const_type.ConstType.TheVariants as ty
use Rattle.fidl_consts.specs.declared.fault.ConstFault.{ConstFault}
use Rattle.fidl_consts.specs.Refusals.{ValueFails}
use Rattle.fidl_consts.specs.Strings.{BoundFails}
use Rattle.fidl_consts.specs.Tables.{AreLimits, IsMemoryOr}
use Rattle.fidl_const.specs.Columns.{IsOwnConstraint}
use Rattle.fidl_consts.proofs.Among.{among_flat, among_passed}
use Rattle.fidl_consts.proofs.Expressions.{reports_weaker}
use Rattle.fidl_const.proofs.bounds.own_limits.Goals as goal

-- a value as the plain data that it represents
abbrev seen : Bor Tree → Value
seen v = value_view v.now

item_is : (found : List (Bor Tree)) (i : ℕ) (item : Bor Tree) → item ≡ get_or found i item → seen item ≡ get_or (value_list_view found) i (seen item)
item_is found i item is = ap seen is ∙ sym (get_or-map seen found i item)

module _ (f : File) (cs : List Value) (found : List (Bor Tree)) (i : ℕ) (item : Bor Tree) (within : i < length found) (is : item ≡ get_or found i item) (whole : value_list_view found ≡ cs) where
  -- a constraint that isn't the word `optional` is an ordinary one
  among_ordinary : is_optional f (seen item) ≡ false → Contains (ordinary f cs) (seen item)
  among_ordinary no_word =
      let there : Contains (value_list_view found) (seen item) = (i, omega (arith, within, length-map found seen), sym (item_is found i item is)) in
      among_passed (λ v. not (is_optional f v)) cs (seen item) (ap not no_word) (subst (λ l. Contains l (seen item)) whole there)

  -- the constraints up to it
  taken : take (i + 1) (value_list_view found) ≡ take i (value_list_view found) ++ seen item ∷ []
  taken =
      let vs = value_list_view found in
      take_more vs i (seen item) (omega (arith, within, length-map found seen)) ∙ ap (λ x. take i vs ++ x ∷ []) (sym (item_is found i item is))

pub with_constraint-requires-clause-settled : goal.with_constraint-requires-clause-settled
with_constraint-requires-clause-settled c no_word path m h means known =
    let f = c.args.scope.now.file.tree.now in
    let cs = constraints_view (option_copied c.args.constraints) in
    let whole = ap value_list_view c.deref-value-items.ensures.value ∙ c.in_ok-items.ensures in
    let among = among_ordinary f cs c.deref-value-items.result.now c.loop-value.value-index c.value-item.result c.loop-value-test.true c.value-item.is whole no_word in
    c.requires.settled path m (among_flat value_paths (ordinary f cs) (seen c.value-item.result) path among h) means known

pub returns-in_err-limits-clause-fault_is_true : goal.returns-in_err-limits-clause-fault_is_true
returns-in_err-limits-clause-fault_is_true c =
    let files = c.args.scope.now.file.named.now in
    let f = c.args.scope.now.file.tree.now in
    let cs = constraints_view (option_copied c.args.constraints) in
    let item = c.value-item.result in
    let whole = ap value_list_view c.deref-value-items.ensures.value ∙ c.in_ok-items.ensures in
    let among = among_ordinary f cs c.deref-value-items.result.now c.loop-value.value-index item c.loop-value-test.true c.value-item.is whole in
    let of_value = λ (fault : ConstFault). (is_optional f (seen item) ≡ false) × ValueFails files f c.args.scope.now.file.file_index (ty.Number Uint32) fault (seen item) in
    let fails = BoundFails files f c.args.scope.now.file.file_index (ordinary f cs) in
    let fault_is_true : IsMemoryOr fails c.in_err-limits.field-0.0 = reports_weaker of_value fails (λ fault h. record { value = seen item; among = among h.0; fails = h.1 }) _ c.in_err-limits.ensures.fault_is_true in
    let p = err_from_is_err_and c.from_residual-in_err-limits.result c.from_residual-in_err-limits.ensures.1 in
    rw (p.1, p.2) fault_is_true

pub loop-value-preserved : goal.loop-value-preserved
loop-value-preserved c =
    let files = c.args.scope.now.file.named.now in
    let f = c.args.scope.now.file.tree.now in
    let found = c.deref-value-items.result.now in
    let i = c.loop-value.value-index in
    let whole = ap value_list_view c.deref-value-items.ensures.value ∙ c.in_ok-items.ensures in
    let its = taken f (constraints_view (option_copied c.args.constraints)) found i c.value-item.result c.loop-value-test.true c.value-item.is whole in
    subst (λ (l : List Value). AreLimits files (IsOwnConstraint c.args.scope.now.file.file_index f l) c.in_ok-limits.limits) (sym its) (c.in_ok-limits.ensures.ok (take i (value_list_view found)) c.loop-value.invariant)
