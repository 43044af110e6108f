use Rattle.std.proofs.Common.{◌≡◌, ◌∙◌, ℕ, List, Option, Some, None, false, refl, sym}
use Rattle.std.specs.Prelude.{IfSome, IsNone}
use Rattle.std.proofs.lemmas.Result.{err_from_is_err_and}
use Rattle.fidl_tree.specs.declared.file.File.{File}
use Rattle.fidl_tree.specs.Syntax.{Value}
use Rattle.fidl_tree.specs.declared.declaration.Property.{Property}
use Rattle.fidl_named.specs.declared.place.DeclarationId.{DeclarationId}
use Rattle.fidl_named.specs.declared.meaning.Meaning.{Meaning}
use Rattle.fidl_named.specs.Constraints.{IsPropertyFor}
use Rattle.fidl_tree.specs.Views.{value_view}
use Rattle.fidl_consts.specs.declared.const_value.ConstValue.{ConstValue}
use Rattle.fidl_consts.specs.PlainValues.{seen}
use Rattle.fidl_consts.specs.Constraints.{HandleValueIs, HandleValueFails, is_bounded, ConstraintHolds, ConstraintFails}
use Rattle.fidl_consts.proofs.Reports.{reports_more}
use Rattle.fidl_const.proofs.constraints.check_constraint.Goals as goal

-- a constraint that is no bound has what a property wants, if one wants anything
holds : (files : List File) (f : File) (end : Meaning) (rank : ℕ) (v : Value) (o : Option ConstValue) → is_bounded end ≡ false → IfSome o (λ k. HandleValueIs files f end rank v (seen k))
    → (IsNone o → (p : DeclarationId) (g : File) (n : ℕ) (m : Property) → IsPropertyFor files (Some end) rank p g n m → ⊥) → ConstraintHolds files f end rank v
holds files f end rank v None off is none = ConstraintHolds.free off (none refl)
holds files f end rank v (Some k) off is none = ConstraintHolds.property (seen k) is

pub returns-then-is_bounded-clause-ok : goal.returns-then-is_bounded-clause-ok
returns-then-is_bounded-clause-ok c = ConstraintHolds.bound (seen c.in_ok-value_in.field-0) (sym c.is_bounded.ensures ∙ c.if-is_bounded.true) c.in_ok-value_in.ensures.ok

pub returns-in_err-handle_value-clause-fault_is_true : goal.returns-in_err-handle_value-clause-fault_is_true
returns-in_err-handle_value-clause-fault_is_true c =
    let files = c.args.scope.now.file.named.now in
    let h = reports_more (HandleValueFails files c.args.scope.now.file.tree.now c.args.scope.now.file.file_index c.args.end c.args.rank (value_view c.args.value.now)) (ConstraintFails files c.args.scope.now.file.tree.now c.args.scope.now.file.file_index c.args.end c.args.rank (value_view c.args.value.now))
    (λ fault k. ConstraintFails.property k) c.in_err-handle_value.field-0.0 c.in_err-handle_value.ensures.fault_is_true in
    let p = err_from_is_err_and c.from_residual-in_err-handle_value.result c.from_residual-in_err-handle_value.ensures.1 in
    rw (p.1, p.2) h

pub returns-clause-ok : goal.returns-clause-ok
returns-clause-ok c =
    holds c.args.scope.now.file.named.now c.args.scope.now.file.tree.now c.args.end c.args.rank (value_view c.args.value.now) c.in_ok-handle_value.field-0 (sym c.is_bounded.ensures ∙ c.if-is_bounded.false)
    c.in_ok-handle_value.ensures.found c.in_ok-handle_value.ensures.none
