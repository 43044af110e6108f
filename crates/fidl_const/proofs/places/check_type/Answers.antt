use Rattle.std.proofs.Common.{◌∙◌, sym, subst, true≢false}
use Rattle.std.specs.Prelude.{option_copied, option_map}
use Rattle.std.proofs.lemmas.Option.{slice_get_within}
use Rattle.std.proofs.lemmas.Result.{err_from_is_err_and, on_ok_weaker}
use Rattle.fidl_named.specs.declared.meaning.Wanted.{Wanted}
use Rattle.fidl_named.specs.declared.meaning.Wanted.TheVariants as wanted
use Rattle.fidl_named.specs.Meanings.{Means, IsJust}
use Rattle.fidl_named.specs.Paths.{texts}
use Rattle.fidl_named.specs.Aliases.{Wants, IsArrayName}
use Rattle.fidl_named.specs.Places.{a_type}
use Rattle.fidl_tree.specs.Views.{path_view, constraints_view}
use Rattle.fidl_named.proofs.PathViews.{wants_view}
use Rattle.fidl_consts.specs.declared.const_type.NumberKind.TheVariants.{Uint32}
use Rattle.fidl_consts.specs.declared.const_type.ConstType.TheVariants as ty
use Rattle.fidl_consts.specs.PlainValues.{seen}
use Rattle.fidl_consts.specs.Refusals.{NameFails}
use Rattle.fidl_consts.specs.Constraints.{ConstraintsHold, ConstraintsFail}
use Rattle.fidl_consts.specs.Places.{PlaceHolds, PlaceFails}
use Rattle.fidl_const.proofs.Wants.{wants_type}
use Rattle.fidl_consts.proofs.Judging.{reported_more}
use Rattle.fidl_consts.proofs.Reports.{reports_more}
use Rattle.fidl_const.proofs.places.check_type.Goals as goal

pub returns-in_err-name_value-clause-fault_is_true : goal.returns-in_err-name_value-clause-fault_is_true
returns-in_err-name_value-clause-fault_is_true c =
    let files = c.args.scope.now.file.named.now in
    let of = option_map path_view (option_copied c.args.argument_of) in
    let wants = subst (λ (k : Wanted). Wants (IsArrayName files c.args.scope.now.file.tree.now) of k) (c.wants_value.ensures.0 c.if-wants_value.true) (wants_view files c.args.scope.now.file.tree.now (option_copied c.args.argument_of) c.in_ok-kind.kind (c.in_ok-kind.ensures c.args.scope.now.file.tree.now c.args.scope.now.file.in_set)) in
    let h = reports_more (NameFails files c.args.scope.now.file.tree.now c.args.scope.now.file.file_index (ty.Number Uint32) (path_view c.args.path.now)) (λ fault. PlaceFails files c.args.scope.now.file.tree.now c.args.scope.now.file.file_index fault (a_type of (path_view c.args.path.now) (constraints_view (option_copied c.args.constraints))))
    (λ fault k. PlaceFails.of_named_count of (path_view c.args.path.now) (constraints_view (option_copied c.args.constraints)) wants k) c.in_err-name_value.field-0.0 c.in_err-name_value.ensures.fault_is_true in
    let p = err_from_is_err_and c.from_residual-in_err-name_value.result c.from_residual-in_err-name_value.ensures.1 in
    rw (p.1, p.2) h

pub returns-then-wants_value-clause-ok : goal.returns-then-wants_value-clause-ok
returns-then-wants_value-clause-ok c =
    let files = c.args.scope.now.file.named.now in
    let of = option_map path_view (option_copied c.args.argument_of) in
    let wants = subst (λ (k : Wanted). Wants (IsArrayName files c.args.scope.now.file.tree.now) of k) (c.wants_value.ensures.0 c.if-wants_value.true) (wants_view files c.args.scope.now.file.tree.now (option_copied c.args.argument_of) c.in_ok-kind.kind (c.in_ok-kind.ensures c.args.scope.now.file.tree.now c.args.scope.now.file.in_set)) in
    PlaceHolds.of_named_count of (path_view c.args.path.now) (constraints_view (option_copied c.args.constraints)) (seen c.in_ok-name_value.field-0) wants c.in_ok-name_value.ensures.ok

pub find-requires : goal.find-requires
find-requires c = slice_get_within c.args.scope.now.file.named.now c.args.scope.now.file.file_index c.args.scope.now.file.tree.now c.args.scope.now.file.in_set

pub returns-in-None-clause-ok : goal.returns-in-None-clause-ok
returns-in-None-clause-ok c =
    let files = c.args.scope.now.file.named.now in
    let of = option_map path_view (option_copied c.args.argument_of) in
    let f = c.args.scope.now.file.tree.now in
    let wants = wants_type files f of c.in_ok-kind.kind (wants_view files f (option_copied c.args.argument_of) c.in_ok-kind.kind (c.in_ok-kind.ensures f c.args.scope.now.file.in_set)) (λ is. true≢false (sym (c.wants_value.ensures.1 is) ∙ c.if-wants_value.false)) in
    let just = c.in_ok-find.ensures f c.args.scope.now.file.in_set in
    let none = subst (IsJust (Means files f wanted.«Type» (texts f.src.now (path_view c.args.path.now)))) c.in-None.is just in
    PlaceHolds.of_no_type of (path_view c.args.path.now) (constraints_view (option_copied c.args.constraints)) wants none

pub returns-in-Some-clause-ok : goal.returns-in-Some-clause-ok
returns-in-Some-clause-ok c =
    let files = c.args.scope.now.file.named.now in
    let of = option_map path_view (option_copied c.args.argument_of) in
    let f = c.args.scope.now.file.tree.now in
    let wants = wants_type files f of c.in_ok-kind.kind (wants_view files f (option_copied c.args.argument_of) c.in_ok-kind.kind (c.in_ok-kind.ensures f c.args.scope.now.file.in_set)) (λ is. true≢false (sym (c.wants_value.ensures.1 is) ∙ c.if-wants_value.false)) in
    let just = subst (IsJust (Means files f wanted.«Type» (texts f.src.now (path_view c.args.path.now)))) c.in-Some.is (c.in_ok-find.ensures f c.args.scope.now.file.in_set) in
    on_ok_weaker c.check_constraints.result
    (λ (h : ConstraintsHold files f c.resolved-end.result (constraints_view (option_copied c.args.constraints))). PlaceHolds.of_type of (path_view c.args.path.now) (constraints_view (option_copied c.args.constraints)) c.in-Some.meaning c.resolved-end.result wants just.0 c.resolved-end.ensures h)
    c.check_constraints.ensures.ok

pub returns-in-Some-clause-fault_is_true : goal.returns-in-Some-clause-fault_is_true
returns-in-Some-clause-fault_is_true c =
    let files = c.args.scope.now.file.named.now in
    let of = option_map path_view (option_copied c.args.argument_of) in
    let f = c.args.scope.now.file.tree.now in
    let cs = constraints_view (option_copied c.args.constraints) in
    let wants = wants_type files f of c.in_ok-kind.kind (wants_view files f (option_copied c.args.argument_of) c.in_ok-kind.kind (c.in_ok-kind.ensures f c.args.scope.now.file.in_set)) (λ is. true≢false (sym (c.wants_value.ensures.1 is) ∙ c.if-wants_value.false)) in
    let just = subst (IsJust (Means files f wanted.«Type» (texts f.src.now (path_view c.args.path.now)))) c.in-Some.is (c.in_ok-find.ensures f c.args.scope.now.file.in_set) in
    reported_more (ConstraintsFail files f c.args.scope.now.file.file_index c.resolved-end.result cs) (λ fault. PlaceFails files f c.args.scope.now.file.file_index fault (a_type of (path_view c.args.path.now) cs))
    (λ fault h. PlaceFails.of_type of (path_view c.args.path.now) cs c.in-Some.meaning c.resolved-end.result wants just.0 c.resolved-end.ensures h) c.check_constraints.result c.check_constraints.ensures.fault_is_true
