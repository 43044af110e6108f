use Rattle.std.proofs.Common.{Option, None, refl, sym, subst, ◌∙◌, true≢false}
use Rattle.std.proofs.lemmas.Result.{err_from_is_err_and}
use Rattle.fidl_named.specs.declared.meaning.Meaning.TheVariants as meaning
use Rattle.fidl_consts.specs.declared.consts.Limits.{Limits}
use Rattle.fidl_consts.specs.Types.{IsStringType}
use Rattle.fidl_const.specs.Columns.{IsFound}
use Rattle.fidl_const.proofs.Settled.{alias_settled, const_type_settled, const_value_settled}
use Rattle.fidl_const.proofs.FoundValues.{bound_reported, const_reported, found_const, found_limits, found_nothing, other_type}
use Rattle.fidl_const.proofs.order.of_declaration.Goals.{in-Some-alias_at+in_ok-is_string_type+then-branch+in_ok-limits, in-Some-alias_at+in_ok-is_string_type+else-branch, in_default-alias_at}
use Rattle.fidl_const.proofs.order.of_declaration.Goals as goal

pub constant_entry-requires-clause-types : goal.constant_entry-requires-clause-types
constant_entry-requires-clause-types c =
    const_type_settled c.args.scope.now.named.now c.args.scope.now.consts.now c.args.id c.in-Some.found.file.now c.in-Some.found.constant.now c.in-Some.ensures.found c.requires.settled

pub constant_entry-requires-clause-values : goal.constant_entry-requires-clause-values
constant_entry-requires-clause-values c =
    const_value_settled c.args.scope.now.named.now c.args.scope.now.consts.now c.args.id c.in-Some.found.file.now c.in-Some.found.constant.now c.in-Some.ensures.found c.requires.settled

pub returns-in_err-constant_entry-clause-fault_is_true : goal.returns-in_err-constant_entry-clause-fault_is_true
returns-in_err-constant_entry-clause-fault_is_true c =
    let h = const_reported c.args.scope.now.named.now c.args.id c.in-Some.found.file.now c.in-Some.found.constant.now c.in-Some.ensures.found c.in_err-constant_entry.field-0.0 c.in_err-constant_entry.ensures.fault_is_true in
    let p = err_from_is_err_and c.from_residual.result c.from_residual.ensures.1 in
    rw (p.1, p.2) h

pub returns-in-Some-clause-ok : goal.returns-in-Some-clause-ok
returns-in-Some-clause-ok c =
    let x = c.in-Some.found in
    let entry = c.in_ok-constant_entry in
    found_const c.args.scope.now.named.now c.args.id x.file.now x.constant.now c.in-Some.ensures.found entry.field-0 entry.ensures.offers entry.ensures.text

pub limits-requires-clause-settled : goal.limits-requires-clause-settled
limits-requires-clause-settled c =
    alias_settled c.args.scope.now.named.now c.args.scope.now.consts.now c.args.id c.in-Some-alias_at.found.file.now c.in-Some-alias_at.found.alias.now c.in-Some-alias_at.ensures.found c.requires.settled

pub returns-in_err-limits-clause-fault_is_true : goal.returns-in_err-limits-clause-fault_is_true
returns-in_err-limits-clause-fault_is_true c =
    let h = bound_reported c.args.scope.now.named.now c.args.id c.in-Some-alias_at.found.file.now c.in-Some-alias_at.found.alias.now c.in-Some-alias_at.ensures.found (c.in_ok-is_string_type.ensures.0 c.if-branch.true)
    c.in_err-limits.field-0.0 c.in_err-limits.ensures.fault_is_true in
    let p = err_from_is_err_and c.from_residual-in_err-limits.result c.from_residual-in_err-limits.ensures.1 in
    rw (p.1, p.2) h

pub returns-clause-ok : goal.returns-clause-ok
returns-clause-ok c =
    let fs = c.args.scope.now.named.now in
    let p = c.args.id in
    let no_const = c.in_default.ensures.none refl in
    elim c.match-alias_at.branch as (λ _. IsFound fs (meaning.Declared p) (record { value = None; limits = c.match-alias_at.limits_found })) [
      | in-Some-alias_at+in_ok-is_string_type+then-branch+in_ok-limits w ↦
          subst (λ (o : Option Limits). IsFound fs (meaning.Declared p) (record { value = None; limits = o })) (sym w.limits_found-is)
          (found_limits fs p no_const w.in-Some-alias_at.found.file.now w.in-Some-alias_at.found.alias.now w.in_ok-limits.field-0 w.in-Some-alias_at.ensures.found w.in_ok-limits.ensures.ok)
      | in-Some-alias_at+in_ok-is_string_type+else-branch w ↦
          let f = w.in-Some-alias_at.found.file.now in
          let a = w.in-Some-alias_at.found.alias.now in
          let other : IsStringType fs f a.constructor → ⊥ = λ string. true≢false (sym (w.in_ok-is_string_type.ensures.1 string) ∙ w.if-branch.false) in
          subst (λ (o : Option Limits). IsFound fs (meaning.Declared p) (record { value = None; limits = o })) (sym w.limits_found-is)
          (found_nothing fs p no_const (other_type fs p f a w.in-Some-alias_at.ensures.found other))
      | in_default-alias_at w ↦
          subst (λ (o : Option Limits). IsFound fs (meaning.Declared p) (record { value = None; limits = o })) (sym w.limits_found-is)
          (found_nothing fs p no_const (λ g a h string. w.in_default-alias_at.ensures.none refl g a h))
    ]
