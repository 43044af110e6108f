use Rattle.std.proofs.Common.{◌<◌, true≢false, sym, subst, ◌∙◌}
use Rattle.std.specs.Prelude.{IsSomeAnd}
use Rattle.fidl_consts.specs.PlainValues.{seen, text_length}
use Rattle.fidl_const.proofs.TextLimits.{long_fails, optional_fails, fits_limits}
use Rattle.fidl_const.proofs.constants.check_text.Goals as goal

pub returns-then-limits-clause-fault_is_true : goal.returns-then-limits-clause-fault_is_true
returns-then-limits-clause-fault_is_true c =
    optional_fails c.args.scope.now.named.now c.args.id c.args.found.file.now c.args.found.constant.now c.in_ok-limits.limits _ c.in_ok-limits.ensures.ok
    c.type_span.result c.type_span.ensures c.if-limits.true

pub returns-then-exceeds-clause-fault_is_true : goal.returns-then-exceeds-clause-fault_is_true
returns-then-exceeds-clause-fault_is_true c =
    let past = c.exceeds.ensures.0 c.if-exceeds.true in
    long_fails c.args.scope.now.named.now c.args.id c.args.found.file.now c.args.found.constant.now c.in_ok-limits.limits _ c.in_ok-limits.ensures.ok
    c.value_span.result c.value_span.ensures (subst (λ n. IsSomeAnd c.in_ok-limits.limits.greatest (λ bound. bound < n)) c.text_length.ensures past)

pub returns-clause-ok : goal.returns-clause-ok
returns-clause-ok c =
    let limit = c.in_ok-limits.limits.greatest in
    fits_limits c.args.scope.now.named.now c.args.id.file c.args.found.file.now c.args.found.constant.now.constructor c.in_ok-limits.limits (text_length (seen c.args.value.now)) c.in_ok-limits.ensures.ok c.if-limits.false
    (λ past. true≢false (sym (c.exceeds.ensures.1 (subst (λ n. IsSomeAnd limit (λ bound. bound < n)) (sym c.text_length.ensures) past)) ∙ c.if-exceeds.false))
