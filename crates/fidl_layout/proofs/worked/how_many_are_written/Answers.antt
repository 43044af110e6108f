use Rattle.std.proofs.Common.{◌≡◌, length, ap, refl, sym, subst, arith}
use Rattle.std.proofs.lemmas.Option.{same_Some}
use Rattle.fidl_declarations.specs.Forms.{Form}
use Rattle.fidl_layout.specs.Written.{written_values}
use Rattle.fidl_limits.specs.declared.limits.TheConstants.{MAX_LAYOUT_MEMBERS}
use Rattle.std.specs.Prelude.{◌<◌}
use Rattle.fidl_layout.proofs.worked.how_many_are_written.Goals as goal

pub returns-clause-last : goal.returns-clause-last
returns-clause-last c = λ form kw ms long is. let e : written_values form.kind ≡ length ms = ap written_values is in (omega (arith, e, long), tt)

pub returns-clause-past : goal.returns-clause-past
returns-clause-past c = λ form kw ms long is. let e : written_values form.kind ≡ length ms = ap written_values is in record { form = form; at = refl; many = omega (arith, e, long) }

pub returns-clause-not_past : goal.returns-clause-not_past
returns-clause-not_past c = λ form kw ms long is h.
    let e : written_values form.kind ≡ length ms = ap written_values is in
    let many = subst (λ (f : Form). MAX_LAYOUT_MEMBERS < written_values f.kind) (sym (same_Some form h.form h.at)) h.many in
    omega (arith, e, long, many)
