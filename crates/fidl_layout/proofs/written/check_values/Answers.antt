use Rattle.std.proofs.Common.{◌≡◌, ◌≤◌, ◌∙◌, ◌<◌, get_or, length, ap, sym, arith}
use Rattle.std.proofs.Math.ListN.{get_or-map, length-map}
use Rattle.fidl_limits.specs.declared.limits.TheConstants.{MAX_LAYOUT_MEMBERS}
use Rattle.fidl_cycles.proofs.Lists.{all_take}
use Rattle.fidl_declarations.specs.declared.form.Form.{Form as CodeForm}
use Rattle.fidl_declarations.specs.Forms.{Form}
use Rattle.fidl_declarations.specs.FormViews.{form_view, forms_view}
use Rattle.fidl_layout.specs.Written.{written_values}
use Rattle.fidl_layout.proofs.written.check_values.Goals as goal

pub loop-number-preserved : goal.loop-number-preserved
loop-number-preserved c =
    let forms = c.forms-forms.result.now in
    let i = c.loop-number.number in
    let form = c.index-forms-number.result in
    let lt = c.loop-number-test.true in
    let long = length-map forms form_view in
    let within : i < length (forms_view forms) = omega (arith, lt, long) in
    let is : form_view form ≡ get_or (forms_view forms) i (form_view form) = ap form_view c.index-forms-number.is ∙ sym (get_or-map form_view forms i form) in
    let few = c.if-written_values.false in
    let same : c.written_values.result ≡ written_values (form_view form).kind = c.written_values.ensures ∙ ap (λ (f : CodeForm). written_values (form_view f).kind) (sym c.index-forms-number.is) in
    all_take (forms_view forms) i (form_view form) within is (λ (f : Form). written_values f.kind ≤ MAX_LAYOUT_MEMBERS) c.loop-number.invariant (omega (arith, few, same))
