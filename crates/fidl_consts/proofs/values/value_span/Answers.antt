use Rattle.std.proofs.Common.{◌≡◌, ◌-◌, Some, length, ap, sym, ◌∙◌}
use Rattle.std.specs.Prelude.{option_copied, slice_get}
use Rattle.fidl_span.specs.declared.words.Span.{Span}
use Rattle.fidl_tree.specs.Views.{value_view, or_operand_view}
use Rattle.fidl_tree.specs.declared.value.Value.{out-Value}
use Rattle.fidl_consts.specs.Values.{first_operand}
use Rattle.fidl_consts.specs.Refusals.{operand_span, to_end}
use Rattle.fidl_consts.proofs.Operands.{or_operand_is, first_is, last_is}
use Rattle.fidl_consts.proofs.values.value_span.Goals as goal

pub returns-in-Some : goal.returns-in-Some
returns-in-Some c =
    let v = c.args.value.now in
    let os = (out-Value v).rest.items in
    let o = c.in-Some.or_operand.now in
    let at : slice_get os (length os - 1) ≡ Some o = ap (λ xs. slice_get xs (length xs - 1)) (sym c.deref.ensures.value) ∙ sym c.last.ensures.value ∙ ap option_copied c.in-Some.is in
    let start = operand_span (first_operand (value_view v)) in
    let first : c.operand_span-first.result ≡ start = c.operand_span-first.ensures ∙ ap operand_span (sym (first_is v)) in
    let last : c.operand_span.result ≡ operand_span (or_operand_view o) = c.operand_span.ensures ∙ ap operand_span (sym (or_operand_is o)) in
    ap (λ (s : Span). record { from = s.from; to = c.operand_span.result.to }) first ∙ ap (λ (s : Span). record { from = start.from; to = s.to }) last ∙ ap (to_end start) (sym (last_is v o at))
