use Rattle.std.proofs.Common.{◌≡◌, ◌<◌, drop, slice_range, true, sym, subst, arith, ◌∙◌, inl, inr}
use Rattle.std.specs.List.{list_all}
use Rattle.fidl_spelling.specs.Words.{is_word_byte, BeginsNoRun}
use Rattle.fidl_reading.proofs.Cutting.{symbol_word, run_word, negative_word, no_word}
use Rattle.fidl_reading.proofs.lexer.plain_word_end.Goals.{then-text-at-eq45, else-text-at-eq45}
use Rattle.fidl_reading.proofs.lexer.plain_word_end.Goals as goal

pub returns-then-is_symbol-clause-found : goal.returns-then-is_symbol-clause-found
returns-then-is_symbol-clause-found c = (omega arith, omega (arith, c.requires), symbol_word c.args.text.now c.args.at c.requires (sym c.is_symbol.ensures ∙ c.if-is_symbol.true))

pub returns-then-to-from-clause-none : goal.returns-then-to-from-clause-none
returns-then-to-from-clause-none c =
    let text = c.args.text.now in
    let stops : BeginsNoRun (drop c.if-text-at-eq45.from text) = subst (λ n. BeginsNoRun (drop n text)) c.if-to-from.true c.run_end-to.ensures.stops in
    no_word text c.args.at c.if-text-at-eq45.from c.requires (sym c.is_symbol.ensures ∙ c.if-is_symbol.false) stops
    (elim c.if-text-at-eq45.branch [ then-text-at-eq45 w ↦ inl (w.if-text-at-eq45.true, w.from-is) | else-text-at-eq45 w ↦ inr (w.if-text-at-eq45.false, w.from-is) ])

pub returns-clause-found : goal.returns-clause-found
returns-clause-found c =
    let text = c.args.text.now in
    let to = c.run_end-to.result in
    let at = c.args.at in
    let from = c.if-text-at-eq45.from in
    let ordered = c.run_end-to.ensures.ordered in
    let less : from < to = omega (arith, ordered, c.if-to-from.false) in
    elim c.if-text-at-eq45.branch [
      | then-text-at-eq45 w ↦ let e = w.from-is in (
        omega (arith, less, e),
        c.run_end-to.ensures.within,
        negative_word text at to w.if-text-at-eq45.true (omega (arith, less, e)) c.run_end-to.ensures.within (subst (λ n. list_all is_word_byte (slice_range text n to) ≡ true) e c.run_end-to.ensures.run) c.run_end-to.ensures.stops,
      )
      | else-text-at-eq45 w ↦ let e = w.from-is in (
        omega (arith, less, e),
        c.run_end-to.ensures.within,
        run_word text at to (omega (arith, less, e)) c.run_end-to.ensures.within (subst (λ n. list_all is_word_byte (slice_range text n to) ≡ true) e c.run_end-to.ensures.run) c.run_end-to.ensures.stops,
      )
    ]
