use Rattle.std.proofs.Common.{◌≡◌, ◌-◌, ◌<◌, get_or, ap, sym, true≢false, refl, arith}
use Rattle.std.proofs.lemmas.List.{get_or_default}
use Rattle.std.proofs.lemmas.List.Sorted.{all_adjacent_more}
use Rattle.fidl_ir.specs.declared.term.Row.{Row}
use Rattle.fidl_lower_layouts.proofs.Sorting.{rows_rise, rise_at}
use Rattle.fidl_lower_layouts.proofs.order.ordinals_rise.Goals as goal

pub loop-place-init : goal.loop-place-init
loop-place-init c = λ k d lt. absurd (omega (arith, lt))

pub returns-then-rows-place : goal.returns-then-rows-place
returns-then-rows-place c = (
  λ is. absurd (true≢false (sym is)),
  λ rise.
      let at = c.loop-place.auto.place in
      let within = c.loop-place-test.true in
      let less = rise_at c.args.rows.now rise (c.loop-place.place - 1) c.loop-place.place c.index-rows-place.result c.index-rows-place-in-loop-place.result (omega (arith, at)) within in
      let more = c.if-rows-place.true in
      absurd (omega (arith, less, more)),
)

pub loop-place-preserved : goal.loop-place-preserved
loop-place-preserved c =
    let rows = c.args.rows.now in
    let place = c.loop-place.place in
    let at = c.loop-place.auto.place in
    let within = c.loop-place-test.true in
    let less = c.if-rows-place.false in
    all_adjacent_more rows (λ (r s : Row). r.ordinal < s.ordinal) place (omega (arith, at)) c.loop-place.invariant (λ d.
    let one : (get_or rows (place - 1) d).ordinal ≡ (get_or rows (place - 1) c.index-rows-place.result).ordinal = ap (λ (r : Row). r.ordinal) (get_or_default rows (place - 1) d c.index-rows-place.result (omega (arith, within))) in
    let other : (get_or rows place d).ordinal ≡ (get_or rows place c.index-rows-place-in-loop-place.result).ordinal = ap (λ (r : Row). r.ordinal) (get_or_default rows place d c.index-rows-place-in-loop-place.result within) in
    omega (arith, less, one, other))

pub returns : goal.returns
returns c = (
  λ is. rows_rise c.args.rows.now (λ k d lt. let over = c.loop-place-test.false in c.loop-place.invariant k d (omega (arith, lt, over))),
  λ rise. refl,
)
