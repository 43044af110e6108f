use Rattle.std.proofs.Common.{rules, ◌≡◌, ℕ, ◌+◌, ℤ, sym, ap, subst, ◌∙◌, arith}
use Rattle.std.specs.Prelude.{◌≤ℤ◌}
use Rattle.std.proofs.lemmas.Int.{by_lt_z, ints}
use Rattle.fidl_table_format.specs.Number.{number_standing}
use Rattle.fidl_table_format.specs.Terms.{as_number, value_number}
use Rattle.fidl_decode_columns.specs.Columns.{place_of}
use Rattle.fidl_decode_columns.proofs.Narrowed.{one_more}
use Rattle.fidl_decode_columns.proofs.Raw.{Agrees, member_number}
use Rattle.fidl_decode_columns.proofs.Sizes.{next_start}
use Rattle.fidl_decode_columns.proofs.columns.Columns.are_within_range.Goals as goal
use Rattle.fidl_decode_columns.proofs.columns.Columns.are_within_range.Goals.{then-not-is_at_most, else-not-is_at_most, then-not-is_at_most-2, else-not-is_at_most-2}

at_most_self : (a : ℤ) → a ≤ℤ a
at_most_self a = omega (arith, ints)

at_most_turned : (a b : ℤ) → (a ≤ℤ b → ⊥) → b ≤ℤ a
at_most_turned a b not = by_lt_z a b (λ lt. absurd (not (omega (arith, ints, lt)))) (λ ge. ge)

at_most_both : (a b d : ℤ) → a ≤ℤ b → b ≤ℤ d → a ≤ℤ d
at_most_both a b d x y = omega (arith, ints, x, y)

pub loop-i-preserved : goal.loop-i-preserved
loop-i-preserved c =
    let m = c.args.self.now.links.now in
    let raw = c.raw-bytes.result.now in
    let a : Agrees m raw = record { len = c.raw-bytes.ensures.same_length; byte = c.raw-bytes.ensures.agree } in
    let there : c.loop-i.start + c.args.column.offset ≡ place_of c.args.column c.loop-i._i = ap (λ n. n + c.args.column.offset) c.loop-i.invariant.start in
    let u = as_number c.args.kind in
    let value : ℕ → ℤ = λ n. value_number u n in
    let at : ℕ → ℤ = λ k. number_standing u m.came (place_of c.args.column k) in
    let x = c.number_bits-number.result in
    let old_low = c.loop-i.low in
    let old_high = c.loop-i.high in
    let new_low = c.if-not-is_at_most.low in
    let new_high = c.if-not-is_at_most-2.high in
    let stands : value x ≡ at c.loop-i._i = c.number_bits-number.ensures ∙ ap (λ p. number_standing u raw p) there ∙ member_number m raw a u c.args.column c.args.limit c.loop-i._i c.requires.room c.loop-i-test.true in
    let Low : ℕ → Type 0 = λ n. (value n ≤ℤ value old_low) × (value n ≤ℤ value x) in
    let High : ℕ → Type 0 = λ n. (value old_high ≤ℤ value n) × (value x ≤ℤ value n) in
    let low : Low new_low = elim c.if-not-is_at_most.branch [
      | then-not-is_at_most w ↦ subst Low (sym w.low-is) (at_most_turned (value old_low) (value x) (λ y. let is = c.is_at_most.ensures.1 y in search (rules, is, w.if-not-is_at_most.true)), at_most_self (value x))
      | else-not-is_at_most w ↦ subst Low (sym w.low-is) (at_most_self (value old_low), c.is_at_most.ensures.0 w.if-not-is_at_most.false)
    ] in
    let high : High new_high = elim c.if-not-is_at_most-2.branch [
      | then-not-is_at_most-2 w ↦ subst High (sym w.high-is) (at_most_turned (value x) (value old_high) (λ y. let is = c.is_at_most-in-loop-i.ensures.1 y in search (rules, is, w.if-not-is_at_most-2.true)), at_most_self (value x))
      | else-not-is_at_most-2 w ↦ subst High (sym w.high-is) (at_most_self (value old_high), c.is_at_most-in-loop-i.ensures.0 w.if-not-is_at_most-2.false)
    ] in
    let In : ℤ → Type 0 = λ z. (value new_low ≤ℤ z) × (z ≤ℤ value new_high) in
    record {
      start = next_start c.loop-i.start c.args.column.base c.args.column.size c.loop-i._i c.loop-i.invariant.start;
      before = one_more (λ k. In (at k)) c.loop-i._i
          (λ k lt.
          let y = c.loop-i.invariant.before k lt in
          (at_most_both (value new_low) (value old_low) (at k) low.0 y.0, at_most_both (at k) (value old_high) (value new_high) y.1 high.0)) (subst In stands (low.1, high.1));
    }
