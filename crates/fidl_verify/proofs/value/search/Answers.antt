use Rattle.std.proofs.Common.{rules, ◌≡◌, suc, ◌+◌, ◌-◌, ◌/◌, ◌^◌, ◌<◌, ap, sym, subst, arith}
use Rattle.std.specs.Prelude.{◌<ℤ◌, ◌≤ℤ◌}
use Rattle.fidl_table_format.specs.Section.{header_of, range_at}
use Rattle.fidl_table_format.specs.declared.record.ValueRange.{ValueRange}
use Rattle.fidl_table_format.specs.Terms.{as_number, underlying, value_number}
use Rattle.fidl_table_format.specs.Entry.{lowest_value, highest_value}
use Rattle.fidl_verify.proofs.Ordered.{halved, unspent}
use Rattle.fidl_verify.proofs.Valued.{not_less, has, has_none, less_before, more_behind, less_at, more_at, clash}
use Rattle.fidl_verify.proofs.value.search.Goals as goal

pub returns-clause-value : goal.returns-clause-value
returns-clause-value c =
    ((λ e. cc), (λ y. absurd (has_none c.args.table.now c.args.entry.now _ c.loop-low.low c.loop-low.invariant.less (λ k le lt. c.loop-low.invariant.more k (omega (arith, le, c.loop-low-test.false, c.loop-low.invariant.order)) lt) y)))

pub loop-low-preserved-then-is_less : goal.loop-low-preserved-then-is_less
loop-low-preserved-then-is_less c =
    let t = c.args.table.now in
    let e = c.args.entry.now in
    let k = underlying e in
    let middle = c.loop-low.low + (c.loop-low.high - c.loop-low.low) / 2 in
    let inside : middle < e.count = omega (arith, c.loop-low-test.true, c.loop-low.invariant.within) in
    let less : highest_value t (header_of t) e middle <ℤ value_number k c.args.number =
    less_at (as_number c.underlying-kind.result) k c.range-range.result.highest (range_at t (header_of t) (e.first + middle)).highest c.args.number c.underlying-kind.ensures.number
    (ap (λ (r : ValueRange). r.highest) c.range-range.ensures.value) (c.is_less.ensures.0 c.if-is_less.true) in
    let spent = c.loop-low.probes - c.args.probes.now in
    let half = halved (c.loop-low.high - c.loop-low.low) (c.loop-low.high - (middle + 1)) 16 spent (omega (arith, c.loop-low-test.true)) c.loop-low.invariant.halves (omega (arith, c.loop-low-test.true)) in
    let one : suc spent ≡ c.loop-low.probes + 1 - c.args.probes.now = omega (arith, c.loop-low.invariant.grows) in
    record {
      order = omega (arith, c.loop-low-test.true);
      within = c.loop-low.invariant.within;
      less = less_before t e (value_number k c.args.number) c.requires.ranges middle inside less;
      more = c.loop-low.invariant.more;
      grows = omega (arith, c.loop-low.invariant.grows);
      few = omega (arith, half.0, one);
      halves = subst (λ s. c.loop-low.high - (middle + 1) < 2 ^ (16 - s)) one half.1;
    }

pub loop-low-preserved : goal.loop-low-preserved
loop-low-preserved c =
    let t = c.args.table.now in
    let e = c.args.entry.now in
    let k = underlying e in
    let middle = c.loop-low.low + (c.loop-low.high - c.loop-low.low) / 2 in
    let inside : middle < e.count = omega (arith, c.loop-low-test.true, c.loop-low.invariant.within) in
    let more : value_number k c.args.number <ℤ lowest_value t (header_of t) e middle =
    more_at (as_number c.underlying-kind.result) k c.range-range.result.lowest (range_at t (header_of t) (e.first + middle)).lowest c.args.number c.underlying-kind.ensures.number
    (ap (λ (r : ValueRange). r.lowest) c.range-range.ensures.value) (c.is_less-else-is_less.ensures.0 c.if-is_less-2.true) in
    let spent = c.loop-low.probes - c.args.probes.now in
    let half = halved (c.loop-low.high - c.loop-low.low) (middle - c.loop-low.low) 16 spent (omega (arith, c.loop-low-test.true)) c.loop-low.invariant.halves (omega (arith, c.loop-low-test.true)) in
    let one : suc spent ≡ c.loop-low.probes + 1 - c.args.probes.now = omega (arith, c.loop-low.invariant.grows) in
    record {
      order = omega arith;
      within = omega (arith, inside);
      less = c.loop-low.invariant.less;
      more = more_behind t e (value_number k c.args.number) c.requires.ranges middle inside more;
      grows = omega (arith, c.loop-low.invariant.grows);
      few = omega (arith, half.0, one);
      halves = subst (λ s. middle - c.loop-low.low < 2 ^ (16 - s)) one half.1;
    }

pub returns-else-is_less-2-clause-value : goal.returns-else-is_less-2-clause-value
returns-else-is_less-2-clause-value c =
    let t = c.args.table.now in
    let e = c.args.entry.now in
    let k = underlying e in
    let middle = c.loop-low.low + (c.loop-low.high - c.loop-low.low) / 2 in
    let own : as_number c.underlying-kind.result ≡ k = c.underlying-kind.ensures.number in
    let low : (range_at t (header_of t) (e.first + middle)).lowest ≡ c.range-range.result.lowest = ap (λ (r : ValueRange). r.lowest) (sym c.range-range.ensures.value) in
    let high : (range_at t (header_of t) (e.first + middle)).highest ≡ c.range-range.result.highest = ap (λ (r : ValueRange). r.highest) (sym c.range-range.ensures.value) in
    let to : value_number k c.args.number ≤ℤ highest_value t (header_of t) e middle = not_less _ _
    (λ l. let holds = c.is_less.ensures.1 (less_at k (as_number c.underlying-kind.result) _ c.range-range.result.highest c.args.number (sym own) high l) in clash c.is_less.result holds c.if-is_less.false) in
    let from : lowest_value t (header_of t) e middle ≤ℤ value_number k c.args.number = not_less _ _
    (λ l. let holds = c.is_less-else-is_less.ensures.1 (more_at k (as_number c.underlying-kind.result) _ c.range-range.result.lowest c.args.number (sym own) low l) in clash c.is_less-else-is_less.result holds c.if-is_less-2.false) in
    ((λ found. has t e (value_number k c.args.number) middle (omega (arith, c.loop-low-test.true, c.loop-low.invariant.within)) from to), (λ y. search rules))

pub loop-low-init : goal.loop-low-init
loop-low-init c =
    record {
      order = omega arith;
      within = omega arith;
      less = λ k less. absurd (omega (arith, less));
      more = λ k le less. absurd (omega (arith, le, less));
      grows = omega arith;
      few = omega arith;
      halves = unspent c.args.entry.now.count c.args.probes.now c.requires.small;
    }

pub returns-else-is_less-2-clause-few : goal.returns-else-is_less-2-clause-few
returns-else-is_less-2-clause-few c =
    let spent = c.loop-low.probes - c.args.probes.now in
    let half = halved (c.loop-low.high - c.loop-low.low) 0 16 spent (omega (arith, c.loop-low-test.true)) c.loop-low.invariant.halves (omega arith) in
    omega (arith, half.0, c.loop-low.invariant.grows)
