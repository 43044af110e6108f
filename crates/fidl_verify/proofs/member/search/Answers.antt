use Rattle.std.proofs.Common.{◌≡◌, suc, ◌+◌, ◌-◌, ◌/◌, ◌^◌, ◌<◌, ap, subst, arith}
use Rattle.fidl_table_format.specs.declared.record.Row.{Row}
use Rattle.fidl_table_format.specs.Section.{header_of}
use Rattle.fidl_table_format.specs.Entry.{row_key}
use Rattle.fidl_verify.proofs.Ordered.{less_before, more_behind, no_key, halved, unspent, is_less, is_greater}
use Rattle.fidl_verify.proofs.member.search.Goals as goal

pub loop-low-preserved-then-key-ordinal : goal.loop-low-preserved-then-key-ordinal
loop-low-preserved-then-key-ordinal c =
    let key = row_key c.args.table.now (header_of c.args.table.now) c.args.entry.now in
    let middle = c.loop-low.low + (c.loop-low.high - c.loop-low.low) / 2 in
    let inside : middle < c.args.entry.now.count = omega (arith, c.loop-low-test.true, c.loop-low.invariant.within) in
    let less : key middle < c.args.ordinal = is_less (key middle) c.row-row.result.key c.from-key.result c.args.ordinal (ap (λ (r : Row). r.key) c.row-row.ensures.value) c.from-key.ensures c.if-key-ordinal.true in
    let spent = c.loop-low.probes - c.args.probes.now in
    let half = halved (c.loop-low.high - c.loop-low.low) (c.loop-low.high - (middle + 1)) 16 spent (omega (arith, c.loop-low-test.true)) c.loop-low.invariant.halves (omega (arith, c.loop-low-test.true)) in
    let one : suc spent ≡ c.loop-low.probes + 1 - c.args.probes.now = omega (arith, c.loop-low.invariant.grows) in
    record {
      order = omega (arith, c.loop-low-test.true);
      within = c.loop-low.invariant.within;
      less = less_before key c.args.entry.now.count c.requires.rises c.args.ordinal middle inside less;
      more = c.loop-low.invariant.more;
      grows = omega (arith, c.loop-low.invariant.grows);
      few = omega (arith, half.0, one);
      halves = subst (λ s. c.loop-low.high - (middle + 1) < 2 ^ (16 - s)) one half.1;
    }

pub loop-low-preserved : goal.loop-low-preserved
loop-low-preserved c =
    let key = row_key c.args.table.now (header_of c.args.table.now) c.args.entry.now in
    let middle = c.loop-low.low + (c.loop-low.high - c.loop-low.low) / 2 in
    let inside : middle < c.args.entry.now.count = omega (arith, c.loop-low-test.true, c.loop-low.invariant.within) in
    let more : c.args.ordinal < key middle = is_greater (key middle) c.row-row.result.key c.from-key.result c.args.ordinal (ap (λ (r : Row). r.key) c.row-row.ensures.value) c.from-key.ensures c.if-ordinal-key.true in
    let spent = c.loop-low.probes - c.args.probes.now in
    let half = halved (c.loop-low.high - c.loop-low.low) (middle - c.loop-low.low) 16 spent (omega (arith, c.loop-low-test.true)) c.loop-low.invariant.halves (omega (arith, c.loop-low-test.true)) in
    let one : suc spent ≡ c.loop-low.probes + 1 - c.args.probes.now = omega (arith, c.loop-low.invariant.grows) in
    record {
      order = omega arith;
      within = omega (arith, inside);
      less = c.loop-low.invariant.less;
      more = more_behind key c.args.entry.now.count c.requires.rises c.args.ordinal middle more;
      grows = omega (arith, c.loop-low.invariant.grows);
      few = omega (arith, half.0, one);
      halves = subst (λ s. middle - c.loop-low.low < 2 ^ (16 - s)) one half.1;
    }

pub returns-else-ordinal-key-clause-row : goal.returns-else-ordinal-key-clause-row
returns-else-ordinal-key-clause-row c =
    let middle = c.loop-low.low + (c.loop-low.high - c.loop-low.low) / 2 in
    let inside : middle < c.args.entry.now.count = omega (arith, c.loop-low-test.true, c.loop-low.invariant.within) in
    (middle, inside, c.row-row.ensures.value, omega (arith, c.from-key.ensures, c.if-key-ordinal.false, c.if-ordinal-key.false))

pub returns-else-ordinal-key-clause-few : goal.returns-else-ordinal-key-clause-few
returns-else-ordinal-key-clause-few c =
    let spent = c.loop-low.probes - c.args.probes.now in
    let half = halved (c.loop-low.high - c.loop-low.low) 0 16 spent (omega (arith, c.loop-low-test.true)) c.loop-low.invariant.halves (omega arith) in
    omega (arith, half.0, c.loop-low.invariant.grows)

pub returns-clause-none : goal.returns-clause-none
returns-clause-none c =
    no_key (row_key c.args.table.now (header_of c.args.table.now) c.args.entry.now) c.args.entry.now.count c.args.ordinal c.loop-low.low c.loop-low.invariant.less
    (λ k le p. c.loop-low.invariant.more k (omega (arith, le, c.loop-low-test.false, c.loop-low.invariant.order)) p)

pub loop-low-init : goal.loop-low-init
loop-low-init c = record {
  order = omega arith;
  within = omega arith;
  less = λ k p. absurd (omega (arith, p));
  more = λ k le p. absurd (omega (arith, le, p));
  grows = omega arith;
  few = omega arith;
  halves = unspent c.args.entry.now.count c.args.probes.now c.requires.small;
}
