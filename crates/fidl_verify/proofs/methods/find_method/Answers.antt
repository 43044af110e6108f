use Rattle.std.proofs.Common.{◌≡◌, ◌+◌, ◌-◌, ◌/◌, ◌<◌, refl, ap, subst, arith, ℕ}
use Rattle.fidl_table_format.specs.declared.record.MethodRecord.{MethodRecord}
use Rattle.fidl_table_format.specs.Method.{ordinal_at}
use Rattle.fidl_verify.proofs.Ordered.{less_before, more_behind, is_less, is_greater}
use Rattle.fidl_verify.proofs.methods.find_method.Goals as goal

pub loop-low-preserved-then-here-ordinal : goal.loop-low-preserved-then-here-ordinal
loop-low-preserved-then-here-ordinal c =
    let key = λ (k : ℕ). ordinal_at c.args.table.now.bytes.now c.args.table.now.header (c.args.first + k) in
    let middle = c.loop-low.low + (c.loop-low.high - c.loop-low.low) / 2 in
    let place = middle - c.args.first in
    let inside : place < c.args.end - c.args.first = omega (arith, c.loop-low-test.true, c.loop-low.invariant.within, c.loop-low.invariant.from) in
    let same : middle ≡ c.args.first + place = omega (arith, c.loop-low.invariant.from) in
    let less : key place < c.args.ordinal = subst (λ i. ordinal_at c.args.table.now.bytes.now c.args.table.now.header i < c.args.ordinal) same
    (is_less (ordinal_at c.args.table.now.bytes.now c.args.table.now.header middle) c.method-here.result.ordinal c.method-here.result.ordinal c.args.ordinal (ap (λ (m : MethodRecord). m.ordinal) c.method-here.ensures) refl c.if-here-ordinal.true) in
    record {
      from = omega (arith, c.loop-low.invariant.from);
      order = omega (arith, c.loop-low-test.true);
      within = c.loop-low.invariant.within;
      less = λ k p. less_before key (c.args.end - c.args.first) c.requires.rises c.args.ordinal place inside less k (omega (arith, p, c.loop-low.invariant.from));
      more = c.loop-low.invariant.more;
    }

pub loop-low-preserved : goal.loop-low-preserved
loop-low-preserved c =
    let key = λ (k : ℕ). ordinal_at c.args.table.now.bytes.now c.args.table.now.header (c.args.first + k) in
    let middle = c.loop-low.low + (c.loop-low.high - c.loop-low.low) / 2 in
    let place = middle - c.args.first in
    let inside : place < c.args.end - c.args.first = omega (arith, c.loop-low-test.true, c.loop-low.invariant.within, c.loop-low.invariant.from) in
    let same : middle ≡ c.args.first + place = omega (arith, c.loop-low.invariant.from) in
    let more : c.args.ordinal < key place = subst (λ i. c.args.ordinal < ordinal_at c.args.table.now.bytes.now c.args.table.now.header i) same
    (is_greater (ordinal_at c.args.table.now.bytes.now c.args.table.now.header middle) c.method-here.result.ordinal c.method-here.result.ordinal c.args.ordinal (ap (λ (m : MethodRecord). m.ordinal) c.method-here.ensures) refl c.if-ordinal-here.true) in
    record {
      from = c.loop-low.invariant.from;
      order = omega arith;
      within = omega (arith, c.loop-low-test.true, c.loop-low.invariant.within);
      less = c.loop-low.invariant.less;
      more = more_behind key (c.args.end - c.args.first) c.requires.rises c.args.ordinal place more;
    }
