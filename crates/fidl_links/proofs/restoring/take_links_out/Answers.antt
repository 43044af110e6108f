use Rattle.std.proofs.Common.{◌≡◌, ℕ, ◌+◌, ◌*◌, ◌/◌, ◌%◌, ◌<◌, ◌≤◌, min, length, refl, sym, ap, subst, ◌∙◌, arith}
use Rattle.fidl_links.specs.Marks.{marker_bit, envelope_bit, handle_bit}
use Rattle.fidl_links.specs.Links.{written}
use Rattle.fidl_links.proofs.ByteBits.{zero_bits}
use Rattle.fidl_links.proofs.Places.{places_before, places_then, places_past, few_before, all_places}
use Rattle.fidl_links.proofs.Steps.{IsFree}
use Rattle.fidl_links.proofs.TakenOut.{Restored, none_restored, restored_then, restored_past, restored_all}
use Rattle.fidl_links.proofs.restoring.take_links_out.Goals as goal

pub loop-n-init : goal.loop-n-init
loop-n-init c =
    let b = c.args.bytes.now in
    let m = c.args.room.now.marks in
    let none : 0 ≡ min (length b / 8) 0 = omega arith in
    (subst (λ i. Restored b m 0 i b) none (none_restored b m 0), ap (places_before (written b m)) none)

pub loop-n-preserved-then-is_unmarked : goal.loop-n-preserved-then-is_unmarked
loop-n-preserved-then-is_unmarked c =
    let b = c.args.bytes.now in
    let m = c.args.room.now.marks in
    let n = c.loop-n.n in
    let i = min (length b / 8) (8 * n) in
    let j = min (length b / 8) (8 * (n + 1)) in
    let zero = c.if-is_unmarked.ensures.0 refl in
    let free : (q : ℕ) → i ≤ q → q < j → IsFree (marker_bit m q) (envelope_bit m q) (handle_bit m (2 * q)) (handle_bit m (2 * q + 1)) = λ q from to.
    let at : q / 8 ≡ n = omega (arith, from, to) in
    record {
      marker = zero_bits m n q 0 zero at;
      envelope = zero_bits m n q 1 zero at;
      lower = zero_bits m n (2 * q / 2) (2 + 2 * q % 2) zero (omega (arith, at));
      upper = zero_bits m n ((2 * q + 1) / 2) (2 + (2 * q + 1) % 2) zero (omega (arith, at));
    } in (
      restored_past b m c.are_octets.ensures 0 i j c.loop-n.bytes c.loop-n.invariant.0 (omega arith) (omega arith) free,
      c.loop-n.invariant.1 ∙ sym (places_past b m c.requires.sound i j (omega arith) (omega arith) free),
    )

pub overflow_add-places : goal.overflow_add-places
overflow_add-places c =
    let b = c.args.bytes.now in
    let m = c.args.room.now.marks in
    let i = 8 * c.loop-n.n in
    let j = c.min.result in
    let at : min (length b / 8) i ≡ i = omega arith in
    let r : Restored b m 0 i c.loop-n.bytes = subst (λ i. Restored b m 0 i c.loop-n.bytes) at c.loop-n.invariant.0 in
    let same = ap (places_before (written b m)) at in
    let more = places_then b m c.requires.sound i c.loop-n.bytes r j (omega arith) (omega arith) in
    omega (arith, c.loop-n.invariant.1, same, more, c.take_out_of-places.ensures.links, few_before (written b m) j, c.requires.few)

pub loop-n-preserved : goal.loop-n-preserved
loop-n-preserved c =
    let b = c.args.bytes.now in
    let m = c.args.room.now.marks in
    let i = 8 * c.loop-n.n in
    let j = c.min.result in
    let at : min (length b / 8) i ≡ i = omega arith in
    let up : j ≡ min (length b / 8) (8 * (c.loop-n.n + 1)) = omega arith in
    let r : Restored b m 0 i c.loop-n.bytes = subst (λ i. Restored b m 0 i c.loop-n.bytes) at c.loop-n.invariant.0 in
    let out = c.take_out_of-places.ensures in
    let new = c.take_out_of-places.new.bytes in
    let done : Restored c.loop-n.bytes m i j new = record { len = out.len; came = out.came; before = out.before; behind = out.behind } in
    let more = places_then b m c.requires.sound i c.loop-n.bytes r j (omega arith) (omega arith) in (
      subst (λ j. Restored b m 0 j new) up (restored_then b m 0 i c.loop-n.bytes r j new (omega arith) (omega arith) (omega arith) done),
      omega (arith, c.loop-n.invariant.1, ap (places_before (written b m)) at, more, out.links, ap (places_before (written b m)) up),
    )

pub returns-clause-came : goal.returns-clause-came
returns-clause-came c = restored_all c.args.bytes.now c.args.room.now.marks _ c.loop-n.bytes c.loop-n.invariant.0 (omega arith)

pub returns-clause-places : goal.returns-clause-places
returns-clause-places c = c.loop-n.invariant.1 ∙ all_places c.args.bytes.now c.args.room.now.marks (min (length c.args.bytes.now / 8) (8 * c.loop-n.n)) (omega arith)

pub returns-clause-small : goal.returns-clause-small
returns-clause-small c = omega (arith, c.loop-n.invariant.1, few_before (written c.args.bytes.now c.args.room.now.marks) (min (length c.args.bytes.now / 8) (8 * c.loop-n.n)), c.requires.few)
