use Rattle.std.proofs.Common.{◌+◌, drop, arith, rules}
use Rattle.std.proofs.lemmas.List.{length-take}
use Rattle.fidl_dump.specs.Faults.{IsFaultAt}
use Rattle.fidl_dump.proofs.Parts.{behind_part, whole_at, ends_within, part_at, none_behind}
use Rattle.fidl_dump.proofs.Dumping.{begin, told, at_end, all_lines, fault_at, next, front_of_next}
use Rattle.fidl_dump.proofs.dump.dump_frames.Goals as goal

pub loop-at-init : goal.loop-at-init
loop-at-init g c = record {
  so_far = begin c.args.stream.now.protocol.now c.args.stream.now.direction c.args.bytes.now _;
  room = omega arith;
  within = omega arith;
  long = search rules;
  error = λ h. h;
}

pub loop-at-preserved : goal.loop-at-preserved
loop-at-preserved g c =
    let at = c.loop-at.at in
    let bytes = c.loop-at.bytes in
    let size = c.in-Some.size in
    let ends = ends_within bytes at size c.loop-at.invariant.within c.in-Some.ensures.within in
    let frame = whole_at bytes at size c.in-Some.ensures.frame in
    let same = part_at bytes at size _ c.new-frame.ensures in
    record {
      so_far = next _ _ _ (drop at bytes) _ _ _ c.loop-at.invariant.so_far size frame c.new-frame.result same _ _ (behind_part _ _ _ _ _ (omega arith) ends (search rules)) c.in-Ok.ensures.prints;
      room = let room = c.loop-at.invariant.room in let long = frame.head in omega (arith, room, long, length-take size (drop at bytes));
      within = search (rules, ends);
      long = search rules;
      error = λ h. c.in-Ok.ensures.error (c.loop-at.invariant.error h);
    }

pub returns-in-Err-Refused-clause-fault_is_true : goal.returns-in-Err-Refused-clause-fault_is_true
returns-in-Err-Refused-clause-fault_is_true g c number fault e =
    let at = c.loop-at.at in
    let bytes = c.loop-at.bytes in
    let size = c.in-Some.size in
    let frame = whole_at bytes at size c.in-Some.ensures.frame in
    let same = part_at bytes at size _ c.new-frame.ensures in
    let refused = rw c.in-Err-Refused.field-0-is at c.in-Err-Refused.ensures.prints in
    told (IsFaultAt c.args.stream.now.protocol.now c.args.stream.now.direction c.args.bytes.now) (c.loop-at.number + 1) number c.in-Err-Refused.fault fault e
    (fault_at _ _ _ (drop at bytes) _ _ _ c.loop-at.invariant.so_far size frame c.new-frame.result same c.in-Err-Refused.fault refused.0)

pub returns-in-Err-Write-clause-front : goal.returns-in-Err-Write-clause-front
returns-in-Err-Write-clause-front g c e =
    let at = c.loop-at.at in
    let bytes = c.loop-at.bytes in
    let size = c.in-Some.size in
    let frame = whole_at bytes at size c.in-Some.ensures.frame in
    let same = part_at bytes at size _ c.new-frame.ensures in
    let front = rw c.in-Err-Write.field-0-is at c.in-Err-Write.ensures.prints in
    front_of_next _ _ _ (drop at bytes) _ _ _ c.loop-at.invariant.so_far size frame c.new-frame.result same _ front

pub returns-clause-whole : goal.returns-clause-whole
returns-clause-whole g c =
    let none = none_behind c.loop-at.bytes c.loop-at.at (omega (arith, c.loop-at-test.false)) in
    at_end _ _ _ (drop c.loop-at.at c.loop-at.bytes) _ _ _ c.loop-at.invariant.so_far none

pub returns-clause-ok : goal.returns-clause-ok
returns-clause-ok g c =
    let none = none_behind c.loop-at.bytes c.loop-at.at (omega (arith, c.loop-at-test.false)) in
    all_lines _ _ _ (drop c.loop-at.at c.loop-at.bytes) _ _ _ c.loop-at.invariant.so_far none
