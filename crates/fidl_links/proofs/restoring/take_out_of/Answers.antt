use Rattle.std.proofs.Common.{◌≡◌, ◌+◌, ◌-◌, ap, sym, ◌∙◌, arith}
use Rattle.std.specs.List.{range_with_len, sum_by}
use Rattle.fidl_links.specs.Links.{links_at}
use Rattle.fidl_links.proofs.Places.{sum_next, few_links, few_links_at}
use Rattle.fidl_links.proofs.TakenOut.{none_restored, one_restored, restored_then, same_links}
use Rattle.fidl_links.proofs.restoring.take_out_of.Goals as goal

pub loop-i-init : goal.loop-i-init
loop-i-init c =
    let b = c.args.bytes.now in
    let m = c.args.room.now.marks in
    let none : c.args.from - c.args.from ≡ 0 = omega arith in
    (none_restored b m c.args.from, sym (ap (λ n. sum_by (links_at b m) (range_with_len c.args.from n)) none))

pub overflow_add-links : goal.overflow_add-links
overflow_add-links c =
    let few = few_links c.args.bytes.now c.args.room.now.marks c.args.from (c.loop-i.i - c.args.from) in
    let more = few_links_at c.loop-i.bytes c.args.room.now.marks c.loop-i.i in
    omega (arith, c.loop-i.invariant.1, few, more, c.came_at-came.ensures.links, c.requires.few, c.requires.within)

pub loop-i-preserved : goal.loop-i-preserved
loop-i-preserved c =
    let b = c.args.bytes.now in
    let m = c.args.room.now.marks in
    let i = c.loop-i.i in
    let now = c.loop-i.bytes in
    let r = c.loop-i.invariant.0 in
    let links = c.came_at-came.ensures.links ∙ same_links b m c.args.from i now r i (omega arith) (omega (arith, c.requires.within)) in
    let put = c.put_word.ensures in
    let one = one_restored now m i c.put_word.new.bytes c.came_at-came.result.0 (omega (arith, c.requires.within, r.len)) c.came_at-came.ensures.came put.len put.here put.before put.behind in (
      restored_then b m c.args.from i now r (i + 1) c.put_word.new.bytes (omega arith) (omega arith) (omega (arith, c.requires.within)) one,
      omega (arith, c.loop-i.invariant.1, links, sum_next (links_at b m) c.args.from i (omega arith)),
    )

pub returns-clause-came : goal.returns-clause-came
returns-clause-came c k from to = c.loop-i.invariant.0.came k from (omega (arith, to))

pub returns-clause-before : goal.returns-clause-before
returns-clause-before c = c.loop-i.invariant.0.before

pub returns-clause-behind : goal.returns-clause-behind
returns-clause-behind c k ge = c.loop-i.invariant.0.behind k (omega (arith, ge, c.requires.order))

pub returns-clause-links : goal.returns-clause-links
returns-clause-links c =
    let all : c.loop-i.i ≡ c.args.to = omega (arith, c.requires.order) in
    c.loop-i.invariant.1 ∙ ap (λ i. sum_by (links_at c.args.bytes.now c.args.room.now.marks) (range_with_len c.args.from (i - c.args.from))) all
