use Rattle.std.proofs.Common.{rules, ◌≡◌, ◌<◌, None, length, get_or, replicate, ap, sym, subst, ◌∙◌, arith}
use Rattle.fidl_consts.specs.declared.consts.Consts.{Consts}
use Rattle.fidl_const.proofs.InOrder.{all_done, all_hold, done_more, holds_more, next_at, next_settled, next_within, room_empty, room_kept, true_empty}
use Rattle.fidl_const.proofs.order.values_in_order.Goals as goal

pub loop-number-init : goal.loop-number-init
loop-number-init c =
    let fs = c.args.named.now in
    let nodes = c.args.numbers.nodes.items in
    let count : c.len-count.result ≡ length nodes = c.len-count.ensures ∙ c.args.numbers.nodes.ok.0 in
    let table : Consts = record { starts = c.args.numbers.starts; values = c.in_ok-no_values.field-0; limits = c.in_ok-vec.field-0 } in
    let values : table.values.items ≡ replicate (length nodes) None = c.in_ok-no_values.ensures ∙ ap (λ n. replicate n None) count in
    let limits : table.limits.items ≡ replicate (length nodes) None = c.in_ok-vec.ensures.items_if_clones_equal (λ y h. search (rules, h)) ∙ ap (λ n. replicate n None) count in
    record {
      known = true_empty fs nodes table values limits;
      room = room_empty fs nodes table values limits c.requires.numbered;
      done = λ t m h at. let never : ⊥ = omega (arith, h.1) in absurd never;
      holds = λ t p f d h at const. let never : ⊥ = omega (arith, h.1) in absurd never;
    }

pub index-requires : goal.index-requires
index-requires c =
    let nodes = c.args.numbers.nodes.items in
    subst (λ n. get_or c.args.order.now c.loop-number.number-index 0 < n) (sym c.args.numbers.nodes.ok.0) (next_within c.args.named.now nodes c.args.order.now c.requires.order c.loop-number.number-index c.loop-number-test.true)

pub add_node-requires-clause-node : goal.add_node-requires-clause-node
add_node-requires-clause-node c =
    let one = c.index.result.now in
    c.requires.numbered.node (get_or c.args.order.now c.loop-number.number-index 0) one
    (next_at c.args.named.now c.args.numbers.nodes.items c.args.order.now c.requires.order c.loop-number.number-index c.loop-number-test.true one c.index.ensures)

pub add_node-requires-clause-settled : goal.add_node-requires-clause-settled
add_node-requires-clause-settled c =
    let nodes = c.args.numbers.nodes.items in
    let one = c.index.result.now in
    let at = next_at c.args.named.now nodes c.args.order.now c.requires.order c.loop-number.number-index c.loop-number-test.true one c.index.ensures in
    next_settled c.args.named.now nodes c.args.order.now c.requires.order c.loop-number.number-index c.loop-number-test.true c.loop-number.consts one at c.loop-number.invariant.done

pub loop-number-preserved : goal.loop-number-preserved
loop-number-preserved c =
    let fs = c.args.named.now in
    let nodes = c.args.numbers.nodes.items in
    let order = c.args.order.now in
    let i = c.loop-number.number-index in
    let lt = c.loop-number-test.true in
    let one = c.index.result.now in
    let old = c.loop-number.consts in
    let new = c.add_node.new.consts in
    let at = next_at fs nodes order c.requires.order i lt one c.index.ensures in
    let added = c.in_ok-add_node.ensures in
    record {
      known = added.known;
      room = room_kept fs nodes old new c.loop-number.invariant.room added.extends;
      done = done_more fs nodes order c.requires.order i lt old new one c.loop-number.invariant.room.numbered at added.extends added.done c.loop-number.invariant.done;
      holds = holds_more fs nodes order c.requires.order i lt one at added.holds c.loop-number.invariant.holds;
    }

pub returns-clause-ok : goal.returns-clause-ok
returns-clause-ok c =
    all_done c.args.named.now c.args.numbers.nodes.items c.args.order.now c.requires.order c.loop-number.number-index c.loop-number-test.false c.args.numbers.starts.items c.requires.numbered
    c.loop-number.consts c.loop-number.invariant.known c.loop-number.invariant.done

pub returns-clause-holds : goal.returns-clause-holds
returns-clause-holds c =
    all_hold c.args.named.now c.args.numbers.nodes.items c.args.order.now c.requires.order c.loop-number.number-index c.loop-number-test.false c.args.numbers.starts.items c.requires.numbered c.loop-number.invariant.holds
