use Rattle.fidl_decode_values.specs.Reading.{message}
use Rattle.std.proofs.Common.{◌≡◌, ℕ, ◌+◌, ◌-◌, sym, ap, subst, ◌∙◌, arith}
use Rattle.std.specs.Prelude.{Some, None}
use Rattle.fidl_decode_model.specs.declared.frame.Remaining.TheVariants.{Elements}
use Rattle.fidl_decode_model.specs.Machine.{Turns, at_of}
use Rattle.fidl_decode_model.proofs.Turning.{passed_on}
use Rattle.fidl_decode_columns.proofs.Leaves.{going_on, left_over, same_frame, turns_start}
use Rattle.fidl_decode_columns.proofs.Items.{items_room, item_size, item_room, item_inside, item_work, item_takes, item_breaks, items_over, items_break}
use Rattle.fidl_decode_values.proofs.ReadyRows.{element_ready, over_free}
use Rattle.fidl_table_format.specs.declared.kind.EntryKind.TheVariants.{Table}
use Rattle.fidl_table_format.specs.Section.{entry_at}
use Rattle.fidl_decode_model.proofs.Visiting.{size_as, leaf_breaks}
use Rattle.fidl_decode_columns.proofs.Wholly.{leaf_cost}
use Rattle.fidl_decode_values.proofs.Fitting.{le_one}
use Rattle.fidl_decode_values.proofs.ReadyPlaces.{place_of}
use Rattle.fidl_decode_members.specs.Members.{left_of}
use Rattle.fidl_decode.proofs.frames.Frames.read_tables.Goals as goal

pub loop-i-init : goal.loop-i-init
loop-i-init c =
    let t = c.args.self.now.decoder.table.now in
    let m = message c.args.self.now.decoder in
    let f = c.args.frame in
    let old = at_of c.args.state.now in
    let none : 0 ≡ c.args.state.now.steps - c.args.state.now.steps = omega arith in
    let all : c.args.count ≡ c.args.count - 0 = omega arith in
    let left = Elements c.args.members.now.entry c.args.size (c.args.count - 0) in
    let is = c.requires.left ∙ ap (λ n. Elements c.args.members.now.entry c.args.size n) all in
    record { holds = c.requires.holds; turns = subst (λ (n : ℕ). Turns t m f old old n (left_over (Some (going_on f left f.done)))) none (turns_start t m f old c.requires.frame c.requires.state (going_on f left f.done) (same_frame f left is)); steps = omega arith }

pub overflow_add-place : goal.overflow_add-place
overflow_add-place c =
    let room = items_room c.args.self.now.decoder.table.now c.args.self.now.decoder.fine (message c.args.self.now.decoder) c.args.frame (at_of c.args.state.now) (at_of c.loop-i.state)
    (c.loop-i.state.steps - c.args.state.now.steps) c.args.members.now.entry c.args.size c.args.count c.loop-i.i c.loop-i.done c.loop-i.invariant.turns in
    let before = room.0 in
    let within = room.1 in
    record { fits = omega (arith, before, within) }

pub overflow_add-state : goal.overflow_add-state
overflow_add-state c =
    let less = c.loop-i.invariant.turns.less in
    let so_far = c.loop-i.invariant.steps in
    record { fits = omega (arith, less, so_far, c.requires.budget) }

pub read_table-requires-clause-room : goal.read_table-requires-clause-room
read_table-requires-clause-room c =
    let room = item_room c.args.self.now.decoder.table.now c.args.self.now.decoder.fine (message c.args.self.now.decoder) c.args.frame (at_of c.args.state.now) (at_of c.loop-i.state)
    (c.loop-i.state.steps - c.args.state.now.steps) c.args.members.now.entry c.args.size c.args.count c.loop-i.i c.loop-i.done c.loop-i.invariant.turns c.loop-i-test.true in
    let within = room.1 in
    let members = c.requires.members in
    let sixteen : 16 ≡ (entry_at c.args.self.now.decoder.table.now c.args.members.now.entry).size = size_as c.args.self.now.decoder.table.now c.args.self.now.decoder.fine c.args.members.now.entry Table members.entry members.is in
    omega (arith, within, sixteen)

pub read_table-requires-clause-state : goal.read_table-requires-clause-state
read_table-requires-clause-state c =
    c.loop-i.invariant.turns.state

pub read_table-requires-clause-budget : goal.read_table-requires-clause-budget
read_table-requires-clause-budget c =
    let work = item_work c.args.self.now.decoder.table.now c.args.self.now.decoder.fine (message c.args.self.now.decoder) c.args.frame (at_of c.args.state.now) (at_of c.loop-i.state)
    (c.loop-i.state.steps - c.args.state.now.steps) c.args.members.now.entry c.args.size c.args.count c.loop-i.i c.loop-i.done c.loop-i.invariant.turns c.loop-i-test.true in
    let less = c.loop-i.invariant.turns.less in
    let so_far = c.loop-i.invariant.steps in
    omega (arith, work, less, so_far, c.requires.budget)

pub returns-in_err-opened-clause-cost : goal.returns-in_err-opened-clause-cost
returns-in_err-opened-clause-cost c =
    let work = item_work c.args.self.now.decoder.table.now c.args.self.now.decoder.fine (message c.args.self.now.decoder) c.args.frame (at_of c.args.state.now) (at_of c.loop-i.state)
    (c.loop-i.state.steps - c.args.state.now.steps) c.args.members.now.entry c.args.size c.args.count c.loop-i.i c.loop-i.done c.loop-i.invariant.turns c.loop-i-test.true in
    let within = leaf_cost c.args.self.now.decoder.table.now c.args.self.now.decoder.fine c.args.self.now.decoder.bytes.value.came c.loop-i.state.next c.args.members.now.entry c.requires.members.entry in
    let less = c.loop-i.invariant.turns.less in
    let so_far = c.loop-i.invariant.steps in
    omega (arith, work, within, less, so_far, c.in_err-opened.ensures.spends.most)

pub returns-in_err-opened-clause-fault_is_true : goal.returns-in_err-opened-clause-fault_is_true
returns-in_err-opened-clause-fault_is_true c =
    let members = c.requires.members in
    let breaks = leaf_breaks c.args.self.now.decoder.table.now c.args.self.now.decoder.fine (message c.args.self.now.decoder) c.args.frame.depth
    c.args.members.now.entry (c.args.frame.base + c.loop-i.done) (at_of c.loop-i.state) members.entry c.loop-i.invariant.turns.state c.requires.frame.depth Table members.is
    c.in_err-opened.field-0.0 c.in_err-opened.ensures.fault_is_true in
    passed_on c.from_residual.result c.in_err-opened.field-0.0 _ c.from_residual.ensures.1
    (item_breaks c.args.self.now.decoder.table.now c.args.self.now.decoder.fine (message c.args.self.now.decoder) c.args.frame (at_of c.args.state.now) (at_of c.loop-i.state)
    (c.loop-i.state.steps - c.args.state.now.steps) c.args.members.now.entry c.args.size c.args.count c.loop-i.i c.loop-i.done c.loop-i.invariant.turns c.loop-i-test.true _ breaks)

pub overflow_add-done : goal.overflow_add-done
overflow_add-done c =
    let room = item_room c.args.self.now.decoder.table.now c.args.self.now.decoder.fine (message c.args.self.now.decoder) c.args.frame (at_of c.args.state.now) (at_of c.loop-i.state)
    (c.loop-i.state.steps - c.args.state.now.steps) c.args.members.now.entry c.args.size c.args.count c.loop-i.i c.loop-i.done c.loop-i.invariant.turns c.loop-i-test.true in
    let fits = room.0 in
    let within = room.1 in
    let size = item_size c.args.self.now.decoder.table.now c.args.self.now.decoder.fine (message c.args.self.now.decoder) c.args.frame (at_of c.args.state.now) (at_of c.loop-i.state)
    (c.loop-i.state.steps - c.args.state.now.steps) c.args.members.now.entry c.args.size c.args.count c.loop-i.i c.loop-i.done c.loop-i.invariant.turns c.loop-i-test.true in
    record { fits = omega (arith, within, size) }

pub returns-then-opened-clause-ok : goal.returns-then-opened-clause-ok
returns-then-opened-clause-ok c =
    let t = c.args.self.now.decoder.table.now in
    let m = message c.args.self.now.decoder in
    let f = c.args.frame in
    let old = c.args.state.now in
    let new = c.read_table.new.state in
    let opened = c.in_ok-opened.opened in
    let so_far = c.loop-i.invariant.steps in
    let few = c.in_ok-opened.ensures.few in
    let visits = c.in_ok-opened.ensures.left (omega (arith, few, c.if-opened.true)) in
    let inside = item_inside c.args.self.now.decoder.table.now c.args.self.now.decoder.fine (message c.args.self.now.decoder) c.args.frame (at_of c.args.state.now) (at_of c.loop-i.state)
    (c.loop-i.state.steps - c.args.state.now.steps) c.args.members.now.entry c.args.size c.args.count c.loop-i.i c.loop-i.done c.loop-i.invariant.turns c.loop-i-test.true in
    let vf = c.in_ok-opened.ensures.fine f.in_envelope (le_one f.in_envelope _ inside) in
    let inner = left_of c.args.members.now.entry (f.depth + 1) opened in
    let rest = going_on f (Elements c.args.members.now.entry c.args.size (c.args.count - (c.loop-i.i + 1))) (c.loop-i.done + c.args.size) in
    let turns : Turns t m f (at_of old) (at_of new) (new.steps - old.steps) (record { below = Some inner; rest = Some rest }) =
    item_takes c.args.self.now.decoder.table.now c.args.self.now.decoder.fine (message c.args.self.now.decoder) c.args.frame (at_of c.args.state.now) (at_of c.loop-i.state)
    (c.loop-i.state.steps - c.args.state.now.steps) c.args.members.now.entry c.args.size c.args.count c.loop-i.i c.loop-i.done c.loop-i.invariant.turns c.loop-i-test.true
    (Some inner) (at_of new) _ _ (omega (arith, so_far, c.in_ok-opened.ensures.spends.least)) visits vf in
    let own = c.entry-entry.result in
    let turns' = subst (λ e. Turns t m f (at_of old) (at_of new) (new.steps - old.steps)
    (record { below = Some (left_of e (f.depth + 1) opened); rest = Some (going_on f (Elements e c.args.size (c.args.count - (c.loop-i.i + 1))) (c.loop-i.done + c.args.size)) }))
    (sym c.entry-entry.ensures) turns in
    subst (λ g. Turns t m f (at_of old) (at_of new) (new.steps - old.steps) (record { below = Some g; rest = Some c.elements_behind.result })) (sym c.envelopes_left.ensures)
    (subst (λ g. Turns t m f (at_of old) (at_of new) (new.steps - old.steps) (record { below = Some (left_of own (f.depth + 1) opened); rest = Some g })) (sym c.elements_behind.ensures) turns')

pub returns-then-opened-clause-cost : goal.returns-then-opened-clause-cost
returns-then-opened-clause-cost c =
    let work = item_work c.args.self.now.decoder.table.now c.args.self.now.decoder.fine (message c.args.self.now.decoder) c.args.frame (at_of c.args.state.now) (at_of c.loop-i.state)
    (c.loop-i.state.steps - c.args.state.now.steps) c.args.members.now.entry c.args.size c.args.count c.loop-i.i c.loop-i.done c.loop-i.invariant.turns c.loop-i-test.true in
    let within = leaf_cost c.args.self.now.decoder.table.now c.args.self.now.decoder.fine c.args.self.now.decoder.bytes.value.came c.loop-i.state.next c.args.members.now.entry c.requires.members.entry in
    let less = c.loop-i.invariant.turns.less in
    let so_far = c.loop-i.invariant.steps in
    omega (arith, work, within, less, so_far, c.in_ok-opened.ensures.spends.most)

pub loop-i-preserved : goal.loop-i-preserved
loop-i-preserved c =
    let so_far = c.loop-i.invariant.steps in
    let visits = c.in_ok-opened.ensures.whole c.if-opened.false in
    record {
      holds = c.read_table.ensures.holds;
      turns = item_takes c.args.self.now.decoder.table.now c.args.self.now.decoder.fine (message c.args.self.now.decoder) c.args.frame (at_of c.args.state.now) (at_of c.loop-i.state)
          (c.loop-i.state.steps - c.args.state.now.steps) c.args.members.now.entry c.args.size c.args.count c.loop-i.i c.loop-i.done c.loop-i.invariant.turns c.loop-i-test.true None (at_of c.read_table.new.state) _ _ (omega (arith, so_far, c.in_ok-opened.ensures.spends.least)) visits tt;
      steps = omega (arith, so_far, c.in_ok-opened.ensures.spends.least);
    }

pub overflow_add-behind : goal.overflow_add-behind
overflow_add-behind c =
    let room = items_room c.args.self.now.decoder.table.now c.args.self.now.decoder.fine (message c.args.self.now.decoder) c.args.frame (at_of c.args.state.now) (at_of c.loop-i.state)
    (c.loop-i.state.steps - c.args.state.now.steps) c.args.members.now.entry c.args.size c.args.count c.loop-i.i c.loop-i.done c.loop-i.invariant.turns in
    let before = room.0 in
    let within = room.1 in
    record { fits = omega (arith, before, within) }

pub overflow_sub-state : goal.overflow_sub-state
overflow_sub-state c =
    let room = items_room c.args.self.now.decoder.table.now c.args.self.now.decoder.fine (message c.args.self.now.decoder) c.args.frame (at_of c.args.state.now) (at_of c.loop-i.state)
    (c.loop-i.state.steps - c.args.state.now.steps) c.args.members.now.entry c.args.size c.args.count c.loop-i.i c.loop-i.done c.loop-i.invariant.turns in
    let before = room.0 in
    let within = room.1 in
    omega (arith, before, within)

pub overflow_add-state-3 : goal.overflow_add-state-3
overflow_add-state-3 c =
    let room = items_room c.args.self.now.decoder.table.now c.args.self.now.decoder.fine (message c.args.self.now.decoder) c.args.frame (at_of c.args.state.now) (at_of c.loop-i.state)
    (c.loop-i.state.steps - c.args.state.now.steps) c.args.members.now.entry c.args.size c.args.count c.loop-i.i c.loop-i.done c.loop-i.invariant.turns in
    let before = room.0 in
    let within = room.1 in
    let less = c.loop-i.invariant.turns.less in
    let so_far = c.loop-i.invariant.steps in
    record { fits = omega (arith, before, within, less, so_far, c.requires.budget) }

pub zeros_at-requires-clause-order : goal.zeros_at-requires-clause-order
zeros_at-requires-clause-order c =
    let room = items_room c.args.self.now.decoder.table.now c.args.self.now.decoder.fine (message c.args.self.now.decoder) c.args.frame (at_of c.args.state.now) (at_of c.loop-i.state)
    (c.loop-i.state.steps - c.args.state.now.steps) c.args.members.now.entry c.args.size c.args.count c.loop-i.i c.loop-i.done c.loop-i.invariant.turns in
    let before = room.0 in
    let within = room.1 in
    omega (arith, before, within)

pub returns-in_err-zeros_at-clause-cost : goal.returns-in_err-zeros_at-clause-cost
returns-in_err-zeros_at-clause-cost c =
    let room = items_room c.args.self.now.decoder.table.now c.args.self.now.decoder.fine (message c.args.self.now.decoder) c.args.frame (at_of c.args.state.now) (at_of c.loop-i.state)
    (c.loop-i.state.steps - c.args.state.now.steps) c.args.members.now.entry c.args.size c.args.count c.loop-i.i c.loop-i.done c.loop-i.invariant.turns in
    let before = room.0 in
    let spend = room.2 in
    let less = c.loop-i.invariant.turns.less in
    let so_far = c.loop-i.invariant.steps in
    omega (arith, before, spend, less, so_far)

pub returns-in_err-zeros_at-clause-fault_is_true : goal.returns-in_err-zeros_at-clause-fault_is_true
returns-in_err-zeros_at-clause-fault_is_true c =
    passed_on c.from_residual-in_err-zeros_at.result c.in_err-zeros_at.field-0.0 _ c.from_residual-in_err-zeros_at.ensures.1
    (items_break c.args.self.now.decoder.table.now c.args.self.now.decoder.fine (message c.args.self.now.decoder) c.args.frame (at_of c.args.state.now) (at_of c.loop-i.state)
    (c.loop-i.state.steps - c.args.state.now.steps) c.args.members.now.entry c.args.size c.args.count c.loop-i.i c.loop-i.done c.loop-i.invariant.turns (omega (arith, c.loop-i-test.false)) _ c.in_err-zeros_at.ensures.fault_is_true)

pub returns-clause-ok : goal.returns-clause-ok
returns-clause-ok c =
    let so_far = c.loop-i.invariant.steps in
    items_over c.args.self.now.decoder.table.now c.args.self.now.decoder.fine (message c.args.self.now.decoder) c.args.frame (at_of c.args.state.now) (at_of c.loop-i.state)
    (c.loop-i.state.steps - c.args.state.now.steps) c.args.members.now.entry c.args.size c.args.count c.loop-i.i c.loop-i.done c.loop-i.invariant.turns (omega (arith, c.loop-i-test.false)) _ (omega (arith, so_far)) (omega (arith, so_far)) c.in_ok-zeros_at.ensures.ok

pub returns-clause-rises : goal.returns-clause-rises
returns-clause-rises c =
    let so_far = c.loop-i.invariant.steps in
    omega (arith, so_far)

pub returns-clause-cost : goal.returns-clause-cost
returns-clause-cost c =
    let room = items_room c.args.self.now.decoder.table.now c.args.self.now.decoder.fine (message c.args.self.now.decoder) c.args.frame (at_of c.args.state.now) (at_of c.loop-i.state)
    (c.loop-i.state.steps - c.args.state.now.steps) c.args.members.now.entry c.args.size c.args.count c.loop-i.i c.loop-i.done c.loop-i.invariant.turns in
    let before = room.0 in
    let spend = room.2 in
    let less = c.loop-i.invariant.turns.less in
    let so_far = c.loop-i.invariant.steps in
    omega (arith, before, spend, less, so_far)

pub read_table-requires-clause-ready : goal.read_table-requires-clause-ready
read_table-requires-clause-ready c =
    let t = c.args.self.now.decoder.table.now in
    let fine = c.args.self.now.decoder.fine in
    let m = message c.args.self.now.decoder in
    let members = c.requires.members in
    place_of t fine m (at_of c.loop-i.state) c.args.members.now.entry (c.args.frame.base + c.loop-i.done) Table members.entry members.is
    (element_ready c.args.self.now.decoder.table.now c.args.self.now.decoder.fine (message c.args.self.now.decoder) c.args.frame (at_of c.args.state.now) (at_of c.loop-i.state)
    (c.loop-i.state.steps - c.args.state.now.steps) c.args.members.now.entry c.args.size c.args.count c.loop-i.i c.loop-i.done c.loop-i.invariant.turns c.requires.ready c.loop-i-test.true)

pub zeros_at-requires-clause-free : goal.zeros_at-requires-clause-free
zeros_at-requires-clause-free c =
    let t = c.args.self.now.decoder.table.now in
    let m = message c.args.self.now.decoder in
    over_free t c.args.self.now.decoder.fine m c.args.frame (at_of c.args.state.now) (at_of c.loop-i.state) (c.loop-i.state.steps - c.args.state.now.steps)
    (going_on c.args.frame (Elements c.args.members.now.entry c.args.size (c.args.count - c.loop-i.i)) c.loop-i.done) c.loop-i.invariant.turns c.requires.ready

pub overflow_cast-done-then-opened : goal.overflow_cast-done-then-opened
overflow_cast-done-then-opened c =
    let room = item_room c.args.self.now.decoder.table.now c.args.self.now.decoder.fine (message c.args.self.now.decoder) c.args.frame (at_of c.args.state.now) (at_of c.loop-i.state)
    (c.loop-i.state.steps - c.args.state.now.steps) c.args.members.now.entry c.args.size c.args.count c.loop-i.i c.loop-i.done c.loop-i.invariant.turns c.loop-i-test.true in
    let within = room.1 in
    let size = item_size c.args.self.now.decoder.table.now c.args.self.now.decoder.fine (message c.args.self.now.decoder) c.args.frame (at_of c.args.state.now) (at_of c.loop-i.state)
    (c.loop-i.state.steps - c.args.state.now.steps) c.args.members.now.entry c.args.size c.args.count c.loop-i.i c.loop-i.done c.loop-i.invariant.turns c.loop-i-test.true in
    record { fits = omega (arith, within, size, c.args.self.now.decoder.short) }
