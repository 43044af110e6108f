use Rattle.std.proofs.Common.{◌≡◌, ◌+◌, ◌-◌, ◌*◌, ◌≤◌, sym, ap, subst, ◌∙◌, arith}
use Rattle.fidl_table_format.specs.declared.record.Entry.{Entry}
use Rattle.fidl_table_format.specs.declared.record.Row as raw
use Rattle.fidl_table_format.specs.Section.{header_of, entry_at, row_at}
use Rattle.fidl_table_format.specs.Terms.{declarations_of}
use Rattle.fidl_decode_model.specs.Faults.{message_of}
use Rattle.fidl_decode_model.specs.Rows.{table_rows, RowsRise}
use Rattle.fidl_decode_columns.specs.Columns.{IsFirstWrong, IsReadTo, IsBroken}
use Rattle.fidl_decode_columns.proofs.Counted.{none_known, none_counted, counted, all_rows}
use Rattle.fidl_decode_columns.proofs.Sizes.{gaps_fit, row_cost, end_cost}
use Rattle.fidl_decode_columns.proofs.Reading.{none_read, first_rise, rise_fits, row_behind, row_some, next_rise, end_checked}
use Rattle.fidl_decode_columns.proofs.columns.Columns.check_rows.Goals as goal

pub loop-i-init : goal.loop-i-init
loop-i-init c =
    let t = c.args.self.now.table.now in
    let m = message_of c.args.self.now.links.now.came c.args.self.now.handles.now in
    record {
      rise = first_rise t c.args.self.now.fine m c.args.structs.now c.requires.structs;
      wrong = none_read t c.args.self.now.fine m c.args.structs.now c.requires.structs;
      window = λ k i few lt from to. absurd (omega (arith, few));
      below = omega arith;
      least = none_counted c.args.structs.now.count c.args.structs.now.entry.first c.args.steps.now;
      grows = omega arith;
      cost = omega arith;
    }

pub check_row-wrong-requires-clause-numeric : goal.check_row-wrong-requires-clause-numeric
check_row-wrong-requires-clause-numeric c = c.requires.numbers c.loop-i.i c.loop-i.auto.i c.loop-i-test.true

pub check_row-wrong-requires-clause-budget : goal.check_row-wrong-requires-clause-budget
check_row-wrong-requires-clause-budget c =
    let t = c.args.self.now.table.now in
    let m = message_of c.args.self.now.links.now.came c.args.self.now.handles.now in
    let fits = rise_fits t c.args.self.now.fine m c.args.structs.now c.loop-i.i c.loop-i.done c.loop-i.invariant.rise in
    let few = gaps_fit c.args.structs.now.count c.args.structs.now.count c.loop-i.done c.args.structs.now.entry.size c.args.structs.now.base _ (omega arith) fits c.requires.structs.within in
    omega (arith, few, c.requires.budget, c.loop-i.invariant.cost, c.args.self.now.short)

pub loop-i-preserved : goal.loop-i-preserved
loop-i-preserved c =
    let t = c.args.self.now.table.now in
    let m = message_of c.args.self.now.links.now.came c.args.self.now.handles.now in
    let r = row_at t (header_of t) c.loop-i.i in
    let before = row_behind t c.args.self.now.fine m c.args.structs.now c.loop-i.i c.loop-i.done c.loop-i.auto.i c.loop-i-test.true c.loop-i.invariant.rise in
    let some = row_some t c.args.self.now.fine m c.args.structs.now c.loop-i.i c.loop-i.done c.loop-i.auto.i c.loop-i-test.true c.loop-i.invariant.rise in
    let rise = next_rise t c.args.self.now.fine m c.args.structs.now c.loop-i.i c.loop-i.done c.loop-i.auto.i c.loop-i-test.true c.loop-i.invariant.rise in
    let own = sym c.row-row.ensures.value in
    let key : r.key ≡ c.row-row.result.key = ap (λ (w : raw.Row). w.key) own in
    let size : (entry_at t r.entry).size ≡ c.entry.result.size = ap (λ (w : raw.Row). (entry_at t w.entry).size) own ∙ ap (λ (e : Entry). e.size) (sym c.entry.ensures.value) in
    let next : r.key + (entry_at t r.entry).size ≡ c.row-row.result.key + c.entry.result.size = (λ j. key j + size j) in
    record {
      rise = subst (λ d. RowsRise (declarations_of t) (header_of t).entries c.args.structs.now.entry.nest c.args.structs.now.entry.size d (table_rows t (header_of t) (c.loop-i.i + 1) (c.args.structs.now.entry.first + c.args.structs.now.entry.count - (c.loop-i.i + 1)))) next rise;
      wrong = subst (λ d. IsFirstWrong (IsReadTo t m c.args.structs.now (c.loop-i.i + 1) d) (IsBroken t m c.args.structs.now) c.args.structs.now.count c.check_row-wrong.result) next c.check_row-wrong.ensures.value;
      window = c.check_row-wrong.ensures.window;
      below = omega (arith, c.loop-i-test.true);
      least = counted c.args.structs.now.count c.args.structs.now.entry.first c.loop-i.i c.args.steps.now c.loop-i.steps c.check_row-wrong.new.steps c.loop-i.auto.i c.loop-i.wrong c.check_row-wrong.result c.check_row-wrong.ensures.least c.loop-i.invariant.least;
      grows = omega (arith, c.loop-i.invariant.grows, c.check_row-wrong.ensures.grows);
      cost = subst (λ d. c.check_row-wrong.new.steps ≤ c.args.steps.now + 17 * (c.args.structs.now.count * d)) next
          (row_cost c.args.structs.now.count c.loop-i.done r.key (r.key + (entry_at t r.entry).size) c.args.steps.now c.loop-i.steps c.check_row-wrong.new.steps before (omega (arith, some)) c.loop-i.invariant.cost c.check_row-wrong.ensures.cost);
    }

pub check_gap-requires-clause-order : goal.check_gap-requires-clause-order
check_gap-requires-clause-order c = rise_fits c.args.self.now.table.now c.args.self.now.fine (message_of c.args.self.now.links.now.came c.args.self.now.handles.now) c.args.structs.now c.loop-i.i c.loop-i.done c.loop-i.invariant.rise

pub check_gap-requires-clause-budget : goal.check_gap-requires-clause-budget
check_gap-requires-clause-budget c =
    let t = c.args.self.now.table.now in
    let m = message_of c.args.self.now.links.now.came c.args.self.now.handles.now in
    let fits = rise_fits t c.args.self.now.fine m c.args.structs.now c.loop-i.i c.loop-i.done c.loop-i.invariant.rise in
    let few = gaps_fit c.args.structs.now.count c.args.structs.now.count c.loop-i.done c.args.structs.now.entry.size c.args.structs.now.base _ (omega arith) fits c.requires.structs.within in
    omega (arith, few, c.requires.budget, c.loop-i.invariant.cost, c.args.self.now.short)

pub returns-clause-value : goal.returns-clause-value
returns-clause-value c =
    let t = c.args.self.now.table.now in
    let m = message_of c.args.self.now.links.now.came c.args.self.now.handles.now in
    let fits = rise_fits t c.args.self.now.fine m c.args.structs.now c.loop-i.i c.loop-i.done c.loop-i.invariant.rise in
    end_checked t c.args.self.now.fine m c.args.structs.now c.loop-i.i c.loop-i.done (omega (arith, c.loop-i-test.false, c.loop-i.invariant.below)) fits c.loop-i.wrong c.check_gap.result c.loop-i.invariant.wrong c.check_gap.ensures.value

pub returns-clause-cost : goal.returns-clause-cost
returns-clause-cost c =
    let t = c.args.self.now.table.now in
    let m = message_of c.args.self.now.links.now.came c.args.self.now.handles.now in
    let fits = rise_fits t c.args.self.now.fine m c.args.structs.now c.loop-i.i c.loop-i.done c.loop-i.invariant.rise in
    end_cost c.args.structs.now.count c.loop-i.done c.args.structs.now.entry.size c.args.steps.now c.loop-i.steps c.check_gap.new.steps fits c.loop-i.invariant.cost c.check_gap.ensures.cost

pub returns-clause-least : goal.returns-clause-least
returns-clause-least c =
    let gap = c.check_gap.ensures.value in
    let grows = c.check_gap.ensures.grows in
    all_rows c.args.structs.now.count c.args.structs.now.entry.first c.args.structs.now.entry.count c.loop-i.i c.args.steps.now c.loop-i.steps c.check_gap.new.steps (omega (arith, c.loop-i-test.false, c.loop-i.invariant.below)) grows
    c.loop-i.wrong c.check_gap.result (none_known c.loop-i.wrong gap.0 c.check_gap.result gap.1) c.loop-i.invariant.least
