use Rattle.fidl_decode_values.specs.Reading.{message}
use Rattle.fidl_decode_values.proofs.Unchanged.{no_ok}
use Rattle.fidl_decode_values.proofs.Fitting.{budget_on, cost_on, cost_now, grows_on, rises_on, first_in, some_left, smaller_on, next_fits, one_more}
use Rattle.std.proofs.Common.{◌≡◌, ◌+◌, ◌-◌, sym, ap, subst, ◌∙◌, arith, refl, ◌≤◌, ◌<◌, ◌^◌, []}
use Rattle.std.specs.Prelude.{Option, Some, None}
use Rattle.fidl_table_format.specs.declared.record.Row as raw
use Rattle.fidl_table_format.specs.declared.record.Entry.{Entry}
use Rattle.fidl_table_format.specs.Kind.{kind_of}
use Rattle.fidl_table_format.specs.Section.{header_of, entry_at, row_at}
use Rattle.fidl_decode_model.specs.declared.frame.Frame.{Frame}
use Rattle.fidl_decode_model.specs.declared.frame.Remaining.TheVariants.{Rows}
use Rattle.fidl_decode_model.specs.State.{Position}
use Rattle.fidl_decode_model.specs.Machine.{Turns, at_of, turn_work, IsPlain, rows_left}
use Rattle.fidl_decode_model.specs.Invariants.{is_leaf}
use Rattle.fidl_decode_model.proofs.Turning.{passed_on, done_fits}
use Rattle.fidl_decode_columns.proofs.Leaves.{going_on, same_frame, left_over, turns_then, turns_break, turns_stay}
use Rattle.fidl_decode_values.proofs.ReadyRows.{rest_ready}
use Rattle.fidl_decode.proofs.Onward.{entered, all_read_of}
use Rattle.fidl_decode.proofs.frames.Frames.read_nested.Goals as goal

no_some : {A : Type 0} (a : A) → Some a ≡ None → ⊥
no_some a e = cc

pub read_row-requires-clause-frame : goal.read_row-requires-clause-frame
read_row-requires-clause-frame g c =
    let t = c.args.self.now.decoder.table.now in
    let m = message c.args.self.now.decoder in
    let f = c.args.frame in
    let old = at_of c.args.state.now in
    let now = at_of c.loop-many.state in
    let a = c.loop-many.state.steps - c.args.state.now.steps in
    let same = c.rows_from-rest.ensures in
    let so_far = subst (λ (x : Frame). Turns t m f old now a (left_over (Some x))) (sym same) c.loop-many.invariant.turns in
    so_far.rest_fine.0

pub returns-in_err-read_row : goal.returns-in_err-read_row
returns-in_err-read_row g c =
    let t = c.args.self.now.decoder.table.now in
    let m = message c.args.self.now.decoder in
    let f = c.args.frame in
    let old = at_of c.args.state.now in
    let now = at_of c.loop-many.state in
    let a = c.loop-many.state.steps - c.args.state.now.steps in
    let rest = c.rows_from-rest.result in
    let same = c.rows_from-rest.ensures in
    let so_far = subst (λ (x : Frame). Turns t m f old now a (left_over (Some x))) (sym same) c.loop-many.invariant.turns in
    record {
      holds = c.read_row.ensures.holds;
      ok = no_ok c.from_residual.result c.in_err-read_row.field-0.0 _ c.from_residual.ensures.1;
      grows = no_ok c.from_residual.result c.in_err-read_row.field-0.0 _ c.from_residual.ensures.1;
      ended = no_ok c.from_residual.result c.in_err-read_row.field-0.0 _ c.from_residual.ensures.1;
      cost = cost_on _ _ _ c.args.state.now.steps c.loop-many.state.steps c.read_row.new.state.steps c.loop-many.invariant.steps c.loop-many.invariant.turns.less (subst (λ (x : Frame). c.read_row.new.state.steps ≤ c.loop-many.state.steps + turn_work
          c.args.self.now.decoder.bytes.value.came c.loop-many.state.next x) c.rows_from-rest.ensures c.in_err-read_row.ensures.spends.most);
      fault_is_true = passed_on c.from_residual.result c.in_err-read_row.field-0.0 _ c.from_residual.ensures.1 (turns_break t m f old now a rest so_far _ c.in_err-read_row.ensures.fault_is_true);
    }

pub loop-many-preserved-in-Some : goal.loop-many-preserved-in-Some
loop-many-preserved-in-Some g c =
    let t = c.args.self.now.decoder.table.now in
    let m = message c.args.self.now.decoder in
    let f = c.args.frame in
    let old = at_of c.args.state.now in
    let now = at_of c.loop-many.state in
    let a = c.loop-many.state.steps - c.args.state.now.steps in
    let begun = c.loop-many.invariant.steps in
    let same = c.rows_from-rest.ensures in
    let g = going_on c.loop-many.holder (Rows c.loop-many.next c.loop-many.many) c.loop-many.done in
    let new = at_of c.read_row.new.state in
    let spent = c.read_row.new.state.steps - c.loop-many.state.steps in
    let rows = Rows (c.loop-many.next + 1) (c.loop-many.many - 1) in
    let size : (row_at t (header_of t) c.loop-many.next).key + (entry_at t (row_at t (header_of t) c.loop-many.next).entry).size ≡ c.row-row.result.key + c.entry-e.result.size = ap (λ (w : raw.Row). w.key + (entry_at t w.entry).size) (sym c.row-row.ensures.value) ∙ ap (λ (e : Entry).
    c.row-row.result.key + e.size) (sym c.entry-e.ensures.value) in
    let one = subst (λ (x : Frame). Turns t m x now new spent (left_over (Some (going_on x rows ((row_at t (header_of t) c.loop-many.next).key + (entry_at t (row_at t (header_of t) c.loop-many.next).entry).size))))) same c.in_ok-read_row.ensures.ok in
    let two = subst (λ d. Turns t m g now new spent (left_over (Some (going_on c.loop-many.holder rows d)))) size one in
    let rises = (one_more _ _ _ c.in_ok-read_row.ensures.spends) in
    let done = c.row-row.result.key + c.entry-e.result.size in
    record {
      holds = c.read_row.ensures.holds;
      turns = turns_then t m f old now a g c.loop-many.invariant.turns new spent
          (c.read_row.new.state.steps - c.args.state.now.steps) (left_over (Some (going_on c.loop-many.holder rows done))) (omega (arith, begun, rises))
          two;
      steps = omega (arith, begun, rises);
    }

pub enter_box-requires-clause-frame : goal.enter_box-requires-clause-frame
enter_box-requires-clause-frame g c =
    let t = c.args.self.now.decoder.table.now in
    let m = message c.args.self.now.decoder in
    let f = c.args.frame in
    let old = at_of c.args.state.now in
    let now = at_of c.loop-many.state in
    let a = c.loop-many.state.steps - c.args.state.now.steps in
    let same = c.rows_from-rest.ensures in
    let so_far = subst (λ (x : Frame). Turns t m f old now a (left_over (Some x))) (sym same) c.loop-many.invariant.turns in
    so_far.rest_fine.0

pub enter_box-requires-clause-left : goal.enter_box-requires-clause-left
enter_box-requires-clause-left g c =
    let same = c.rows_from-rest.ensures in
    let box = c.ends_in_box.ensures c.if-not-ends_in_box.false in
    ap (λ (x : Frame). x.left) same ∙ ap (λ n. Rows c.loop-many.next n) box.0

pub enter_box-requires-clause-kind : goal.enter_box-requires-clause-kind
enter_box-requires-clause-kind g c =
    let box = c.ends_in_box.ensures c.if-not-ends_in_box.false in
    box.1

pub enter_box-requires-clause-whole : goal.enter_box-requires-clause-whole
enter_box-requires-clause-whole g c =
    let same = c.rows_from-rest.ensures in
    let box = c.ends_in_box.ensures c.if-not-ends_in_box.false in
    box.2 ∙ ap (λ (x : Frame). x.size) (sym same)

pub returns-in_err-below : goal.returns-in_err-below
returns-in_err-below g c =
    let t = c.args.self.now.decoder.table.now in
    let m = message c.args.self.now.decoder in
    let f = c.args.frame in
    let old = at_of c.args.state.now in
    let now = at_of c.loop-many.state in
    let a = c.loop-many.state.steps - c.args.state.now.steps in
    let rest = c.rows_from-rest.result in
    let same = c.rows_from-rest.ensures in
    let so_far = subst (λ (x : Frame). Turns t m f old now a (left_over (Some x))) (sym same) c.loop-many.invariant.turns in
    record {
      holds = c.enter_box.ensures.holds;
      ok = no_ok c.from_residual-in_err-below.result c.in_err-below.field-0.0 _ c.from_residual-in_err-below.ensures.1;
      grows = no_ok c.from_residual-in_err-below.result c.in_err-below.field-0.0 _ c.from_residual-in_err-below.ensures.1;
      ended = no_ok c.from_residual-in_err-below.result c.in_err-below.field-0.0 _ c.from_residual-in_err-below.ensures.1;
      cost = cost_on _ _ _ c.args.state.now.steps c.loop-many.state.steps c.enter_box.new.state.steps c.loop-many.invariant.steps c.loop-many.invariant.turns.less (subst (λ (x : Frame). c.enter_box.new.state.steps ≤ c.loop-many.state.steps + turn_work
          c.args.self.now.decoder.bytes.value.came c.loop-many.state.next x) c.rows_from-rest.ensures c.in_err-below.ensures.spends.most);
      fault_is_true = passed_on c.from_residual-in_err-below.result c.in_err-below.field-0.0 _ c.from_residual-in_err-below.ensures.1 (turns_break t m f old now a rest so_far _ c.in_err-below.ensures.fault_is_true);
    }

pub returns-in_default-2 : goal.returns-in_default-2
returns-in_default-2 g c =
    let t = c.args.self.now.decoder.table.now in
    let m = message c.args.self.now.decoder in
    let f = c.args.frame in
    let old = at_of c.args.state.now in
    let now = at_of c.loop-many.state in
    let a = c.loop-many.state.steps - c.args.state.now.steps in
    let begun = c.loop-many.invariant.steps in
    let rest = c.rows_from-rest.result in
    let same = c.rows_from-rest.ensures in
    let so_far = subst (λ (x : Frame). Turns t m f old now a (left_over (Some x))) (sym same) c.loop-many.invariant.turns in
    let new = at_of c.enter_box.new.state in
    let spent = c.enter_box.new.state.steps - c.loop-many.state.steps in
    let all = c.enter_box.new.state.steps - c.args.state.now.steps in
    let rises = (one_more _ _ _ c.in_ok-below.ensures.spends) in
    let two = subst (λ (o : Option Frame). Turns t m rest now new spent (left_over o)) c.in_default-2.is c.in_ok-below.ensures.ok in
    record {
      holds = c.enter_box.ensures.holds;
      ok = turns_then t m f old now a rest so_far new spent all (left_over None) (omega (arith, begun, rises)) two;
      grows = grows_on _ _ _ c.loop-many.invariant.steps (one_more _ _ _ c.in_ok-below.ensures.spends);
      ended = rises_on _ _ _ c.loop-many.invariant.steps (one_more _ _ _ c.in_ok-below.ensures.spends);
      cost = cost_on _ _ _ c.args.state.now.steps c.loop-many.state.steps c.enter_box.new.state.steps c.loop-many.invariant.steps c.loop-many.invariant.turns.less (subst (λ (x : Frame). c.enter_box.new.state.steps ≤ c.loop-many.state.steps + turn_work
          c.args.self.now.decoder.bytes.value.came c.loop-many.state.next x) c.rows_from-rest.ensures c.in_ok-below.ensures.spends.most);
      fault_is_true = tt;
    }

pub pass_known-content-requires-clause-frame : goal.pass_known-content-requires-clause-frame
pass_known-content-requires-clause-frame g c =
    let t = c.args.self.now.decoder.table.now in
    let m = message c.args.self.now.decoder in
    let f = c.args.frame in
    let old = at_of c.args.state.now in
    let begun = c.loop-many.invariant.steps in
    let new = at_of c.enter_box.new.state in
    let rises = one_more _ _ _ c.in_ok-below.ensures.spends in
    let run = entered t m f _ c.rows_from-rest.result c.in-Some-2.below old (at_of c.loop-many.state) new c.args.state.now.steps c.loop-many.state.steps c.enter_box.new.state.steps
    c.loop-many.invariant.turns c.rows_from-rest.ensures begun (omega (arith, rises)) _ c.in-Some-2.is c.in_ok-below.ensures.ok in
    run.rest_fine.0

pub pass_known-content-requires-clause-state : goal.pass_known-content-requires-clause-state
pass_known-content-requires-clause-state g c =
    let t = c.args.self.now.decoder.table.now in
    let m = message c.args.self.now.decoder in
    let f = c.args.frame in
    let old = at_of c.args.state.now in
    let begun = c.loop-many.invariant.steps in
    let new = at_of c.enter_box.new.state in
    let rises = one_more _ _ _ c.in_ok-below.ensures.spends in
    let run = entered t m f _ c.rows_from-rest.result c.in-Some-2.below old (at_of c.loop-many.state) new c.args.state.now.steps c.loop-many.state.steps c.enter_box.new.state.steps
    c.loop-many.invariant.turns c.rows_from-rest.ensures begun (omega (arith, rises)) _ c.in-Some-2.is c.in_ok-below.ensures.ok in
    run.state

pub pass_known-content-requires-clause-budget : goal.pass_known-content-requires-clause-budget
pass_known-content-requires-clause-budget g c =
    let t = c.args.self.now.decoder.table.now in
    let m = message c.args.self.now.decoder in
    let f = c.args.frame in
    let old = at_of c.args.state.now in
    let begun = c.loop-many.invariant.steps in
    let new = at_of c.enter_box.new.state in
    let rises = one_more _ _ _ c.in_ok-below.ensures.spends in
    let run = entered t m f _ c.rows_from-rest.result c.in-Some-2.below old (at_of c.loop-many.state) new c.args.state.now.steps c.loop-many.state.steps c.enter_box.new.state.steps
    c.loop-many.invariant.turns c.rows_from-rest.ensures begun (omega (arith, rises)) _ c.in-Some-2.is c.in_ok-below.ensures.ok in
    let less_run = run.less in
    omega (arith, less_run, begun, rises, c.requires.budget)

pub returns-in_default-left : goal.returns-in_default-left
returns-in_default-left g c =
    let t = c.args.self.now.decoder.table.now in
    let m = message c.args.self.now.decoder in
    let f = c.args.frame in
    let old = at_of c.args.state.now in
    let begun = c.loop-many.invariant.steps in
    let new = at_of c.enter_box.new.state in
    let rises = one_more _ _ _ c.in_ok-below.ensures.spends in
    let run = entered t m f _ c.rows_from-rest.result c.in-Some-2.below old (at_of c.loop-many.state) new c.args.state.now.steps c.loop-many.state.steps c.enter_box.new.state.steps
    c.loop-many.invariant.turns c.rows_from-rest.ensures begun (omega (arith, rises)) _ c.in-Some-2.is c.in_ok-below.ensures.ok in
    let content = c.pass_known-content.result in
    let passed = c.pass_known-content.ensures.grows in
    let on = at_of c.pass_known-content.new.state in
    let whole = c.pass_known-content.new.state.steps - c.args.state.now.steps in
    let all_read = turns_then t m f old new (c.enter_box.new.state.steps - c.args.state.now.steps) c.in-Some-2.below run on
    (c.pass_known-content.new.state.steps - c.enter_box.new.state.steps) whole (left_over (Some content)) (omega (arith, begun, rises, passed)) c.pass_known-content.ensures.turns in
    let less_read = all_read.less in
    record { holds = c.pass_known-content.ensures.holds; ok = all_read; grows = omega (arith, begun, rises, passed); ended = tt; cost = omega (arith, begun, rises, passed, less_read); fault_is_true = tt }

pub loop-many-smaller : goal.loop-many-smaller
loop-many-smaller g c =
    let t = c.args.self.now.decoder.table.now in
    let m = message c.args.self.now.decoder in
    let now = at_of c.loop-many.state in
    let rest = c.rows_from-rest.result in
    let same = c.rows_from-rest.ensures in
    let new = at_of c.enter_box.new.state in
    let spent = c.enter_box.new.state.steps - c.loop-many.state.steps in
    let rises = (one_more _ _ _ c.in_ok-below.ensures.spends) in
    let two = subst (λ (o : Option Frame). Turns t m rest now new spent (left_over o)) c.in-Some-2.is c.in_ok-below.ensures.ok in
    let passed = c.pass_known-content.ensures.grows in
    let three = subst (λ (x : Frame). Turns t m x now new spent (left_over (Some c.in-Some-2.below))) same two in
    let less_three = three.less in
    let less_passed = c.pass_known-content.ensures.turns.less in
    omega (arith, less_three, less_passed, rises, passed)

pub loop-many-preserved : goal.loop-many-preserved
loop-many-preserved g c =
    let t = c.args.self.now.decoder.table.now in
    let m = message c.args.self.now.decoder in
    let f = c.args.frame in
    let old = at_of c.args.state.now in
    let begun = c.loop-many.invariant.steps in
    let new = at_of c.enter_box.new.state in
    let rises = one_more _ _ _ c.in_ok-below.ensures.spends in
    let run = entered t m f _ c.rows_from-rest.result c.in-Some-2.below old (at_of c.loop-many.state) new c.args.state.now.steps c.loop-many.state.steps c.enter_box.new.state.steps
    c.loop-many.invariant.turns c.rows_from-rest.ensures begun (omega (arith, rises)) _ c.in-Some-2.is c.in_ok-below.ensures.ok in
    let content = c.pass_known-content.result in
    let passed = c.pass_known-content.ensures.grows in
    let on = at_of c.pass_known-content.new.state in
    let whole = c.pass_known-content.new.state.steps - c.args.state.now.steps in
    let all_read = turns_then t m f old new (c.enter_box.new.state.steps - c.args.state.now.steps) c.in-Some-2.below run on
    (c.pass_known-content.new.state.steps - c.enter_box.new.state.steps) whole (left_over (Some content)) (omega (arith, begun, rises, passed)) c.pass_known-content.ensures.turns in
    let rows = Rows c.in-Rows-left.front c.in-Rows-left.behind in
    record { holds = c.pass_known-content.ensures.holds; turns = subst (λ (x : Frame). Turns t m f old on whole (left_over (Some x))) (same_frame content rows c.in-Rows-left.is) all_read; steps = omega (arith, begun, rises, passed) }

pub end_rows-requires-clause-frame : goal.end_rows-requires-clause-frame
end_rows-requires-clause-frame g c =
    let t = c.args.self.now.decoder.table.now in
    let m = message c.args.self.now.decoder in
    let f = c.args.frame in
    let old = at_of c.args.state.now in
    let now = at_of c.loop-many.state in
    let a = c.loop-many.state.steps - c.args.state.now.steps in
    let so_far = all_read_of t m f old now a c.loop-many.holder c.rows_from.result c.loop-many.next c.loop-many.many c.loop-many.done (omega (arith, c.loop-many-test.false)) c.rows_from.ensures c.loop-many.invariant.turns in
    so_far.rest_fine.0

pub returns-in_err-end_rows : goal.returns-in_err-end_rows
returns-in_err-end_rows g c =
    let t = c.args.self.now.decoder.table.now in
    let m = message c.args.self.now.decoder in
    let f = c.args.frame in
    let old = at_of c.args.state.now in
    let now = at_of c.loop-many.state in
    let a = c.loop-many.state.steps - c.args.state.now.steps in
    let rest = c.rows_from.result in
    let so_far = all_read_of t m f old now a c.loop-many.holder c.rows_from.result c.loop-many.next c.loop-many.many c.loop-many.done (omega (arith, c.loop-many-test.false)) c.rows_from.ensures c.loop-many.invariant.turns in
    record {
      holds = c.end_rows.ensures.holds;
      ok = no_ok c.from_residual-in_err-end_rows.result c.in_err-end_rows.field-0.0 _ c.from_residual-in_err-end_rows.ensures.1;
      grows = no_ok c.from_residual-in_err-end_rows.result c.in_err-end_rows.field-0.0 _ c.from_residual-in_err-end_rows.ensures.1;
      ended = no_ok c.from_residual-in_err-end_rows.result c.in_err-end_rows.field-0.0 _ c.from_residual-in_err-end_rows.ensures.1;
      cost = cost_on _ _ _ c.args.state.now.steps c.loop-many.state.steps c.end_rows.new.state.steps c.loop-many.invariant.steps c.loop-many.invariant.turns.less (subst (λ (x : Frame). c.end_rows.new.state.steps ≤ c.loop-many.state.steps + turn_work
          c.args.self.now.decoder.bytes.value.came c.loop-many.state.next x) c.rows_from.ensures c.in_err-end_rows.ensures.spends.most);
      fault_is_true = passed_on c.from_residual-in_err-end_rows.result c.in_err-end_rows.field-0.0 _ c.from_residual-in_err-end_rows.ensures.1 (turns_break t m f old now a rest so_far _ c.in_err-end_rows.ensures.fault_is_true);
    }

pub returns : goal.returns
returns g c =
    let t = c.args.self.now.decoder.table.now in
    let m = message c.args.self.now.decoder in
    let f = c.args.frame in
    let old = at_of c.args.state.now in
    let now = at_of c.loop-many.state in
    let a = c.loop-many.state.steps - c.args.state.now.steps in
    let begun = c.loop-many.invariant.steps in
    let rest = c.rows_from.result in
    let so_far = all_read_of t m f old now a c.loop-many.holder c.rows_from.result c.loop-many.next c.loop-many.many c.loop-many.done (omega (arith, c.loop-many-test.false)) c.rows_from.ensures c.loop-many.invariant.turns in
    let new = at_of c.end_rows.new.state in
    let spent = c.end_rows.new.state.steps - c.loop-many.state.steps in
    let all = c.end_rows.new.state.steps - c.args.state.now.steps in
    let rises = (one_more _ _ _ c.in_ok-end_rows.ensures.spends) in
    record {
      holds = c.end_rows.ensures.holds;
      ok = turns_then t m f old now a rest so_far new spent all (left_over None) (omega (arith, begun, rises)) c.in_ok-end_rows.ensures.ok;
      grows = grows_on _ _ _ c.loop-many.invariant.steps (one_more _ _ _ c.in_ok-end_rows.ensures.spends);
      ended = rises_on _ _ _ c.loop-many.invariant.steps (one_more _ _ _ c.in_ok-end_rows.ensures.spends);
      cost = cost_on _ _ _ c.args.state.now.steps c.loop-many.state.steps c.end_rows.new.state.steps c.loop-many.invariant.steps c.loop-many.invariant.turns.less (subst (λ
          (x : Frame). c.end_rows.new.state.steps ≤ c.loop-many.state.steps + turn_work c.args.self.now.decoder.bytes.value.came
          c.loop-many.state.next x) c.rows_from.ensures c.in_ok-end_rows.ensures.spends.most);
      fault_is_true = tt;
    }

pub rows-rows-requires : goal.rows-rows-requires
rows-rows-requires g c = tt

pub rows_from-rest-requires : goal.rows_from-rest-requires
rows_from-rest-requires g c =
    let g = going_on c.loop-many.holder (Rows c.loop-many.next c.loop-many.many) c.loop-many.done in
    let turns = c.loop-many.invariant.turns in
    let read = done_fits c.args.self.now.decoder.table.now c.args.self.now.decoder.fine (message c.args.self.now.decoder) g (at_of c.loop-many.state) turns.rest_fine.0 turns.state in
    record { small = omega (arith, read, turns.rest_fine.0.room, c.args.self.now.decoder.short) }

pub leaf_kind-requires : goal.leaf_kind-requires
leaf_kind-requires g c = record { entry = c.row-row.ensures.entry }

pub rows_from-requires : goal.rows_from-requires
rows_from-requires g c =
    let g = going_on c.loop-many.holder (Rows c.loop-many.next c.loop-many.many) c.loop-many.done in
    let turns = c.loop-many.invariant.turns in
    let read = done_fits c.args.self.now.decoder.table.now c.args.self.now.decoder.fine (message c.args.self.now.decoder) g (at_of c.loop-many.state) turns.rest_fine.0 turns.state in
    record { small = omega (arith, read, turns.rest_fine.0.room, c.args.self.now.decoder.short) }

pub row-row-requires : goal.row-row-requires
row-row-requires g c = first_in c.loop-many.next c.loop-many.many _ c.loop-many.invariant.turns.rest_fine.0.left c.loop-many-test.true

pub entry-e-requires : goal.entry-e-requires
entry-e-requires g c = c.row-row.ensures.entry

pub read_row-requires-clause-left : goal.read_row-requires-clause-left
read_row-requires-clause-left g c = ap (λ (x : Frame). x.left) c.rows_from-rest.ensures

pub read_row-requires-clause-some : goal.read_row-requires-clause-some
read_row-requires-clause-some g c = some_left c.loop-many.many c.loop-many-test.true

pub read_row-requires-clause-kind : goal.read_row-requires-clause-kind
read_row-requires-clause-kind g c = ap (λ (w : raw.Row). kind_of (entry_at c.args.self.now.decoder.table.now w.entry).kind) (sym c.row-row.ensures.value) ∙ c.in-Some.ensures.kind

pub read_row-requires-clause-leaf : goal.read_row-requires-clause-leaf
read_row-requires-clause-leaf g c = ap (λ (w : raw.Row). is_leaf c.args.self.now.decoder.table.now (entry_at c.args.self.now.decoder.table.now w.entry) c.in-Some.kind) (sym c.row-row.ensures.value) ∙ c.in-Some.ensures.leaf

pub read_row-requires-clause-state : goal.read_row-requires-clause-state
read_row-requires-clause-state g c = c.loop-many.invariant.turns.state

pub read_row-requires-clause-budget : goal.read_row-requires-clause-budget
read_row-requires-clause-budget g c = subst (λ (x : Frame). c.loop-many.state.steps + turn_work c.args.self.now.decoder.bytes.value.came c.loop-many.state.next x < 2 ^ 40) (sym c.rows_from-rest.ensures)
    (budget_on _ _ _ c.args.state.now.steps c.loop-many.state.steps (2 ^ 40) c.loop-many.invariant.steps
    c.loop-many.invariant.turns.less c.requires.budget)

pub ends_in_box-requires : goal.ends_in_box-requires
ends_in_box-requires g c = record { within = c.loop-many.invariant.turns.rest_fine.0.left }

pub loop-many-preserved-then-not-ends_in_box : goal.loop-many-preserved-then-not-ends_in_box
loop-many-preserved-then-not-ends_in_box g c =
    let t = c.args.self.now.decoder.table.now in
    let m = message c.args.self.now.decoder in
    let f = c.args.frame in
    let old = at_of c.args.state.now in
    let now = at_of c.loop-many.state in
    let a = c.loop-many.state.steps - c.args.state.now.steps in
    let begun = c.loop-many.invariant.steps in
    let same = c.rows_from-rest.ensures in
    let g = going_on c.loop-many.holder (Rows c.loop-many.next c.loop-many.many) c.loop-many.done in
    let new = at_of c.pass_row.new.state in
    let spent = c.pass_row.new.state.steps - c.loop-many.state.steps in
    let rows = Rows (c.loop-many.next + 1) (c.loop-many.many - 1) in
    let size : (row_at t (header_of t) c.loop-many.next).key + (entry_at t (row_at t (header_of t) c.loop-many.next).entry).size ≡ c.row-row.result.key + c.entry-e.result.size = ap (λ (w : raw.Row). w.key + (entry_at t w.entry).size) (sym c.row-row.ensures.value) ∙ ap (λ (e : Entry).
    c.row-row.result.key + e.size) (sym c.entry-e.ensures.value) in
    let one = subst (λ (x : Frame). Turns t m x now new spent (left_over (Some (going_on x rows ((row_at t (header_of t) c.loop-many.next).key + (entry_at t (row_at t (header_of t) c.loop-many.next).entry).size))))) same (c.pass_row.ensures.passed c.if-not-pass_row.false) in
    let two = subst (λ d. Turns t m g now new spent (left_over (Some (going_on c.loop-many.holder rows d)))) size one in
    let rises = (one_more _ _ _ (c.pass_row.ensures.spends c.if-not-pass_row.false)) in
    let done = c.row-row.result.key + c.entry-e.result.size in
    record {
      holds = c.pass_row.ensures.holds;
      turns = turns_then t m f old now a g c.loop-many.invariant.turns new spent
          (c.pass_row.new.state.steps - c.args.state.now.steps) (left_over (Some (going_on c.loop-many.holder rows done))) (omega (arith, begun, rises))
          two;
      steps = omega (arith, begun, rises);
    }

pub loop-many-smaller-then-not-ends_in_box : goal.loop-many-smaller-then-not-ends_in_box
loop-many-smaller-then-not-ends_in_box g c =
    let t = c.args.self.now.decoder.table.now in
    let m = message c.args.self.now.decoder in
    let now = at_of c.loop-many.state in
    let same = c.rows_from-rest.ensures in
    let g = going_on c.loop-many.holder (Rows c.loop-many.next c.loop-many.many) c.loop-many.done in
    let new = at_of c.pass_row.new.state in
    let spent = c.pass_row.new.state.steps - c.loop-many.state.steps in
    let rows = Rows (c.loop-many.next + 1) (c.loop-many.many - 1) in
    let size : (row_at t (header_of t) c.loop-many.next).key + (entry_at t (row_at t (header_of t) c.loop-many.next).entry).size ≡ c.row-row.result.key + c.entry-e.result.size = ap (λ (w : raw.Row). w.key + (entry_at t w.entry).size) (sym c.row-row.ensures.value) ∙ ap (λ (e : Entry).
    c.row-row.result.key + e.size) (sym c.entry-e.ensures.value) in
    let one = subst (λ (x : Frame). Turns t m x now new spent (left_over (Some (going_on x rows ((row_at t (header_of t) c.loop-many.next).key + (entry_at t (row_at t (header_of t) c.loop-many.next).entry).size))))) same (c.pass_row.ensures.passed c.if-not-pass_row.false) in
    let two = subst (λ d. Turns t m g now new spent (left_over (Some (going_on c.loop-many.holder rows d)))) size one in
    let rises = (one_more _ _ _ (c.pass_row.ensures.spends c.if-not-pass_row.false)) in
    smaller_on _ _ _ c.loop-many.state.steps c.pass_row.new.state.steps two.less rises

pub pass_row-requires-clause-frame : goal.pass_row-requires-clause-frame
pass_row-requires-clause-frame g c =
    let t = c.args.self.now.decoder.table.now in
    let m = message c.args.self.now.decoder in
    let f = c.args.frame in
    let old = at_of c.args.state.now in
    let now = at_of c.loop-many.state in
    let a = c.loop-many.state.steps - c.args.state.now.steps in
    let same = c.rows_from-rest.ensures in
    let so_far = subst (λ (x : Frame). Turns t m f old now a (left_over (Some x))) (sym same) c.loop-many.invariant.turns in
    so_far.rest_fine.0

pub pass_row-requires-clause-ready : goal.pass_row-requires-clause-ready
pass_row-requires-clause-ready g c =
    let t = c.args.self.now.decoder.table.now in
    let m = message c.args.self.now.decoder in
    let f = c.args.frame in
    let old = at_of c.args.state.now in
    let now = at_of c.loop-many.state in
    let a = c.loop-many.state.steps - c.args.state.now.steps in
    let same = c.rows_from-rest.ensures in
    let so_far = subst (λ (x : Frame). Turns t m f old now a (left_over (Some x))) (sym same) c.loop-many.invariant.turns in
    rest_ready t m f old now a c.rows_from-rest.result so_far c.requires.ready

pub returns-then-not-pass_row-clause-ok : goal.returns-then-not-pass_row-clause-ok
returns-then-not-pass_row-clause-ok g c =
    let t = c.args.self.now.decoder.table.now in
    let m = message c.args.self.now.decoder in
    let f = c.args.frame in
    let old = at_of c.args.state.now in
    let now = at_of c.loop-many.state in
    let a = c.loop-many.state.steps - c.args.state.now.steps in
    let same = c.rows_from-rest.ensures in
    let so_far = subst (λ (x : Frame). Turns t m f old now a (left_over (Some x))) (sym same) c.loop-many.invariant.turns in
    let rest = c.rows_from-rest.result in
    let kept = c.pass_row.ensures.kept c.if-not-pass_row.true in
    let uncounted = c.pass_row.ensures.uncounted c.if-not-pass_row.true in
    subst (λ (s : Position). Turns t m f old s (c.pass_row.new.state.steps - c.args.state.now.steps) (left_over (Some rest))) (sym kept)
    (subst (λ n. Turns t m f old now (n - c.args.state.now.steps) (left_over (Some rest))) (sym uncounted) so_far)

pub returns-then-not-pass_row-clause-grows : goal.returns-then-not-pass_row-clause-grows
returns-then-not-pass_row-clause-grows g c = omega (arith, c.loop-many.invariant.steps, c.pass_row.ensures.uncounted c.if-not-pass_row.true)

pub returns-then-not-pass_row-clause-cost : goal.returns-then-not-pass_row-clause-cost
returns-then-not-pass_row-clause-cost g c =
    let less : c.loop-many.state.steps ≤ c.args.state.now.steps + turn_work c.args.self.now.decoder.bytes.value.came c.args.state.now.next c.args.frame
    = cost_now _ _ _ c.args.state.now.steps c.loop-many.state.steps c.loop-many.invariant.steps c.loop-many.invariant.turns.less in
    omega (arith, less, c.pass_row.ensures.uncounted c.if-not-pass_row.true)

pub enter_box-requires-clause-state : goal.enter_box-requires-clause-state
enter_box-requires-clause-state g c = c.loop-many.invariant.turns.state

pub enter_box-requires-clause-budget : goal.enter_box-requires-clause-budget
enter_box-requires-clause-budget g c = subst (λ (x : Frame). c.loop-many.state.steps + turn_work c.args.self.now.decoder.bytes.value.came c.loop-many.state.next x < 2 ^ 40) (sym c.rows_from-rest.ensures)
    (budget_on _ _ _ c.args.state.now.steps c.loop-many.state.steps (2 ^ 40) c.loop-many.invariant.steps
    c.loop-many.invariant.turns.less c.requires.budget)

pub pass_known-content-requires-clause-known : goal.pass_known-content-requires-clause-known
pass_known-content-requires-clause-known g c = c.requires.known

pub end_rows-requires-clause-plain : goal.end_rows-requires-clause-plain
end_rows-requires-clause-plain g c = subst (λ (x : Frame). IsPlain x.left) (sym c.rows_from.ensures) tt

pub end_rows-requires-clause-over : goal.end_rows-requires-clause-over
end_rows-requires-clause-over g c = subst (λ (x : Frame). rows_left c.args.self.now.decoder.table.now x.done x.left ≡ []) (sym c.rows_from.ensures) refl

pub end_rows-requires-clause-state : goal.end_rows-requires-clause-state
end_rows-requires-clause-state g c = c.loop-many.invariant.turns.state

pub end_rows-requires-clause-budget : goal.end_rows-requires-clause-budget
end_rows-requires-clause-budget g c = subst (λ (x : Frame). c.loop-many.state.steps + turn_work c.args.self.now.decoder.bytes.value.came c.loop-many.state.next x < 2 ^ 40) (sym c.rows_from.ensures) (budget_on _ _ _ c.args.state.now.steps c.loop-many.state.steps (2 ^ 40) c.loop-many.invariant.steps
    c.loop-many.invariant.turns.less c.requires.budget)

pub overflow_sub-many : goal.overflow_sub-many
overflow_sub-many g c = some_left c.loop-many.many c.loop-many-test.true

pub overflow_add-next : goal.overflow_add-next
overflow_add-next g c = record { fits = next_fits c.loop-many.next c.loop-many.many _ c.rows-rows.result _ c.loop-many.invariant.turns.rest_fine.0.left c.rows-rows.ensures.value c.rows-rows.type_inv c.loop-many-test.true }

pub loop-many-smaller-in-Some : goal.loop-many-smaller-in-Some
loop-many-smaller-in-Some g c =
    let t = c.args.self.now.decoder.table.now in
    let m = message c.args.self.now.decoder in
    let now = at_of c.loop-many.state in
    let same = c.rows_from-rest.ensures in
    let g = going_on c.loop-many.holder (Rows c.loop-many.next c.loop-many.many) c.loop-many.done in
    let new = at_of c.read_row.new.state in
    let spent = c.read_row.new.state.steps - c.loop-many.state.steps in
    let rows = Rows (c.loop-many.next + 1) (c.loop-many.many - 1) in
    let size : (row_at t (header_of t) c.loop-many.next).key + (entry_at t (row_at t (header_of t) c.loop-many.next).entry).size ≡ c.row-row.result.key + c.entry-e.result.size = ap (λ (w : raw.Row). w.key + (entry_at t w.entry).size) (sym c.row-row.ensures.value) ∙ ap (λ (e : Entry).
    c.row-row.result.key + e.size) (sym c.entry-e.ensures.value) in
    let one = subst (λ (x : Frame). Turns t m x now new spent (left_over (Some (going_on x rows ((row_at t (header_of t) c.loop-many.next).key + (entry_at t (row_at t (header_of t) c.loop-many.next).entry).size))))) same c.in_ok-read_row.ensures.ok in
    let two = subst (λ d. Turns t m g now new spent (left_over (Some (going_on c.loop-many.holder rows d)))) size one in
    let rises = (one_more _ _ _ c.in_ok-read_row.ensures.spends) in
    smaller_on _ _ _ c.loop-many.state.steps c.read_row.new.state.steps two.less rises

pub returns-in_default : goal.returns-in_default
returns-in_default g c = record {
  holds = c.requires.holds;
  ok = turns_stay c.args.self.now.decoder.table.now (message c.args.self.now.decoder) c.args.frame (at_of c.args.state.now) c.requires.frame c.requires.state _
      (omega arith);
  grows = omega arith;
  ended = tt;
  cost = omega arith;
  fault_is_true = tt;
}

pub loop-many-init : goal.loop-many-init
loop-many-init g c = record {
  holds = c.requires.holds;
  turns = subst (λ (g : Frame). Turns c.args.self.now.decoder.table.now (message c.args.self.now.decoder) c.args.frame (at_of c.args.state.now)
      (at_of c.args.state.now) (c.args.state.now.steps - c.args.state.now.steps) (left_over (Some g)))
      (same_frame c.args.frame (Rows c.in-Rows.first c.in-Rows.count) c.in-Rows.is)
      (turns_stay c.args.self.now.decoder.table.now (message c.args.self.now.decoder) c.args.frame (at_of c.args.state.now) c.requires.frame c.requires.state _
      (omega arith));
  steps = omega arith;
}

pub read_row-requires-clause-ready : goal.read_row-requires-clause-ready
read_row-requires-clause-ready g c =
    let t = c.args.self.now.decoder.table.now in
    let m = message c.args.self.now.decoder in
    let f = c.args.frame in
    let old = at_of c.args.state.now in
    let now = at_of c.loop-many.state in
    let a = c.loop-many.state.steps - c.args.state.now.steps in
    let rest = c.rows_from-rest.result in
    let same = c.rows_from-rest.ensures in
    let so_far = subst (λ (x : Frame). Turns t m f old now a (left_over (Some x))) (sym same) c.loop-many.invariant.turns in
    rest_ready t m f old now a rest so_far c.requires.ready

pub enter_box-requires-clause-ready : goal.enter_box-requires-clause-ready
enter_box-requires-clause-ready g c =
    let t = c.args.self.now.decoder.table.now in
    let m = message c.args.self.now.decoder in
    let f = c.args.frame in
    let old = at_of c.args.state.now in
    let now = at_of c.loop-many.state in
    let a = c.loop-many.state.steps - c.args.state.now.steps in
    let rest = c.rows_from-rest.result in
    let same = c.rows_from-rest.ensures in
    let so_far = subst (λ (x : Frame). Turns t m f old now a (left_over (Some x))) (sym same) c.loop-many.invariant.turns in
    rest_ready t m f old now a rest so_far c.requires.ready

pub end_rows-requires-clause-ready : goal.end_rows-requires-clause-ready
end_rows-requires-clause-ready g c =
    let t = c.args.self.now.decoder.table.now in
    let m = message c.args.self.now.decoder in
    let f = c.args.frame in
    let old = at_of c.args.state.now in
    let now = at_of c.loop-many.state in
    let a = c.loop-many.state.steps - c.args.state.now.steps in
    let rest = c.rows_from.result in
    let so_far = all_read_of t m f old now a c.loop-many.holder c.rows_from.result c.loop-many.next c.loop-many.many c.loop-many.done (omega (arith, c.loop-many-test.false)) c.rows_from.ensures c.loop-many.invariant.turns in
    rest_ready t m f old now a rest so_far c.requires.ready

pub pass_known-content-requires-clause-ready : goal.pass_known-content-requires-clause-ready
pass_known-content-requires-clause-ready g c =
    let t = c.args.self.now.decoder.table.now in
    let m = message c.args.self.now.decoder in
    let f = c.args.frame in
    let old = at_of c.args.state.now in
    let begun = c.loop-many.invariant.steps in
    let new = at_of c.enter_box.new.state in
    let rises = one_more _ _ _ c.in_ok-below.ensures.spends in
    let run = entered t m f _ c.rows_from-rest.result c.in-Some-2.below old (at_of c.loop-many.state) new c.args.state.now.steps c.loop-many.state.steps c.enter_box.new.state.steps
    c.loop-many.invariant.turns c.rows_from-rest.ensures begun (omega (arith, rises)) _ c.in-Some-2.is c.in_ok-below.ensures.ok in
    rest_ready t m f old new (c.enter_box.new.state.steps - c.args.state.now.steps) c.in-Some-2.below run c.requires.ready
