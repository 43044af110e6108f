use Rattle.fidl_decode_values.specs.Reading.{message}
use Rattle.fidl_decode_values.proofs.Fitting.{budget_on, cost_on, rises_on, first_in, some_left, next_fits, spends_some, one_more}
use Rattle.fidl_decode_values.proofs.Unchanged.{no_ok}
use Rattle.std.proofs.Common.{◌≡◌, ◌+◌, ◌-◌, sym, ap, subst, ◌∙◌, arith, ◌≤◌, ◌<◌, ◌^◌}
use Rattle.std.specs.Prelude.{Some, None}
use Rattle.std.proofs.lemmas.Result.{IfErr-weaker}
use Rattle.fidl_table_format.specs.declared.record.Row as raw
use Rattle.fidl_table_format.specs.declared.record.Entry.{Entry}
use Rattle.fidl_table_format.specs.declared.kind.EntryKind.{EntryKind}
use Rattle.fidl_table_format.specs.Kind.{kind_of}
use Rattle.fidl_table_format.specs.Section.{header_of, entry_at, row_at}
use Rattle.fidl_decode_model.specs.Invariants.{is_leaf}
use Rattle.fidl_decode_model.specs.declared.frame.Frame.{Frame}
use Rattle.fidl_decode_model.specs.declared.frame.Remaining.TheVariants.{Rows}
use Rattle.fidl_decode_model.specs.Machine.{Turns, at_of, turn_work, IsPlain}
use Rattle.fidl_decode_model.proofs.Turning.{on_ok_from, passed_on, done_fits}
use Rattle.fidl_decode_model.proofs.Visiting.{same_some}
use Rattle.fidl_decode_columns.proofs.Leaves.{going_on, same_frame, left_over, turns_start, turns_then, turns_break}
use Rattle.fidl_decode_values.proofs.ReadyRows.{rest_ready}
use Rattle.fidl_decode.proofs.frames.Frames.read_fields.Goals as goal

no_some : {A : Type 0} (a : A) → Some a ≡ None → ⊥
no_some a e = cc

pub loop-many-init : goal.loop-many-init
loop-many-init c =
    let t = c.args.self.now.decoder.table.now in
    let m = message c.args.self.now.decoder in
    let f = c.args.frame in
    let old = at_of c.args.state.now in
    let none : 0 ≡ c.args.state.now.steps - c.args.state.now.steps = omega arith in
    record {
      holds = c.requires.holds;
      turns = subst (λ n. Turns t m f old old n (left_over (Some (going_on f (Rows c.args.first c.args.count) f.done)))) none (turns_start t m f old c.requires.frame c.requires.state (going_on f (Rows c.args.first c.args.count) f.done) (same_frame f (Rows c.args.first c.args.count)
          c.requires.left));
      leaves = c.requires.leaves;
      steps = omega arith;
    }

pub unreachable-requires : goal.unreachable-requires
unreachable-requires c =
    let f = c.args.self.now.decoder.fine.each c.row-row.result.entry c.row-row.ensures.entry in
    let none : kind_of (entry_at c.args.self.now.decoder.table.now c.row-row.result.entry).kind ≡ None = ap (λ (e : Entry). kind_of e.kind) (sym c.entry-e.ensures.value) ∙ sym c.from_number.ensures ∙ c.in_default.is in
    no_some f.0 (sym f.1.is ∙ none)

pub read_flat_row-requires-clause-frame : goal.read_flat_row-requires-clause-frame
read_flat_row-requires-clause-frame c =
    let t = c.args.self.now.decoder.table.now in
    let m = message c.args.self.now.decoder in
    let f = c.args.frame in
    let old = at_of c.args.state.now in
    let now = at_of c.loop-many.state in
    let a = c.loop-many.state.steps - c.args.state.now.steps in
    let same = c.rows_from-rest.ensures in
    let so_far = subst (λ (x : Frame). Turns t m f old now a (left_over (Some x))) (sym same) c.loop-many.invariant.turns in
    so_far.rest_fine.0

pub read_flat_row-requires-clause-leaf : goal.read_flat_row-requires-clause-leaf
read_flat_row-requires-clause-leaf c =
    let t = c.args.self.now.decoder.table.now in
    let leaf = c.loop-many.invariant.leaves c.loop-many.next (omega arith) (omega (arith, c.loop-many-test.true)) in
    let is : kind_of (entry_at t (row_at t (header_of t) c.loop-many.next).entry).kind ≡ Some c.in-Some.kind = ap (λ (w : raw.Row). kind_of (entry_at t w.entry).kind) (sym c.row-row.ensures.value) ∙ ap (λ (e : Entry). kind_of e.kind) (sym c.entry-e.ensures.value) ∙ sym
    c.from_number.ensures ∙ c.in-Some.is in
    ap (λ (k : EntryKind). is_leaf t (entry_at t (row_at t (header_of t) c.loop-many.next).entry) k) (same_some c.in-Some.kind leaf.0 (sym is ∙ leaf.1)) ∙ leaf.2

pub returns-in_err-read_flat_row-clause-fault_is_true : goal.returns-in_err-read_flat_row-clause-fault_is_true
returns-in_err-read_flat_row-clause-fault_is_true c =
    let t = c.args.self.now.decoder.table.now in
    let m = message c.args.self.now.decoder in
    let f = c.args.frame in
    let old = at_of c.args.state.now in
    let now = at_of c.loop-many.state in
    let a = c.loop-many.state.steps - c.args.state.now.steps in
    let rest = c.rows_from-rest.result in
    let same = c.rows_from-rest.ensures in
    let so_far = subst (λ (x : Frame). Turns t m f old now a (left_over (Some x))) (sym same) c.loop-many.invariant.turns in
    passed_on c.from_residual.result c.in_err-read_flat_row.field-0.0 _ c.from_residual.ensures.1 (turns_break t m f old now a rest so_far _ c.in_err-read_flat_row.ensures.fault_is_true)

pub loop-many-preserved : goal.loop-many-preserved
loop-many-preserved c =
    let t = c.args.self.now.decoder.table.now in
    let m = message c.args.self.now.decoder in
    let f = c.args.frame in
    let old = at_of c.args.state.now in
    let now = at_of c.loop-many.state in
    let a = c.loop-many.state.steps - c.args.state.now.steps in
    let begun = c.loop-many.invariant.steps in
    let same = c.rows_from-rest.ensures in
    let g = going_on c.args.frame (Rows c.loop-many.next c.loop-many.many) c.loop-many.done in
    let new = at_of c.read_flat_row.new.state in
    let spent = c.read_flat_row.new.state.steps - c.loop-many.state.steps in
    let rows = Rows (c.loop-many.next + 1) (c.loop-many.many - 1) in
    let size : (row_at t (header_of t) c.loop-many.next).key + (entry_at t (row_at t (header_of t) c.loop-many.next).entry).size ≡ c.row-row.result.key + c.entry-e.result.size = ap (λ (w : raw.Row). w.key + (entry_at t w.entry).size) (sym c.row-row.ensures.value) ∙ ap (λ (e : Entry).
    c.row-row.result.key + e.size) (sym c.entry-e.ensures.value) in
    let one = subst (λ (x : Frame). Turns t m x now new spent (left_over (Some (going_on x rows ((row_at t (header_of t) c.loop-many.next).key + (entry_at t (row_at t (header_of t) c.loop-many.next).entry).size))))) same c.in_ok-read_flat_row.ensures.ok in
    let two = subst (λ d. Turns t m g now new spent (left_over (Some (going_on c.args.frame rows d)))) size one in
    let rises = (one_more _ _ _ c.in_ok-read_flat_row.ensures.spends) in
    let done = c.row-row.result.key + c.entry-e.result.size in
    record {
      holds = c.read_flat_row.ensures.holds;
      turns = turns_then t m f old now a g c.loop-many.invariant.turns new spent (c.read_flat_row.new.state.steps - c.args.state.now.steps) (left_over (Some (going_on c.args.frame rows done))) (omega (arith, begun, rises)) two;
      leaves = λ i from below. c.loop-many.invariant.leaves i (omega (arith, from)) (omega (arith, below, c.loop-many-test.true));
      steps = omega (arith, begun, rises);
    }

pub end_rows-requires-clause-frame : goal.end_rows-requires-clause-frame
end_rows-requires-clause-frame c =
    let t = c.args.self.now.decoder.table.now in
    let m = message c.args.self.now.decoder in
    let f = c.args.frame in
    let old = at_of c.args.state.now in
    let now = at_of c.loop-many.state in
    let a = c.loop-many.state.steps - c.args.state.now.steps in
    let same = c.rows_from.ensures in
    let none : c.loop-many.many ≡ 0 = omega (arith, c.loop-many-test.false) in
    let over = subst (λ n. Turns t m f old now a (left_over (Some (going_on c.args.frame (Rows c.loop-many.next n) c.loop-many.done)))) none c.loop-many.invariant.turns in
    let so_far = subst (λ (x : Frame). Turns t m f old now a (left_over (Some x))) (sym same) over in
    so_far.rest_fine.0

pub returns-clause-ok : goal.returns-clause-ok
returns-clause-ok c =
    let t = c.args.self.now.decoder.table.now in
    let m = message c.args.self.now.decoder in
    let f = c.args.frame in
    let old = at_of c.args.state.now in
    let now = at_of c.loop-many.state in
    let a = c.loop-many.state.steps - c.args.state.now.steps in
    let begun = c.loop-many.invariant.steps in
    let rest = c.rows_from.result in
    let same = c.rows_from.ensures in
    let none : c.loop-many.many ≡ 0 = omega (arith, c.loop-many-test.false) in
    let over = subst (λ n. Turns t m f old now a (left_over (Some (going_on c.args.frame (Rows c.loop-many.next n) c.loop-many.done)))) none c.loop-many.invariant.turns in
    let so_far = subst (λ (x : Frame). Turns t m f old now a (left_over (Some x))) (sym same) over in
    let new = at_of c.end_rows.new.state in
    let spent = c.end_rows.new.state.steps - c.loop-many.state.steps in
    let all = c.end_rows.new.state.steps - c.args.state.now.steps in
    let rises = (one_more _ _ _ c.end_rows.ensures.spends) in
    on_ok_from c.end_rows.result (λ two. turns_then t m f old now a rest so_far new spent all (left_over None) (omega (arith, begun, rises)) two) c.end_rows.ensures.ok

pub returns-clause-fault_is_true : goal.returns-clause-fault_is_true
returns-clause-fault_is_true c =
    let t = c.args.self.now.decoder.table.now in
    let m = message c.args.self.now.decoder in
    let f = c.args.frame in
    let old = at_of c.args.state.now in
    let now = at_of c.loop-many.state in
    let a = c.loop-many.state.steps - c.args.state.now.steps in
    let rest = c.rows_from.result in
    let same = c.rows_from.ensures in
    let none : c.loop-many.many ≡ 0 = omega (arith, c.loop-many-test.false) in
    let over = subst (λ n. Turns t m f old now a (left_over (Some (going_on c.args.frame (Rows c.loop-many.next n) c.loop-many.done)))) none c.loop-many.invariant.turns in
    let so_far = subst (λ (x : Frame). Turns t m f old now a (left_over (Some x))) (sym same) over in
    IfErr-weaker c.end_rows.result _ _ (λ fault b. turns_break t m f old now a rest so_far fault b) c.end_rows.ensures.fault_is_true

pub returns-in_err-read_flat_row-clause-ok : goal.returns-in_err-read_flat_row-clause-ok
returns-in_err-read_flat_row-clause-ok c = no_ok c.from_residual.result c.in_err-read_flat_row.field-0.0 _ c.from_residual.ensures.1

pub rows-rows-requires : goal.rows-rows-requires
rows-rows-requires c = tt

pub rows_from-rest-requires : goal.rows_from-rest-requires
rows_from-rest-requires c =
    let g = going_on c.args.frame (Rows c.loop-many.next c.loop-many.many) c.loop-many.done in
    let turns = c.loop-many.invariant.turns in
    let read = done_fits c.args.self.now.decoder.table.now c.args.self.now.decoder.fine (message c.args.self.now.decoder) g (at_of c.loop-many.state) turns.rest_fine.0 turns.state in
    record { small = omega (arith, read, c.requires.frame.room, c.args.self.now.decoder.short) }

pub rows_from-requires : goal.rows_from-requires
rows_from-requires c =
    let g = going_on c.args.frame (Rows c.loop-many.next c.loop-many.many) c.loop-many.done in
    let turns = c.loop-many.invariant.turns in
    let read = done_fits c.args.self.now.decoder.table.now c.args.self.now.decoder.fine (message c.args.self.now.decoder) g (at_of c.loop-many.state) turns.rest_fine.0 turns.state in
    record { small = omega (arith, read, c.requires.frame.room, c.args.self.now.decoder.short) }

pub row-row-requires : goal.row-row-requires
row-row-requires c = first_in c.loop-many.next c.loop-many.many _ c.loop-many.invariant.turns.rest_fine.0.left c.loop-many-test.true

pub entry-e-requires : goal.entry-e-requires
entry-e-requires c = c.row-row.ensures.entry

pub read_flat_row-requires-clause-left : goal.read_flat_row-requires-clause-left
read_flat_row-requires-clause-left c = ap (λ (x : Frame). x.left) c.rows_from-rest.ensures

pub read_flat_row-requires-clause-some : goal.read_flat_row-requires-clause-some
read_flat_row-requires-clause-some c = some_left c.loop-many.many c.loop-many-test.true

pub read_flat_row-requires-clause-kind : goal.read_flat_row-requires-clause-kind
read_flat_row-requires-clause-kind c = ap (λ (w : raw.Row). kind_of (entry_at c.args.self.now.decoder.table.now w.entry).kind) (sym c.row-row.ensures.value) ∙ ap (λ (e : Entry). kind_of e.kind) (sym c.entry-e.ensures.value) ∙ sym c.from_number.ensures ∙ c.in-Some.is

pub read_flat_row-requires-clause-state : goal.read_flat_row-requires-clause-state
read_flat_row-requires-clause-state c = c.loop-many.invariant.turns.state

pub read_flat_row-requires-clause-budget : goal.read_flat_row-requires-clause-budget
read_flat_row-requires-clause-budget c = subst (λ (x : Frame). c.loop-many.state.steps + turn_work c.args.self.now.decoder.bytes.value.came c.loop-many.state.next x < 2 ^ 40) (sym c.rows_from-rest.ensures)
    (budget_on _ _ _ c.args.state.now.steps c.loop-many.state.steps (2 ^ 40) c.loop-many.invariant.steps
    c.loop-many.invariant.turns.less c.requires.budget)

pub returns-in_err-read_flat_row-clause-spends : goal.returns-in_err-read_flat_row-clause-spends
returns-in_err-read_flat_row-clause-spends c = spends_some _ _ _ (rises_on _ _ _ c.loop-many.invariant.steps (one_more _ _ _ c.in_err-read_flat_row.ensures.spends)) (cost_on _ _ _ c.args.state.now.steps c.loop-many.state.steps c.read_flat_row.new.state.steps c.loop-many.invariant.steps
    c.loop-many.invariant.turns.less (subst (λ (x : Frame). c.read_flat_row.new.state.steps ≤ c.loop-many.state.steps + turn_work c.args.self.now.decoder.bytes.value.came c.loop-many.state.next x) c.rows_from-rest.ensures c.in_err-read_flat_row.ensures.spends.most))

pub overflow_sub-many : goal.overflow_sub-many
overflow_sub-many c = some_left c.loop-many.many c.loop-many-test.true

pub overflow_add-next : goal.overflow_add-next
overflow_add-next c = record { fits = next_fits c.loop-many.next c.loop-many.many _ c.rows-rows.result _ c.loop-many.invariant.turns.rest_fine.0.left c.rows-rows.ensures.value c.rows-rows.type_inv c.loop-many-test.true }

pub end_rows-requires-clause-plain : goal.end_rows-requires-clause-plain
end_rows-requires-clause-plain c = subst (λ (x : Frame). IsPlain x.left) (sym c.rows_from.ensures) tt

pub end_rows-requires-clause-state : goal.end_rows-requires-clause-state
end_rows-requires-clause-state c = c.loop-many.invariant.turns.state

pub returns-clause-spends : goal.returns-clause-spends
returns-clause-spends c = spends_some _ _ _ (rises_on _ _ _ c.loop-many.invariant.steps (one_more _ _ _ c.end_rows.ensures.spends)) (cost_on _ _ _ c.args.state.now.steps c.loop-many.state.steps c.end_rows.new.state.steps c.loop-many.invariant.steps c.loop-many.invariant.turns.less (subst
    (λ (x : Frame). c.end_rows.new.state.steps ≤ c.loop-many.state.steps + turn_work c.args.self.now.decoder.bytes.value.came c.loop-many.state.next x) c.rows_from.ensures c.end_rows.ensures.spends.most))

pub end_rows-requires-clause-budget : goal.end_rows-requires-clause-budget
end_rows-requires-clause-budget c = subst (λ (x : Frame). c.loop-many.state.steps + turn_work c.args.self.now.decoder.bytes.value.came c.loop-many.state.next x < 2 ^ 40) (sym c.rows_from.ensures) (budget_on _ _ _ c.args.state.now.steps c.loop-many.state.steps (2 ^ 40) c.loop-many.invariant.steps
    c.loop-many.invariant.turns.less c.requires.budget)

pub read_flat_row-requires-clause-ready : goal.read_flat_row-requires-clause-ready
read_flat_row-requires-clause-ready c =
    let t = c.args.self.now.decoder.table.now in
    let m = message c.args.self.now.decoder in
    let f = c.args.frame in
    let old = at_of c.args.state.now in
    let now = at_of c.loop-many.state in
    let a = c.loop-many.state.steps - c.args.state.now.steps in
    let rest = c.rows_from-rest.result in
    let same = c.rows_from-rest.ensures in
    let so_far = subst (λ (x : Frame). Turns t m f old now a (left_over (Some x))) (sym same) c.loop-many.invariant.turns in
    rest_ready t m f old now a rest so_far c.requires.ready

pub end_rows-requires-clause-ready : goal.end_rows-requires-clause-ready
end_rows-requires-clause-ready c =
    let t = c.args.self.now.decoder.table.now in
    let m = message c.args.self.now.decoder in
    let f = c.args.frame in
    let old = at_of c.args.state.now in
    let now = at_of c.loop-many.state in
    let a = c.loop-many.state.steps - c.args.state.now.steps in
    let rest = c.rows_from.result in
    let same = c.rows_from.ensures in
    let none : c.loop-many.many ≡ 0 = omega (arith, c.loop-many-test.false) in
    let over = subst (λ n. Turns t m f old now a (left_over (Some (going_on c.args.frame (Rows c.loop-many.next n) c.loop-many.done)))) none c.loop-many.invariant.turns in
    let so_far = subst (λ (x : Frame). Turns t m f old now a (left_over (Some x))) (sym same) over in
    rest_ready t m f old now a rest so_far c.requires.ready
