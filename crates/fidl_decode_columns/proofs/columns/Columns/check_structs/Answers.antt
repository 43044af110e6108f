use Rattle.std.proofs.Common.{◌≡◌, ℕ, ◌+◌, ◌-◌, ◌*◌, ◌<◌, ◌≤◌, List, refl, sym, subst, arith}
use Rattle.std.specs.Prelude.{Option, Some, None, IfNone}
use Rattle.fidl_table_format.specs.declared.kind.EntryKind.TheVariants.{Struct}
use Rattle.fidl_table_format.specs.declared.record.Entry.{Entry}
use Rattle.fidl_table_format.specs.Section.{header_of, entry_at}
use Rattle.fidl_decode_model.specs.Faults.{message_of}
use Rattle.fidl_decode_model.specs.State.{Message}
use Rattle.fidl_decode_model.proofs.Visiting.{fine_as}
use Rattle.fidl_decode_model.proofs.Turning.{passed_on}
use Rattle.fidl_decode_columns.specs.declared.column.Wrong.{Wrong}
use Rattle.fidl_decode_columns.specs.declared.structs.Structs.{Structs}
use Rattle.fidl_decode_columns.specs.Columns.{StructsFine, IsRead, IsBroken, IsFirstWrong}
use Rattle.fidl_decode_columns.proofs.Raw.{Agrees, zeros_came, padding_came}
use Rattle.fidl_decode_columns.proofs.Together.{structs_of, fine_structs, together, structs_fit, within_work, all_read, end_breaks, one_breaks}
use Rattle.fidl_decode_columns.proofs.columns.Columns.check_structs.Goals as goal

pub check_rows-requires-clause-free : goal.check_rows-requires-clause-free
check_rows-requires-clause-free c =
    let fits = together c.args.self.now.table.now c.args.self.now.fine (message_of c.args.self.now.links.now.came c.args.self.now.handles.now) c.args.frame c.requires.frame c.args.entry c.args.size c.args.count
    c.requires.left c.requires.entry c.requires.kind in
    let own : c.args.frame.base + c.args.frame.done + c.entry-e.result.size * c.args.count ≤ c.args.frame.base + c.args.frame.size =
    subst (λ (d : Entry). c.args.frame.base + c.args.frame.done + d.size * c.args.count ≤ c.args.frame.base + c.args.frame.size) (sym c.entry-e.ensures.value) fits in
    λ k from to. c.requires.free k from (omega (arith, to, own))

pub are_numbers-requires : goal.are_numbers-requires
are_numbers-requires c =
    let t = c.args.self.now.table.now in
    record { within = subst (λ (d : Entry). d.first + d.count ≤ (header_of t).rows) (sym c.entry-e.ensures.value) (fine_as t c.args.self.now.fine c.args.entry Struct c.requires.entry c.requires.kind).content.0 }

pub check_rows-requires-clause-structs : goal.check_rows-requires-clause-structs
check_rows-requires-clause-structs c =
    let t = c.args.self.now.table.now in
    let m = message_of c.args.self.now.links.now.came c.args.self.now.handles.now in
    let own = fine_structs t c.args.self.now.fine m c.args.frame c.requires.frame c.args.entry c.args.size c.args.count c.requires.left c.requires.entry c.requires.kind c.requires.some in
    subst (λ (d : Entry). StructsFine t c.args.self.now.links.now.came (structs_of c.args.frame c.args.count d)) (sym c.entry-e.ensures.value) own

pub check_rows-requires-clause-rows : goal.check_rows-requires-clause-rows
check_rows-requires-clause-rows c =
    let t = c.args.self.now.table.now in
    subst (λ (d : Entry). d.first + d.count ≤ (header_of t).rows) (sym c.entry-e.ensures.value) (fine_as t c.args.self.now.fine c.args.entry Struct c.requires.entry c.requires.kind).content.0

pub overflow_add-structs : goal.overflow_add-structs
overflow_add-structs c =
    let fits = structs_fit c.args.self.now.table.now c.args.self.now.fine (message_of c.args.self.now.links.now.came c.args.self.now.handles.now) c.args.frame c.requires.frame c.args.entry c.args.size c.args.count
    c.requires.left c.requires.entry c.requires.kind in
    let room = c.requires.frame.room in
    record { fits = omega (arith, fits, room, c.args.self.now.short) }

pub returns-in-Some-clause-cost : goal.returns-in-Some-clause-cost
returns-in-Some-clause-cost c =
    let paid = within_work c.args.self.now.table.now c.args.self.now.fine (message_of c.args.self.now.links.now.came c.args.self.now.handles.now) c.args.frame c.requires.frame c.args.entry c.args.size c.args.count
    c.requires.left c.requires.entry c.requires.kind c.check_rows.new.steps c.args.steps.now (subst (λ (d : Entry). c.check_rows.new.steps ≤ c.args.steps.now + 17 * (c.args.count * d.size)) c.entry-e.ensures.value c.check_rows.ensures.cost) in
    omega (arith, paid)

pub returns-in-Some-clause-fault_is_true : goal.returns-in-Some-clause-fault_is_true
returns-in-Some-clause-fault_is_true c =
    let t = c.args.self.now.table.now in
    let m = message_of c.args.self.now.links.now.came c.args.self.now.handles.now in
    let found = subst (λ (o : Option Wrong). IsFirstWrong (IsRead t m (structs_of c.args.frame c.args.count c.entry-e.result)) (IsBroken t m
    (structs_of c.args.frame c.args.count c.entry-e.result)) c.args.count o) c.in-Some.is c.check_rows.ensures.value in
    let own = subst (λ (d : Entry). IsFirstWrong (IsRead t m (structs_of c.args.frame c.args.count d)) (IsBroken t m (structs_of c.args.frame c.args.count d)) c.args.count (Some c.in-Some.wrong)) c.entry-e.ensures.value found in
    λ at state. one_breaks c.args.self.now.table.now c.args.self.now.fine (message_of c.args.self.now.links.now.came c.args.self.now.handles.now) c.args.frame c.requires.frame c.args.entry c.args.size c.args.count
    c.requires.left c.requires.entry c.requires.kind at state c.in-Some.wrong.element own.0 own.1 c.in-Some.wrong.fault own.2

pub overflow_mul-behind : goal.overflow_mul-behind
overflow_mul-behind c =
    let fits = structs_fit c.args.self.now.table.now c.args.self.now.fine (message_of c.args.self.now.links.now.came c.args.self.now.handles.now) c.args.frame c.requires.frame c.args.entry c.args.size c.args.count
    c.requires.left c.requires.entry c.requires.kind in
    let room = c.requires.frame.room in
    record { fits = omega (arith, fits, room, c.args.self.now.short) }

pub overflow_add-behind : goal.overflow_add-behind
overflow_add-behind c =
    let fits = structs_fit c.args.self.now.table.now c.args.self.now.fine (message_of c.args.self.now.links.now.came c.args.self.now.handles.now) c.args.frame c.requires.frame c.args.entry c.args.size c.args.count
    c.requires.left c.requires.entry c.requires.kind in
    let room = c.requires.frame.room in
    record { fits = omega (arith, fits, room, c.args.self.now.short) }

pub overflow_sub-steps : goal.overflow_sub-steps
overflow_sub-steps c =
    let fits = structs_fit c.args.self.now.table.now c.args.self.now.fine (message_of c.args.self.now.links.now.came c.args.self.now.handles.now) c.args.frame c.requires.frame c.args.entry c.args.size c.args.count
    c.requires.left c.requires.entry c.requires.kind in
    omega (arith, fits)

pub overflow_add-steps-3 : goal.overflow_add-steps-3
overflow_add-steps-3 c =
    let paid = within_work c.args.self.now.table.now c.args.self.now.fine (message_of c.args.self.now.links.now.came c.args.self.now.handles.now) c.args.frame c.requires.frame c.args.entry c.args.size c.args.count
    c.requires.left c.requires.entry c.requires.kind c.check_rows.new.steps c.args.steps.now (subst (λ (d : Entry). c.check_rows.new.steps ≤ c.args.steps.now + 17 * (c.args.count * d.size)) c.entry-e.ensures.value c.check_rows.ensures.cost) in
    record { fits = omega (arith, paid, c.requires.budget) }

pub zeros_at-requires-clause-order : goal.zeros_at-requires-clause-order
zeros_at-requires-clause-order c =
    let fits = structs_fit c.args.self.now.table.now c.args.self.now.fine (message_of c.args.self.now.links.now.came c.args.self.now.handles.now) c.args.frame c.requires.frame c.args.entry c.args.size c.args.count
    c.requires.left c.requires.entry c.requires.kind in
    omega (arith, fits)

pub returns-in_err-zeros_at-clause-cost : goal.returns-in_err-zeros_at-clause-cost
returns-in_err-zeros_at-clause-cost c =
    let paid = within_work c.args.self.now.table.now c.args.self.now.fine (message_of c.args.self.now.links.now.came c.args.self.now.handles.now) c.args.frame c.requires.frame c.args.entry c.args.size c.args.count
    c.requires.left c.requires.entry c.requires.kind c.check_rows.new.steps c.args.steps.now (subst (λ (d : Entry). c.check_rows.new.steps ≤ c.args.steps.now + 17 * (c.args.count * d.size)) c.entry-e.ensures.value c.check_rows.ensures.cost) in
    omega (arith, paid)

-- no struct is wrong
reads : (t : List ℕ) (m : Message) (x : Structs) (o : Option Wrong) → IsFirstWrong (IsRead t m x) (IsBroken t m x) x.count o → ((w : Wrong) → o ≡ Some w → ⊥) → (k : ℕ) → k < x.count → IsRead t m x k
reads t m x None all no_one = all
reads t m x (Some w) all no_one = absurd (no_one w refl)

pub returns-in_err-zeros_at-clause-fault_is_true : goal.returns-in_err-zeros_at-clause-fault_is_true
returns-in_err-zeros_at-clause-fault_is_true c =
    let t = c.args.self.now.table.now in
    let m = message_of c.args.self.now.links.now.came c.args.self.now.handles.now in
    let all = subst (λ (d : Entry). (k : ℕ) → k < c.args.count → IsRead t m (structs_of c.args.frame c.args.count d) k) c.entry-e.ensures.value
    (reads t m (structs_of c.args.frame c.args.count c.entry-e.result) c.check_rows.result c.check_rows.ensures.value c.in_default.not-Some) in
    let fits = structs_fit c.args.self.now.table.now c.args.self.now.fine (message_of c.args.self.now.links.now.came c.args.self.now.handles.now) c.args.frame c.requires.frame c.args.entry c.args.size c.args.count
    c.requires.left c.requires.entry c.requires.kind in
    let behind = c.args.frame.base + c.args.frame.done + c.args.size * c.args.count in
    let stop = c.args.frame.base + c.args.frame.size in
    let a : Agrees c.args.self.now.links.now c.raw.result.now = record { len = c.raw.ensures.same_length; byte = c.raw.ensures.agree } in
    let padding = padding_came c.args.self.now.links.now c.raw.result.now a behind stop (omega (arith, fits)) c.requires.frame.room (λ k from to. c.requires.free k (omega (arith, from)) to)
    c.in_err-zeros_at.field-0.0 c.in_err-zeros_at.ensures.fault_is_true in
    passed_on c.from_residual.result c.in_err-zeros_at.field-0.0 _ c.from_residual.ensures.1
    (λ at state. end_breaks c.args.self.now.table.now c.args.self.now.fine (message_of c.args.self.now.links.now.came c.args.self.now.handles.now) c.args.frame c.requires.frame c.args.entry c.args.size c.args.count
    c.requires.left c.requires.entry c.requires.kind at state all _ padding)

-- the steps of all rows, where no struct is wrong
rows_least : (o : Option Wrong) (P : Type 0) → IfNone o P → ((w : Wrong) → o ≡ Some w → ⊥) → P
rows_least None P h no_one = h
rows_least (Some w) P h no_one = absurd (no_one w refl)

pub returns-clause-ok : goal.returns-clause-ok
returns-clause-ok c = λ yes.
    let rows = subst (λ (d : Entry). c.args.steps.now + c.args.count * d.count ≤ c.check_rows.new.steps) c.entry-e.ensures.value (rows_least c.check_rows.result _ c.check_rows.ensures.least c.in_default.not-Some) in
    let counts : c.args.count * (1 + (entry_at c.args.self.now.table.now c.args.entry).count) ≡ c.args.count + c.args.count * (entry_at c.args.self.now.table.now c.args.entry).count = omega arith in
    let t = c.args.self.now.table.now in
    let m = message_of c.args.self.now.links.now.came c.args.self.now.handles.now in
    let all = subst (λ (d : Entry). (k : ℕ) → k < c.args.count → IsRead t m (structs_of c.args.frame c.args.count d) k) c.entry-e.ensures.value
    (reads t m (structs_of c.args.frame c.args.count c.entry-e.result) c.check_rows.result c.check_rows.ensures.value c.in_default.not-Some) in
    let paid = within_work c.args.self.now.table.now c.args.self.now.fine (message_of c.args.self.now.links.now.came c.args.self.now.handles.now) c.args.frame c.requires.frame c.args.entry c.args.size c.args.count
    c.requires.left c.requires.entry c.requires.kind c.check_rows.new.steps c.args.steps.now (subst (λ (d : Entry). c.check_rows.new.steps ≤ c.args.steps.now + 17 * (c.args.count * d.size)) c.entry-e.ensures.value c.check_rows.ensures.cost) in
    let fits = structs_fit c.args.self.now.table.now c.args.self.now.fine (message_of c.args.self.now.links.now.came c.args.self.now.handles.now) c.args.frame c.requires.frame c.args.entry c.args.size c.args.count
    c.requires.left c.requires.entry c.requires.kind in
    let behind = c.args.frame.base + c.args.frame.done + c.args.size * c.args.count in
    let stop = c.args.frame.base + c.args.frame.size in
    let a : Agrees c.args.self.now.links.now c.raw.result.now = record { len = c.raw.ensures.same_length; byte = c.raw.ensures.agree } in
    let room = c.requires.frame.room in
    let came = zeros_came c.args.self.now.links.now c.raw.result.now a behind (stop - behind) (omega (arith, fits, room)) (λ k from to. c.requires.free k (omega (arith, from)) (omega (arith, to, fits))) c.in_ok-zeros_at.ensures.ok in
    λ at state. all_read c.args.self.now.table.now c.args.self.now.fine (message_of c.args.self.now.links.now.came c.args.self.now.handles.now) c.args.frame c.requires.frame c.args.entry c.args.size c.args.count
    c.requires.left c.requires.entry c.requires.kind at state all _ (omega (arith, rows, counts)) (omega (arith, paid)) came

pub returns-clause-cost : goal.returns-clause-cost
returns-clause-cost c =
    let paid = within_work c.args.self.now.table.now c.args.self.now.fine (message_of c.args.self.now.links.now.came c.args.self.now.handles.now) c.args.frame c.requires.frame c.args.entry c.args.size c.args.count
    c.requires.left c.requires.entry c.requires.kind c.check_rows.new.steps c.args.steps.now (subst (λ (d : Entry). c.check_rows.new.steps ≤ c.args.steps.now + 17 * (c.args.count * d.size)) c.entry-e.ensures.value c.check_rows.ensures.cost) in
    omega (arith, paid)
