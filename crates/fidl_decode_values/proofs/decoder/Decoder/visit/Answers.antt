use Rattle.fidl_decode_values.specs.Reading.{message}
use Rattle.fidl_decode_values.proofs.Fitting.{no_steps, same_steps, more_steps, le_one}
use Rattle.fidl_decode_values.proofs.Unchanged.{no_ok}
use Rattle.std.proofs.Common.{◌-◌, arith, ◌≡◌, ◌<◌, sym, ap, subst, ◌∙◌, length, ◌+◌, ◌≤◌}
use Rattle.std.specs.Prelude.{Some, None, IfOk}
use Rattle.std.proofs.lemmas.Result.{IfErr-weaker}
use Rattle.fidl_table_format.specs.declared.record.Entry.{Entry}
use Rattle.fidl_table_format.specs.declared.kind.EntryKind.{EntryKind}
use Rattle.fidl_table_format.specs.declared.kind.EntryKind.TheVariants.{Vector, Array, Box, Struct, Table, Union}
use Rattle.fidl_table_format.specs.Kind.{kind_of}
use Rattle.fidl_table_format.specs.Section.{header_of, entry_at}
use Rattle.fidl_decode_model.specs.Machine.{at_of, Visits, VisitFine}
use Rattle.fidl_decode_model.proofs.Visiting.{fine_as, size_as, leaf_else, leaf_breaks}
use Rattle.fidl_decode_model.proofs.Holding.{visits_array, array_fine, array_frame}
use Rattle.fidl_decode_values.proofs.Begun.{frame_visits, frame_fine}
use Rattle.fidl_decode_model.proofs.Boxed.{box_breaks}
use Rattle.fidl_decode_model.proofs.Listed.{vector_breaks}
use Rattle.fidl_decode_model.proofs.Turning.{passed_on}
use Rattle.fidl_decode_values.proofs.ReadyPlaces.{place_of}
use Rattle.fidl_decode_values.proofs.decoder.Decoder.visit.Goals as goal

no_some : {A : Type 0} (a : A) → Some a ≡ None → ⊥
no_some a e = cc

pub unreachable-requires : goal.unreachable-requires
unreachable-requires c =
    let f = c.args.self.now.fine.each c.args.entry c.requires.entry in
    let none : kind_of (entry_at c.args.self.now.table.now c.args.entry).kind ≡ None = ap (λ (e : Entry). kind_of e.kind) (sym c.entry-e.ensures.value) ∙ sym c.from_number.ensures ∙ c.in_default.is in
    no_some f.0 (sym f.1.is ∙ none)

pub returns-in-Struct-clause-ok : goal.returns-in-Struct-clause-ok
returns-in-Struct-clause-ok c =
    let is : kind_of (entry_at c.args.self.now.table.now c.args.entry).kind ≡ Some Struct = ap (λ (e : Entry). kind_of e.kind) (sym c.entry-e.ensures.value) ∙ sym c.from_number.ensures ∙ c.in-Some.is ∙ ap (λ (k : EntryKind). Some k) c.in-Struct.is in
    frame_visits c.args.self.now.table.now c.args.self.now.fine (message c.args.self.now) c.args.depth c.args.entry c.args.place (at_of c.args.state.now) c.requires.entry c.requires.state c.requires.depth is c.requires.room
    c.entry-e.result c.entry-e.ensures.value c.args.in_envelope c.struct_frame.result c.struct_frame.ensures _ (omega arith)

pub returns-in-Struct-clause-fine : goal.returns-in-Struct-clause-fine
returns-in-Struct-clause-fine c =
    let is : kind_of (entry_at c.args.self.now.table.now c.args.entry).kind ≡ Some Struct = ap (λ (e : Entry). kind_of e.kind) (sym c.entry-e.ensures.value) ∙ sym c.from_number.ensures ∙ c.in-Some.is ∙ ap (λ (k : EntryKind). Some k) c.in-Struct.is in
    frame_fine c.args.self.now.table.now c.args.self.now.fine (message c.args.self.now) c.args.depth c.args.entry c.args.place (at_of c.args.state.now) c.requires.entry c.requires.state c.requires.depth is c.requires.room
    c.entry-e.result c.entry-e.ensures.value c.args.in_envelope c.struct_frame.result c.struct_frame.ensures c.requires.in_envelope

pub entry-size-requires : goal.entry-size-requires
entry-size-requires c =
    let is : kind_of (entry_at c.args.self.now.table.now c.args.entry).kind ≡ Some Array = ap (λ (e : Entry). kind_of e.kind) (sym c.entry-e.ensures.value) ∙ sym c.from_number.ensures ∙ c.in-Some.is ∙ ap (λ (k : EntryKind). Some k) c.in-Array.is in
    let f = fine_as c.args.self.now.table.now c.args.self.now.fine c.args.entry Array c.requires.entry is in
    subst (λ (d : Entry). d.first < (header_of c.args.self.now.table.now).entries) (sym c.entry-e.ensures.value) f.content.0

pub returns-in-Array-clause-ok : goal.returns-in-Array-clause-ok
returns-in-Array-clause-ok c =
    let is : kind_of (entry_at c.args.self.now.table.now c.args.entry).kind ≡ Some Array = ap (λ (e : Entry). kind_of e.kind) (sym c.entry-e.ensures.value) ∙ sym c.from_number.ensures ∙ c.in-Some.is ∙ ap (λ (k : EntryKind). Some k) c.in-Array.is in
    let element : c.entry-size.result.size ≡ (entry_at c.args.self.now.table.now (entry_at c.args.self.now.table.now c.args.entry).first).size = ap (λ (d : Entry). d.size) c.entry-size.ensures.value ∙ ap (λ (d : Entry). (entry_at c.args.self.now.table.now d.first).size) c.entry-e.ensures.value in
    subst (λ (d : Entry). Visits c.args.self.now.table.now (message c.args.self.now) c.args.depth c.args.entry c.args.place (at_of c.args.state.now)
    (at_of c.args.state.now) (c.args.state.now.steps - c.args.state.now.steps)
    (Some (array_frame d c.entry-size.result.size c.args.place c.args.depth c.args.in_envelope))) (sym c.entry-e.ensures.value)
    (visits_array c.args.self.now.table.now c.args.self.now.fine (message c.args.self.now) c.args.depth c.args.entry c.args.place
    (at_of c.args.state.now) c.requires.entry c.requires.state c.requires.depth c.args.in_envelope c.entry-size.result.size
    (c.args.state.now.steps - c.args.state.now.steps) (omega arith) is element c.requires.room)

pub returns-in-Array-clause-fine : goal.returns-in-Array-clause-fine
returns-in-Array-clause-fine c =
    let is : kind_of (entry_at c.args.self.now.table.now c.args.entry).kind ≡ Some Array = ap (λ (e : Entry). kind_of e.kind) (sym c.entry-e.ensures.value) ∙ sym c.from_number.ensures ∙ c.in-Some.is ∙ ap (λ (k : EntryKind). Some k) c.in-Array.is in
    let element : c.entry-size.result.size ≡ (entry_at c.args.self.now.table.now (entry_at c.args.self.now.table.now c.args.entry).first).size = ap (λ (d : Entry). d.size) c.entry-size.ensures.value ∙ ap (λ (d : Entry). (entry_at c.args.self.now.table.now d.first).size) c.entry-e.ensures.value in
    subst (λ (d : Entry). VisitFine c.args.self.now.table.now (message c.args.self.now) c.args.depth c.args.in_envelope c.args.entry (Some (array_frame d c.entry-size.result.size c.args.place c.args.depth c.args.in_envelope))) (sym c.entry-e.ensures.value)
    (array_fine c.args.self.now.table.now c.args.self.now.fine (message c.args.self.now) c.args.depth c.args.entry c.args.place (at_of c.args.state.now) c.requires.entry c.requires.state c.requires.depth c.args.in_envelope c.entry-size.result.size is element c.requires.room c.requires.in_envelope)

pub returns-in_err-read_leaf-in_default-kind-clause-fault_is_true : goal.returns-in_err-read_leaf-in_default-kind-clause-fault_is_true
returns-in_err-read_leaf-in_default-kind-clause-fault_is_true c =
    passed_on c.from_residual.result c.in_err-read_leaf-in_default-kind.field-0.0 _ c.from_residual.ensures.1 c.in_err-read_leaf-in_default-kind.ensures.fault_is_true

pub read_box-requires-clause-kind : goal.read_box-requires-clause-kind
read_box-requires-clause-kind c = ap (λ (e : Entry). kind_of e.kind) (sym c.entry-e.ensures.value) ∙ sym c.from_number.ensures ∙ c.in-Some.is ∙ ap (λ (k : EntryKind). Some k) c.in-Box.is

pub read_box-requires-clause-room : goal.read_box-requires-clause-room
read_box-requires-clause-room c =
    let is : kind_of (entry_at c.args.self.now.table.now c.args.entry).kind ≡ Some Box = ap (λ (e : Entry). kind_of e.kind) (sym c.entry-e.ensures.value) ∙ sym c.from_number.ensures ∙ c.in-Some.is ∙ ap (λ (k : EntryKind). Some k) c.in-Box.is in
    let size : 8 ≡ (entry_at c.args.self.now.table.now c.args.entry).size = size_as c.args.self.now.table.now c.args.self.now.fine c.args.entry Box c.requires.entry is in
    omega (arith, c.requires.room, size)

pub returns-in-Box-clause-fault_is_true : goal.returns-in-Box-clause-fault_is_true
returns-in-Box-clause-fault_is_true c =
    let is : kind_of (entry_at c.args.self.now.table.now c.args.entry).kind ≡ Some Box = ap (λ (e : Entry). kind_of e.kind) (sym c.entry-e.ensures.value) ∙ sym c.from_number.ensures ∙ c.in-Some.is ∙ ap (λ (k : EntryKind). Some k) c.in-Box.is in
    IfErr-weaker c.read_box.result _ _ (λ fault b. box_breaks c.args.self.now.table.now c.args.self.now.fine (message c.args.self.now) c.args.depth c.args.entry c.args.place (at_of c.args.state.now) c.requires.entry is c.requires.state c.requires.depth fault b) c.read_box.ensures.fault_is_true

pub read_vector-requires-clause-kind : goal.read_vector-requires-clause-kind
read_vector-requires-clause-kind c = ap (λ (e : Entry). kind_of e.kind) (sym c.entry-e.ensures.value) ∙ sym c.from_number.ensures ∙ c.in-Some.is ∙ ap (λ (k : EntryKind). Some k) c.in-Vector.is

pub read_vector-requires-clause-room : goal.read_vector-requires-clause-room
read_vector-requires-clause-room c =
    let is : kind_of (entry_at c.args.self.now.table.now c.args.entry).kind ≡ Some Vector = ap (λ (e : Entry). kind_of e.kind) (sym c.entry-e.ensures.value) ∙ sym c.from_number.ensures ∙ c.in-Some.is ∙ ap (λ (k : EntryKind). Some k) c.in-Vector.is in
    let size : 16 ≡ (entry_at c.args.self.now.table.now c.args.entry).size = size_as c.args.self.now.table.now c.args.self.now.fine c.args.entry Vector c.requires.entry is in
    omega (arith, c.requires.room, size)

pub returns-in-Vector-clause-fault_is_true : goal.returns-in-Vector-clause-fault_is_true
returns-in-Vector-clause-fault_is_true c =
    let is : kind_of (entry_at c.args.self.now.table.now c.args.entry).kind ≡ Some Vector = ap (λ (e : Entry). kind_of e.kind) (sym c.entry-e.ensures.value) ∙ sym c.from_number.ensures ∙ c.in-Some.is ∙ ap (λ (k : EntryKind). Some k) c.in-Vector.is in
    IfErr-weaker c.read_vector.result _ _ (λ fault b. vector_breaks c.args.self.now.table.now c.args.self.now.fine (message c.args.self.now)
    c.args.depth c.args.entry c.args.place (at_of c.args.state.now) c.requires.entry is c.requires.state c.requires.depth fault b)
    c.read_vector.ensures.fault_is_true

pub returns-in-Table-clause-fault_is_true : goal.returns-in-Table-clause-fault_is_true
returns-in-Table-clause-fault_is_true c =
    let is : kind_of (entry_at c.args.self.now.table.now c.args.entry).kind ≡ Some Table = ap (λ (e : Entry). kind_of e.kind) (sym c.entry-e.ensures.value) ∙ sym c.from_number.ensures ∙ c.in-Some.is ∙ ap (λ (k : EntryKind). Some k) c.in-Table.is in
    IfErr-weaker c.read_table.result _ _ (λ fault b. leaf_breaks c.args.self.now.table.now c.args.self.now.fine (message c.args.self.now) c.args.depth
    c.args.entry c.args.place (at_of c.args.state.now) c.requires.entry c.requires.state c.requires.depth Table is fault b)
    c.read_table.ensures.fault_is_true

pub read_leaf-requires-clause-leaf : goal.read_leaf-requires-clause-leaf
read_leaf-requires-clause-leaf c =
    let is : kind_of (entry_at c.args.self.now.table.now c.args.entry).kind ≡ Some c.in-Some.kind = ap (λ (e : Entry). kind_of e.kind) (sym c.entry-e.ensures.value) ∙ sym c.from_number.ensures ∙ c.in-Some.is in
    leaf_else c.args.self.now.table.now c.args.self.now.fine (message c.args.self.now) c.args.depth c.args.entry c.args.place (at_of c.args.state.now)
    c.requires.entry c.requires.state c.requires.depth c.in-Some.kind is c.in_default-kind.not-Struct c.in_default-kind.not-Array
    c.in_default-kind.not-Box c.in_default-kind.not-Vector c.in_default-kind.not-Table c.in_default-kind.not-Union

pub returns-in-Union-clause-fine : goal.returns-in-Union-clause-fine
returns-in-Union-clause-fine c =
    let is : kind_of (entry_at c.args.self.now.table.now c.args.entry).kind ≡ Some Union = ap (λ (e : Entry). kind_of e.kind) (sym c.entry-e.ensures.value) ∙ sym c.from_number.ensures ∙ c.in-Some.is ∙ ap (λ (k : EntryKind). Some k) c.in-Union.is in
    let size : 16 ≡ (entry_at c.args.self.now.table.now c.args.entry).size = size_as c.args.self.now.table.now c.args.self.now.fine c.args.entry Union c.requires.entry is in
    let outside : 0 ≡ c.args.in_envelope = search (arith, c.requires.in_envelope, size) in
    subst (λ i. IfOk c.read_union.result (VisitFine c.args.self.now.table.now (message c.args.self.now) c.args.depth i c.args.entry)) outside c.read_union.ensures.fine

pub entry-e-requires : goal.entry-e-requires
entry-e-requires c = c.requires.entry

pub from_number-requires : goal.from_number-requires
from_number-requires c = omega arith

pub overflow_cast-size : goal.overflow_cast-size
overflow_cast-size c = record { fits = omega arith }

pub overflow_cast-result : goal.overflow_cast-result
overflow_cast-result c = record { fits = omega arith }

pub read_box-requires-clause-entry : goal.read_box-requires-clause-entry
read_box-requires-clause-entry c = c.requires.entry

pub read_box-requires-clause-state : goal.read_box-requires-clause-state
read_box-requires-clause-state c = c.requires.state

pub read_box-requires-clause-depth : goal.read_box-requires-clause-depth
read_box-requires-clause-depth c = c.requires.depth

pub read_vector-requires-clause-entry : goal.read_vector-requires-clause-entry
read_vector-requires-clause-entry c = c.requires.entry

pub read_vector-requires-clause-state : goal.read_vector-requires-clause-state
read_vector-requires-clause-state c = c.requires.state

pub read_vector-requires-clause-depth : goal.read_vector-requires-clause-depth
read_vector-requires-clause-depth c = c.requires.depth

pub read_table-requires-clause-entry : goal.read_table-requires-clause-entry
read_table-requires-clause-entry c = c.requires.entry

pub read_table-requires-clause-state : goal.read_table-requires-clause-state
read_table-requires-clause-state c = c.requires.state

pub read_table-requires-clause-depth : goal.read_table-requires-clause-depth
read_table-requires-clause-depth c = c.requires.depth

pub read_table-requires-clause-budget : goal.read_table-requires-clause-budget
read_table-requires-clause-budget c = c.requires.budget

pub read_union-requires-clause-entry : goal.read_union-requires-clause-entry
read_union-requires-clause-entry c = c.requires.entry

pub read_union-requires-clause-state : goal.read_union-requires-clause-state
read_union-requires-clause-state c = c.requires.state

pub read_union-requires-clause-depth : goal.read_union-requires-clause-depth
read_union-requires-clause-depth c = c.requires.depth

pub read_union-requires-clause-budget : goal.read_union-requires-clause-budget
read_union-requires-clause-budget c = c.requires.budget

pub read_leaf-requires-clause-entry : goal.read_leaf-requires-clause-entry
read_leaf-requires-clause-entry c = c.requires.entry

pub read_leaf-requires-clause-room : goal.read_leaf-requires-clause-room
read_leaf-requires-clause-room c = c.requires.room

pub read_leaf-requires-clause-state : goal.read_leaf-requires-clause-state
read_leaf-requires-clause-state c = c.requires.state

pub read_leaf-requires-clause-depth : goal.read_leaf-requires-clause-depth
read_leaf-requires-clause-depth c = c.requires.depth

pub read_leaf-requires-clause-budget : goal.read_leaf-requires-clause-budget
read_leaf-requires-clause-budget c = c.requires.budget

pub returns-in-Struct-clause-fault_is_true : goal.returns-in-Struct-clause-fault_is_true
returns-in-Struct-clause-fault_is_true c = tt

pub returns-in-Struct-clause-spends : goal.returns-in-Struct-clause-spends
returns-in-Struct-clause-spends c = no_steps _ _

pub returns-in-Array-clause-fault_is_true : goal.returns-in-Array-clause-fault_is_true
returns-in-Array-clause-fault_is_true c = tt

pub returns-in-Array-clause-spends : goal.returns-in-Array-clause-spends
returns-in-Array-clause-spends c = no_steps _ _

pub returns-in_err-read_leaf-in_default-kind-clause-ok : goal.returns-in_err-read_leaf-in_default-kind-clause-ok
returns-in_err-read_leaf-in_default-kind-clause-ok c = no_ok c.from_residual.result c.in_err-read_leaf-in_default-kind.field-0.0 _ c.from_residual.ensures.1

pub returns-in_err-read_leaf-in_default-kind-clause-fine : goal.returns-in_err-read_leaf-in_default-kind-clause-fine
returns-in_err-read_leaf-in_default-kind-clause-fine c = no_ok c.from_residual.result c.in_err-read_leaf-in_default-kind.field-0.0 _ c.from_residual.ensures.1

pub returns-in_err-read_leaf-in_default-kind-clause-spends : goal.returns-in_err-read_leaf-in_default-kind-clause-spends
returns-in_err-read_leaf-in_default-kind-clause-spends c = more_steps _ _ _ _ c.in_err-read_leaf-in_default-kind.ensures.spends (omega arith)

pub read_table-requires-clause-kind : goal.read_table-requires-clause-kind
read_table-requires-clause-kind c = ap (λ (e : Entry). kind_of e.kind) (sym c.entry-e.ensures.value) ∙ sym c.from_number.ensures ∙ c.in-Some.is ∙ ap (λ (k : EntryKind). Some k) c.in-Table.is

pub read_union-requires-clause-kind : goal.read_union-requires-clause-kind
read_union-requires-clause-kind c = ap (λ (e : Entry). kind_of e.kind) (sym c.entry-e.ensures.value) ∙ sym c.from_number.ensures ∙ c.in-Some.is ∙ ap (λ (k : EntryKind). Some k) c.in-Union.is

pub read_leaf-requires-clause-kind : goal.read_leaf-requires-clause-kind
read_leaf-requires-clause-kind c = ap (λ (e : Entry). kind_of e.kind) (sym c.entry-e.ensures.value) ∙ sym c.from_number.ensures ∙ c.in-Some.is

pub read_table-requires-clause-room : goal.read_table-requires-clause-room
read_table-requires-clause-room c = subst (λ n. c.args.place + n ≤ (length c.args.self.now.bytes.value.came))
    (sym (size_as c.args.self.now.table.now c.args.self.now.fine c.args.entry Table c.requires.entry
    (ap (λ (e : Entry). kind_of e.kind) (sym c.entry-e.ensures.value) ∙ sym c.from_number.ensures ∙ c.in-Some.is ∙ ap (λ (k : EntryKind). Some k)
    c.in-Table.is))) c.requires.room

pub read_union-requires-clause-room : goal.read_union-requires-clause-room
read_union-requires-clause-room c = subst (λ n. c.args.place + n ≤ (length c.args.self.now.bytes.value.came))
    (sym (size_as c.args.self.now.table.now c.args.self.now.fine c.args.entry Union c.requires.entry
    (ap (λ (e : Entry). kind_of e.kind) (sym c.entry-e.ensures.value) ∙ sym c.from_number.ensures ∙ c.in-Some.is ∙ ap (λ (k : EntryKind). Some k)
    c.in-Union.is))) c.requires.room

pub returns-in-Box-clause-ok : goal.returns-in-Box-clause-ok
returns-in-Box-clause-ok c = c.read_box.ensures.ok

pub returns-in-Box-clause-fine : goal.returns-in-Box-clause-fine
returns-in-Box-clause-fine c = c.read_box.ensures.fine c.args.in_envelope (le_one c.args.in_envelope _ c.requires.in_envelope)

pub returns-in-Box-clause-spends : goal.returns-in-Box-clause-spends
returns-in-Box-clause-spends c = same_steps _ _ _ c.read_box.ensures.steps

pub returns-in-Vector-clause-ok : goal.returns-in-Vector-clause-ok
returns-in-Vector-clause-ok c = c.read_vector.ensures.ok

pub returns-in-Vector-clause-fine : goal.returns-in-Vector-clause-fine
returns-in-Vector-clause-fine c = c.read_vector.ensures.fine c.args.in_envelope (le_one c.args.in_envelope _ c.requires.in_envelope)

pub returns-in-Vector-clause-spends : goal.returns-in-Vector-clause-spends
returns-in-Vector-clause-spends c = same_steps _ _ _ c.read_vector.ensures.steps

pub returns-in-Table-clause-ok : goal.returns-in-Table-clause-ok
returns-in-Table-clause-ok c = c.read_table.ensures.ok

pub returns-in-Table-clause-fine : goal.returns-in-Table-clause-fine
returns-in-Table-clause-fine c = c.read_table.ensures.fine c.args.in_envelope (le_one c.args.in_envelope _ c.requires.in_envelope)

pub returns-in-Table-clause-spends : goal.returns-in-Table-clause-spends
returns-in-Table-clause-spends c = more_steps _ _ _ _ c.read_table.ensures.spends (omega arith)

pub returns-in-Union-clause-ok : goal.returns-in-Union-clause-ok
returns-in-Union-clause-ok c = c.read_union.ensures.ok

pub returns-in-Union-clause-fault_is_true : goal.returns-in-Union-clause-fault_is_true
returns-in-Union-clause-fault_is_true c = c.read_union.ensures.fault_is_true

pub returns-in-Union-clause-spends : goal.returns-in-Union-clause-spends
returns-in-Union-clause-spends c = more_steps _ _ _ _ c.read_union.ensures.spends (omega arith)

pub read_box-requires-clause-ready : goal.read_box-requires-clause-ready
read_box-requires-clause-ready c =
    let is : kind_of (entry_at c.args.self.now.table.now c.args.entry).kind ≡ Some Box = ap (λ (e : Entry). kind_of e.kind) (sym c.entry-e.ensures.value) ∙ sym c.from_number.ensures ∙ c.in-Some.is ∙ ap (λ (k : EntryKind). Some k) c.in-Box.is in
    place_of c.args.self.now.table.now c.args.self.now.fine (message c.args.self.now) (at_of c.args.state.now) c.args.entry c.args.place Box c.requires.entry is c.requires.ready

pub read_vector-requires-clause-ready : goal.read_vector-requires-clause-ready
read_vector-requires-clause-ready c =
    let is : kind_of (entry_at c.args.self.now.table.now c.args.entry).kind ≡ Some Vector = ap (λ (e : Entry). kind_of e.kind) (sym c.entry-e.ensures.value) ∙ sym c.from_number.ensures ∙ c.in-Some.is ∙ ap (λ (k : EntryKind). Some k) c.in-Vector.is in
    place_of c.args.self.now.table.now c.args.self.now.fine (message c.args.self.now) (at_of c.args.state.now) c.args.entry c.args.place Vector c.requires.entry is c.requires.ready

pub read_table-requires-clause-ready : goal.read_table-requires-clause-ready
read_table-requires-clause-ready c =
    let is : kind_of (entry_at c.args.self.now.table.now c.args.entry).kind ≡ Some Table = ap (λ (e : Entry). kind_of e.kind) (sym c.entry-e.ensures.value) ∙ sym c.from_number.ensures ∙ c.in-Some.is ∙ ap (λ (k : EntryKind). Some k) c.in-Table.is in
    place_of c.args.self.now.table.now c.args.self.now.fine (message c.args.self.now) (at_of c.args.state.now) c.args.entry c.args.place Table c.requires.entry is c.requires.ready

pub read_union-requires-clause-ready : goal.read_union-requires-clause-ready
read_union-requires-clause-ready c =
    let is : kind_of (entry_at c.args.self.now.table.now c.args.entry).kind ≡ Some Union = ap (λ (e : Entry). kind_of e.kind) (sym c.entry-e.ensures.value) ∙ sym c.from_number.ensures ∙ c.in-Some.is ∙ ap (λ (k : EntryKind). Some k) c.in-Union.is in
    place_of c.args.self.now.table.now c.args.self.now.fine (message c.args.self.now) (at_of c.args.state.now) c.args.entry c.args.place Union c.requires.entry is c.requires.ready
