use Rattle.fidl_decode_values.specs.Reading.{message}
use Rattle.fidl_decode_values.proofs.Fitting.{spends_any, not_fewer, one_more}
use Rattle.std.proofs.Common.{◌≡◌, ◌-◌, false, true, refl, sym, ap, subst, ◌∙◌, arith, inl, inr}
use Rattle.std.specs.Prelude.{Some}
use Rattle.std.proofs.lemmas.Result.{IfErr-weaker}
use Rattle.fidl_table_format.specs.declared.record.Entry.{Entry}
use Rattle.fidl_table_format.specs.declared.kind.EntryKind.{EntryKind}
use Rattle.fidl_table_format.specs.declared.kind.EntryKind.TheVariants.{Struct}
use Rattle.fidl_table_format.specs.Kind.{kind_of}
use Rattle.fidl_table_format.specs.Section.{entry_at}
use Rattle.fidl_decode_model.specs.Invariants.{AreLeaves}
use Rattle.fidl_decode_model.specs.declared.frame.Frame.{Frame}
use Rattle.fidl_decode_model.specs.Machine.{FrameFine, Visits, value_work, at_of}
use Rattle.fidl_decode_model.proofs.Turning.{on_ok_from}
use Rattle.fidl_decode_model.proofs.Holding.{work_none, struct_frame, visits_struct, struct_fine}
use Rattle.fidl_decode_columns.proofs.Wholly.{leaf_cost, visits_over}
use Rattle.fidl_decode_values.specs.Ready.{FrameReady}
use Rattle.fidl_decode_values.proofs.ReadyRows.{struct_ready}
use Rattle.fidl_decode.proofs.frames.Frames.read_flat.Goals as goal

no_true : false ≡ true → ⊥
no_true e = cc

pub returns-then-is_leaf-clause-spends : goal.returns-then-is_leaf-clause-spends
returns-then-is_leaf-clause-spends c =
    let t = c.args.self.now.decoder.table.now in
    spends_any _ _ _ (omega (arith, (not_fewer _ _ _ c.read_leaf.ensures.spends))) (omega (arith, c.read_leaf.ensures.spends.most, leaf_cost t c.args.self.now.decoder.fine c.args.self.now.decoder.bytes.value.came c.args.state.now.next c.args.entry c.requires.entry))

pub read_fields_apart-requires-clause-frame : goal.read_fields_apart-requires-clause-frame
read_fields_apart-requires-clause-frame c =
    let t = c.args.self.now.decoder.table.now in
    let m = message c.args.self.now.decoder in
    let old = at_of c.args.state.now in
    let d = entry_at t c.args.entry in
    let flat : (c.args.kind ≡ Struct) × AreLeaves t d.first d.count = elim c.requires.flat [ inl leaf ↦ absurd (no_true (sym c.if-is_leaf.false ∙ c.is_leaf.ensures ∙ leaf)) | inr s ↦ s ] in
    let is : kind_of d.kind ≡ Some Struct = c.requires.kind ∙ ap (λ (k : EntryKind). Some k) flat.0 in
    subst (λ (d : Entry). FrameFine t m.bytes (struct_frame d c.args.place c.args.depth 0)) (sym c.entry-e.ensures.value)
    (struct_fine t c.args.self.now.decoder.fine m c.args.depth c.args.entry c.args.place old c.requires.entry c.requires.state c.requires.depth 0 is c.requires.room (inl refl)).0

pub read_fields_apart-requires-clause-leaves : goal.read_fields_apart-requires-clause-leaves
read_fields_apart-requires-clause-leaves c =
    let t = c.args.self.now.decoder.table.now in
    let d = entry_at t c.args.entry in
    let flat : (c.args.kind ≡ Struct) × AreLeaves t d.first d.count = elim c.requires.flat [ inl leaf ↦ absurd (no_true (sym c.if-is_leaf.false ∙ c.is_leaf.ensures ∙ leaf)) | inr s ↦ s ] in
    subst (λ (d : Entry). AreLeaves t d.first d.count) (sym c.entry-e.ensures.value) flat.1

pub read_fields_apart-requires-clause-budget : goal.read_fields_apart-requires-clause-budget
read_fields_apart-requires-clause-budget c =
    let work = ap (λ (d : Entry). value_work c.args.self.now.decoder.bytes.value.came c.args.state.now.next d) c.entry-e.ensures.value in
    omega (arith, c.requires.budget, work, work_none c.entry-e.result.nest c.entry-e.result.size)

pub returns-clause-ok : goal.returns-clause-ok
returns-clause-ok c =
    let t = c.args.self.now.decoder.table.now in
    let m = message c.args.self.now.decoder in
    let old = at_of c.args.state.now in
    let d = entry_at t c.args.entry in
    let flat : (c.args.kind ≡ Struct) × AreLeaves t d.first d.count = elim c.requires.flat [ inl leaf ↦ absurd (no_true (sym c.if-is_leaf.false ∙ c.is_leaf.ensures ∙ leaf)) | inr s ↦ s ] in
    let is : kind_of d.kind ≡ Some Struct = c.requires.kind ∙ ap (λ (k : EntryKind). Some k) flat.0 in
    let frame : Entry → Frame = λ d. struct_frame d c.args.place c.args.depth 0 in
    let visit = subst (λ (d : Entry). Visits t m c.args.depth c.args.entry c.args.place old old 0 (Some (frame d))) (sym c.entry-e.ensures.value)
    (visits_struct t c.args.self.now.decoder.fine m c.args.depth c.args.entry c.args.place old c.requires.entry c.requires.state c.requires.depth 0 0 refl is c.requires.room) in
    on_ok_from c.read_fields_apart.result (λ turns. visits_over t m c.args.depth c.args.entry c.args.place old old 0 (frame c.entry-e.result) visit
    (at_of c.read_fields_apart.new.state) (c.read_fields_apart.new.state.steps - c.args.state.now.steps)
    (c.read_fields_apart.new.state.steps - c.args.state.now.steps) (omega arith) turns) c.read_fields_apart.ensures.ok

pub returns-clause-fault_is_true : goal.returns-clause-fault_is_true
returns-clause-fault_is_true c =
    let t = c.args.self.now.decoder.table.now in
    let m = message c.args.self.now.decoder in
    let old = at_of c.args.state.now in
    let d = entry_at t c.args.entry in
    let flat : (c.args.kind ≡ Struct) × AreLeaves t d.first d.count = elim c.requires.flat [ inl leaf ↦ absurd (no_true (sym c.if-is_leaf.false ∙ c.is_leaf.ensures ∙ leaf)) | inr s ↦ s ] in
    let is : kind_of d.kind ≡ Some Struct = c.requires.kind ∙ ap (λ (k : EntryKind). Some k) flat.0 in
    let frame : Entry → Frame = λ d. struct_frame d c.args.place c.args.depth 0 in
    let visit = subst (λ (d : Entry). Visits t m c.args.depth c.args.entry c.args.place old old 0 (Some (frame d))) (sym c.entry-e.ensures.value)
    (visits_struct t c.args.self.now.decoder.fine m c.args.depth c.args.entry c.args.place old c.requires.entry c.requires.state c.requires.depth 0 0 refl is c.requires.room) in
    IfErr-weaker c.read_fields_apart.result _ _ (λ fault b. visit.breaks fault b) c.read_fields_apart.ensures.fault_is_true

pub returns-clause-spends : goal.returns-clause-spends
returns-clause-spends c =
    let work = ap (λ (d : Entry). value_work c.args.self.now.decoder.bytes.value.came c.args.state.now.next d) c.entry-e.ensures.value in
    spends_any _ _ _ (omega (arith, (one_more _ _ _ c.read_fields_apart.ensures.spends))) (omega (arith, c.read_fields_apart.ensures.spends.most, work, work_none c.entry-e.result.nest c.entry-e.result.size))

pub read_leaf-requires-clause-entry : goal.read_leaf-requires-clause-entry
read_leaf-requires-clause-entry c = c.requires.entry

pub read_leaf-requires-clause-kind : goal.read_leaf-requires-clause-kind
read_leaf-requires-clause-kind c = c.requires.kind

pub read_leaf-requires-clause-room : goal.read_leaf-requires-clause-room
read_leaf-requires-clause-room c = c.requires.room

pub read_leaf-requires-clause-state : goal.read_leaf-requires-clause-state
read_leaf-requires-clause-state c = c.requires.state

pub read_leaf-requires-clause-depth : goal.read_leaf-requires-clause-depth
read_leaf-requires-clause-depth c = c.requires.depth

pub entry-e-requires : goal.entry-e-requires
entry-e-requires c = c.requires.entry

pub read_fields_apart-requires-clause-state : goal.read_fields_apart-requires-clause-state
read_fields_apart-requires-clause-state c = c.requires.state

pub read_fields_apart-requires-clause-ready : goal.read_fields_apart-requires-clause-ready
read_fields_apart-requires-clause-ready c =
    let t = c.args.self.now.decoder.table.now in
    let m = message c.args.self.now.decoder in
    let old = at_of c.args.state.now in
    let d = entry_at t c.args.entry in
    let flat : (c.args.kind ≡ Struct) × AreLeaves t d.first d.count = elim c.requires.flat [ inl leaf ↦ absurd (no_true (sym c.if-is_leaf.false ∙ c.is_leaf.ensures ∙ leaf)) | inr s ↦ s ] in
    let is : kind_of d.kind ≡ Some Struct = c.requires.kind ∙ ap (λ (k : EntryKind). Some k) flat.0 in
    subst (λ (d : Entry). FrameReady t m old (struct_frame d c.args.place c.args.depth 0)) (sym c.entry-e.ensures.value)
    (struct_ready t c.args.self.now.decoder.fine m c.args.depth c.args.entry c.args.place old c.requires.entry c.requires.state c.requires.depth 0 is c.requires.room c.requires.ready)
