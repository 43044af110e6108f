use Rattle.fidl_decode_values.specs.Reading.{message}
use Rattle.fidl_decode_values.proofs.Unchanged.{size_short, size_fits, size_room}
use Rattle.fidl_decode_values.proofs.Fitting.{inside, small, ended, deeper, some_8}
use Rattle.std.proofs.Common.{◌≡◌, ℕ, ◌+◌, ◌-◌, ◌<◌, refl, Bool, true, false, sym, ap, subst, ◌∙◌, arith, length}
use Rattle.std.specs.Prelude.{Some}
use Rattle.std.specs.Int.{next_multiple_of}
use Rattle.fidl_table_format.specs.declared.record.Entry.{Entry}
use Rattle.fidl_table_format.specs.declared.kind.EntryKind.TheVariants.{Box}
use Rattle.fidl_table_format.specs.Section.{header_of, entry_at}
use Rattle.fidl_decode_model.specs.declared.frame.Remaining.TheVariants.{Rows}
use Rattle.fidl_decode_model.specs.declared.frame.Frame.{Frame}
use Rattle.fidl_decode_model.specs.State.{Position, linked}
use Rattle.fidl_decode_model.specs.Machine.{Visits, VisitFine, at_of}
use Rattle.fidl_decode_model.proofs.Visiting.{fine_as}
use Rattle.fidl_decode_model.proofs.Boxed.{visits_absent_box, visits_box, box_fine}
use Rattle.fidl_decode_values.proofs.Linking.{marker_at}
use Rattle.fidl_decode_values.proofs.decoder.Decoder.read_box.Goals as goal

pub returns-then-is_absent-clause-ok : goal.returns-then-is_absent-clause-ok
returns-then-is_absent-clause-ok c =
    visits_absent_box c.args.self.now.table.now c.args.self.now.fine (message c.args.self.now) c.args.depth c.args.entry c.args.place
    (at_of c.args.state.now) c.requires.entry c.requires.kind c.requires.state c.requires.depth (c.args.state.now.steps - c.args.state.now.steps)
    (omega arith) (c.is_absent.ensures.0 c.if-is_absent.true)

pub entry-content-requires : goal.entry-content-requires
entry-content-requires c =
    let f = fine_as c.args.self.now.table.now c.args.self.now.fine c.args.entry Box c.requires.entry c.requires.kind in
    subst (λ (d : Entry). d.first < (header_of c.args.self.now.table.now).entries) (sym c.entry.ensures.value) f.content.0

pub returns-then-size-self-clause-fault_is_true : goal.returns-then-size-self-clause-fault_is_true
returns-then-size-self-clause-fault_is_true c =
    let t = c.args.self.now.table.now in
    let content : c.entry-content.result ≡ entry_at t (entry_at t c.args.entry).first = c.entry-content.ensures.value ∙ ap (λ (d : Entry). entry_at t d.first) c.entry.ensures.value in
    let value : c.next_multiple_of-size.result ≡ next_multiple_of (entry_at t (entry_at t c.args.entry).first).size 8 = c.next_multiple_of-size.ensures.value ∙ ap (λ (d : Entry). next_multiple_of d.size 8) content in
    (refl, (c.is_present.ensures.0 c.if-not-is_present.false), omega (arith, value, (size_short c.args.self.now.sized _ _ c.if-size-self.true)))

pub returns-clause-ok : goal.returns-clause-ok
returns-clause-ok c =
    let t = c.args.self.now.table.now in
    let m = message c.args.self.now in
    let old = at_of c.args.state.now in
    let inner = entry_at t (entry_at t c.args.entry).first in
    let content : c.entry-content.result ≡ inner = c.entry-content.ensures.value ∙ ap (λ (d : Entry). entry_at t d.first) c.entry.ensures.value in
    let value : c.next_multiple_of-size.result ≡ next_multiple_of inner.size 8 = c.next_multiple_of-size.ensures.value ∙ ap (λ (d : Entry). next_multiple_of d.size 8) content in
    let frame : ℕ → Entry → Frame = λ size d. record { left = Rows d.first d.count; base = old.next; done = 0; size = size; nest = d.nest; depth = c.args.depth + 1; in_envelope = 0 } in
    let same : linked c.args.place inner.size old ≡ record { next = old.next + c.next_multiple_of-size.result; handle = old.handle; objects = c.link_marker.new.self.objects; records = c.link_marker.new.self.records }
    = λ i. record { next = old.next + sym value i; handle = old.handle; objects = sym c.link_marker.ensures.objects i; records = sym c.link_marker.ensures.records i } in
    let opened = visits_box t c.args.self.now.fine m c.args.depth c.args.entry c.args.place old c.requires.entry c.requires.kind c.requires.state
    c.requires.depth (c.args.state.now.steps - c.args.state.now.steps) (omega arith) (c.is_present.ensures.0 c.if-not-is_present.false)
    (omega (arith, c.requires.depth, c.if-depth-eq-MAX_DEPTH.false)) (omega
    (arith, value, (size_fits c.args.self.now.sized _ _ c.if-size-self.false))) in
    subst (λ (d : Entry). Visits t m c.args.depth c.args.entry c.args.place old
    (at_of (record {
      next = old.next + c.next_multiple_of-size.result;
      handle = c.args.state.now.handle;
      steps = c.args.state.now.steps;
      links =
          c.link_marker.new.self;
    })) (c.args.state.now.steps - c.args.state.now.steps) (Some (frame c.next_multiple_of-size.result d))) (sym content)
    (subst (λ (n : ℕ). Visits t m c.args.depth c.args.entry c.args.place old
    (at_of (record {
      next = old.next + c.next_multiple_of-size.result;
      handle = c.args.state.now.handle;
      steps = c.args.state.now.steps;
      links =
          c.link_marker.new.self;
    })) (c.args.state.now.steps - c.args.state.now.steps) (Some (frame n inner))) (sym value)
    (subst (λ (s : Position). Visits t m c.args.depth c.args.entry c.args.place old s (c.args.state.now.steps - c.args.state.now.steps) (Some (frame (next_multiple_of inner.size 8) inner))) same opened))

pub returns-clause-fine : goal.returns-clause-fine
returns-clause-fine c around few =
    let t = c.args.self.now.table.now in
    let m = message c.args.self.now in
    let old = at_of c.args.state.now in
    let inner = entry_at t (entry_at t c.args.entry).first in
    let content : c.entry-content.result ≡ inner = c.entry-content.ensures.value ∙ ap (λ (d : Entry). entry_at t d.first) c.entry.ensures.value in
    let value : c.next_multiple_of-size.result ≡ next_multiple_of inner.size 8 = c.next_multiple_of-size.ensures.value ∙ ap (λ (d : Entry). next_multiple_of d.size 8) content in
    let frame : ℕ → Entry → Frame = λ size d. record { left = Rows d.first d.count; base = old.next; done = 0; size = size; nest = d.nest; depth = c.args.depth + 1; in_envelope = 0 } in
    let opened = box_fine t c.args.self.now.fine m c.args.depth c.args.entry c.args.place old c.requires.entry c.requires.kind c.requires.state
    c.requires.depth (omega (arith, c.requires.depth, c.if-depth-eq-MAX_DEPTH.false))
    (omega (arith, value, (size_fits c.args.self.now.sized _ _ c.if-size-self.false))) around few in
    subst (λ (d : Entry). VisitFine t m c.args.depth around c.args.entry (Some (frame c.next_multiple_of-size.result d))) (sym content)
    (subst (λ (n : ℕ). VisitFine t m c.args.depth around c.args.entry (Some (frame n inner))) (sym value) opened)

-- a marker that is not right
clash : {b : Bool} → b ≡ true → b ≡ false → ⊥
clash is not = cc

pub returns-then-is_absent-clause-fine : goal.returns-then-is_absent-clause-fine
returns-then-is_absent-clause-fine c inside few = tt

pub returns-then-is_absent-clause-fault_is_true : goal.returns-then-is_absent-clause-fault_is_true
returns-then-is_absent-clause-fault_is_true c = tt

pub returns-then-is_absent-clause-steps : goal.returns-then-is_absent-clause-steps
returns-then-is_absent-clause-steps c = refl

pub returns-then-not-is_present-clause-ok : goal.returns-then-not-is_present-clause-ok
returns-then-not-is_present-clause-ok c = tt

pub returns-then-not-is_present-clause-fine : goal.returns-then-not-is_present-clause-fine
returns-then-not-is_present-clause-fine c inside few = tt

pub returns-then-not-is_present-clause-fault_is_true : goal.returns-then-not-is_present-clause-fault_is_true
returns-then-not-is_present-clause-fault_is_true c = (refl, λ z. clash (c.is_absent.ensures.1 z) c.if-is_absent.false, λ p. clash (c.is_present.ensures.1 p) c.if-not-is_present.true)

pub returns-then-not-is_present-clause-steps : goal.returns-then-not-is_present-clause-steps
returns-then-not-is_present-clause-steps c = refl

pub returns-then-depth-eq-MAX_DEPTH-clause-ok : goal.returns-then-depth-eq-MAX_DEPTH-clause-ok
returns-then-depth-eq-MAX_DEPTH-clause-ok c = tt

pub returns-then-depth-eq-MAX_DEPTH-clause-fine : goal.returns-then-depth-eq-MAX_DEPTH-clause-fine
returns-then-depth-eq-MAX_DEPTH-clause-fine c inside few = tt

pub returns-then-depth-eq-MAX_DEPTH-clause-fault_is_true : goal.returns-then-depth-eq-MAX_DEPTH-clause-fault_is_true
returns-then-depth-eq-MAX_DEPTH-clause-fault_is_true c = (refl, c.is_present.ensures.0 c.if-not-is_present.false, omega (arith, c.if-depth-eq-MAX_DEPTH.true))

pub returns-then-depth-eq-MAX_DEPTH-clause-steps : goal.returns-then-depth-eq-MAX_DEPTH-clause-steps
returns-then-depth-eq-MAX_DEPTH-clause-steps c = refl

pub returns-then-size-self-clause-ok : goal.returns-then-size-self-clause-ok
returns-then-size-self-clause-ok c = tt

pub returns-then-size-self-clause-fine : goal.returns-then-size-self-clause-fine
returns-then-size-self-clause-fine c inside few = tt

pub returns-then-size-self-clause-steps : goal.returns-then-size-self-clause-steps
returns-then-size-self-clause-steps c = refl

pub returns-clause-fault_is_true : goal.returns-clause-fault_is_true
returns-clause-fault_is_true c = tt

pub returns-clause-steps : goal.returns-clause-steps
returns-clause-steps c = refl

pub is_present-requires : goal.is_present-requires
is_present-requires c = record { holds = c.requires.holds; room = c.requires.room; free = c.requires.ready.1.free }

pub is_absent-requires : goal.is_absent-requires
is_absent-requires c = record { holds = c.requires.holds; room = c.requires.room; free = c.requires.ready.1.free }

pub entry-requires : goal.entry-requires
entry-requires c = c.requires.entry

pub next_multiple_of-size-requires-clause-nonzero : goal.next_multiple_of-size-requires-clause-nonzero
next_multiple_of-size-requires-clause-nonzero c = some_8

pub overflow_sub-self : goal.overflow_sub-self
overflow_sub-self c = size_room c.args.self.now.sized _ c.requires.state.next

pub overflow_add-state : goal.overflow_add-state
overflow_add-state c = record { fits = small _ (length c.args.self.now.bytes.value.came) (ended c.args.state.now.next c.next_multiple_of-size.result (length c.args.self.now.bytes.value.came) c.requires.state.next (size_fits c.args.self.now.sized _ _ c.if-size-self.false)) c.args.self.now.short }

pub overflow_add-result : goal.overflow_add-result
overflow_add-result c = record { fits = deeper c.args.depth c.requires.depth }

pub link_marker-requires : goal.link_marker-requires
link_marker-requires c =
    let x = marker_at c.args.state.now.links (message c.args.self.now) c.requires.holds c.args.state.now.next c.args.state.now.handle c.requires.state.next c.args.self.now.short
    c.args.place 8 c.args.place c.requires.ready.1 c.requires.ready.2 (omega arith) (omega arith) (c.is_present.ensures.0 c.if-not-is_present.false) in
    record { aligned = x.aligned; within = x.within; present = x.present; some = x.some; few = x.few; free = x.free }
