use Rattle.fidl_decode_values.specs.Reading.{message}
use Rattle.fidl_decode_values.proofs.Unchanged.{clash, size_short, size_fits, size_room}
use Rattle.fidl_decode_values.proofs.Fitting.{front, apart, inside, small, ended, deeper, some_8}
use Rattle.std.proofs.Common.{◌≡◌, ℕ, ◌+◌, ◌-◌, ◌*◌, ◌<◌, ◌≤◌, refl, sym, ap, subst, ◌∙◌, arith, inl, inr, length}
use Rattle.std.specs.Prelude.{Option, Some, None}
use Rattle.fidl_limits.specs.declared.limits.TheConstants.{MAX_DEPTH}
use Rattle.std.specs.Int.{next_multiple_of}
use Rattle.fidl_table_format.specs.declared.record.Entry.{Entry}
use Rattle.fidl_table_format.specs.declared.kind.EntryKind.TheVariants.{Vector}
use Rattle.fidl_table_format.specs.Section.{header_of, entry_at}
use Rattle.fidl_table_format.specs.Terms.{is_optional}
use Rattle.fidl_decode_model.specs.declared.frame.Remaining.TheVariants.{Elements}
use Rattle.fidl_decode_model.specs.declared.frame.Frame.{Frame}
use Rattle.fidl_decode_model.specs.Breaks.{count_at}
use Rattle.fidl_decode_model.specs.State.{Position, linked}
use Rattle.fidl_decode_model.specs.Machine.{Visits, VisitFine, at_of}
use Rattle.fidl_decode_model.proofs.Visiting.{fine_as}
use Rattle.fidl_decode_model.proofs.Listed.{count_fits, visits_absent_vector, visits_vector, vector_fine}
use Rattle.fidl_decode_values.proofs.ReadyPlaces.{first_free, last_free}
use Rattle.fidl_decode_values.proofs.Linking.{marker_at}
use Rattle.fidl_decode_values.proofs.Sequences.{visits_no_elements}
use Rattle.fidl_decode_values.proofs.decoder.Decoder.read_vector.Goals as goal

pub returns-then-not-is_present-clause-ok : goal.returns-then-not-is_present-clause-ok
returns-then-not-is_present-clause-ok c =
    let own = ap is_optional c.entry-e.ensures.value in
    visits_absent_vector c.args.self.now.table.now c.args.self.now.fine (message c.args.self.now) c.args.depth c.args.entry c.args.place (at_of c.args.state.now) c.requires.entry c.requires.kind c.requires.state c.requires.depth (c.args.state.now.steps - c.args.state.now.steps) (omega arith)
    (sym own ∙ sym c.is_optional.ensures ∙ c.if-not-is_optional.false) (c.is_absent.ensures.0 c.if-not-is_absent.false) (omega (arith, c.requires.room)) (λ i. omega (arith, c.args.self.now.octets i)) (sym c.u64_at-count.ensures ∙ c.if-count-ne0.false)

pub entry-element-requires : goal.entry-element-requires
entry-element-requires c =
    let f = fine_as c.args.self.now.table.now c.args.self.now.fine c.args.entry Vector c.requires.entry c.requires.kind in
    subst (λ (d : Entry). d.first < (header_of c.args.self.now.table.now).entries) (sym c.entry-e.ensures.value) f.content.0

pub returns-then-count-rest-clause-fault_is_true : goal.returns-then-count-rest-clause-fault_is_true
returns-then-count-rest-clause-fault_is_true c =
    let many = count_fits c.args.self.now.table.now c.args.self.now.fine (message c.args.self.now) c.args.depth c.args.entry c.args.place (at_of c.args.state.now) c.requires.entry c.requires.kind in
    (refl, inr ((c.is_present.ensures.0 c.if-not-is_present.false), omega (arith, many, c.u64_at-count.ensures, (size_short c.args.self.now.sized _ _ c.if-count-rest.true))))

pub overflow_add-result-2 : goal.overflow_add-result-2
overflow_add-result-2 c =
    let t = c.args.self.now.table.now in
    let f = fine_as t c.args.self.now.fine c.args.entry Vector c.requires.entry c.requires.kind in
    let small = (c.args.self.now.fine.each (entry_at t c.args.entry).first f.content.0).1.nest in
    let nest : c.entry-element.result.nest ≡ (entry_at t (entry_at t c.args.entry).first).nest = ap (λ (d : Entry). d.nest) c.entry-element.ensures.value ∙ ap (λ (d : Entry). (entry_at t d.first).nest) c.entry-e.ensures.value in
    record { fits = omega (arith, small, nest) }

pub returns-clause-ok : goal.returns-clause-ok
returns-clause-ok c =
    let t = c.args.self.now.table.now in
    let m = message c.args.self.now in
    let old = at_of c.args.state.now in
    let d = entry_at t c.args.entry in
    let inner = entry_at t d.first in
    let n = count_at c.args.self.now.bytes.value.came c.args.place in
    let holder : c.entry-e.result ≡ d = c.entry-e.ensures.value in
    let element : c.entry-element.result ≡ inner = c.entry-element.ensures.value ∙ ap (λ (d : Entry). entry_at t d.first) holder in
    let number : c.u64_at-count.result ≡ n = c.u64_at-count.ensures in
    let bound : c.entry-e.result.bound ≡ d.bound = ap (λ (d : Entry). d.bound) holder in
    let value : c.next_multiple_of-size.result ≡ next_multiple_of (inner.size * n) 8 = c.next_multiple_of-size.ensures.value ∙ (λ i. next_multiple_of ((element i).size * number i) 8) in
    let frame : Entry → Entry → (k size : ℕ) → Option Frame = λ h e k size. Some (record { left = Elements h.first e.size k; base = old.next; done = 0; size = size; nest = e.nest + 1; depth = c.args.depth + 1; in_envelope = 0 }) in
    let found : frame d inner n (next_multiple_of (inner.size * n) 8) ≡ frame c.entry-e.result c.entry-element.result c.u64_at-count.result c.next_multiple_of-size.result
    = λ i. frame (sym holder i) (sym element i) (sym number i) (sym value i) in
    let same : linked (c.args.place + 8) (inner.size * n) old ≡ record { next = old.next + c.next_multiple_of-size.result; handle = old.handle; objects = c.link_marker.new.self.objects; records = c.link_marker.new.self.records }
    = λ i. record { next = old.next + sym value i; handle = old.handle; objects = sym c.link_marker.ensures.objects i; records = sym c.link_marker.ensures.records i } in
    let opened = visits_vector t c.args.self.now.fine m c.args.depth c.args.entry c.args.place old c.requires.entry c.requires.kind c.requires.state
    c.requires.depth (c.args.state.now.steps - c.args.state.now.steps) (omega arith) (c.is_present.ensures.0 c.if-not-is_present.false)
    (omega (arith, c.requires.depth, c.if-depth-eq-MAX_DEPTH.false)) (omega (arith, number, bound, c.if-count-e.false))
    (omega (arith, value, (size_fits c.args.self.now.sized _ _ c.if-size-rest.false))) (omega (arith, c.requires.room)) (λ i. omega (arith, c.args.self.now.octets i)) in
    subst (λ (s : Position). Visits t m c.args.depth c.args.entry c.args.place old s (c.args.state.now.steps - c.args.state.now.steps) (frame c.entry-e.result c.entry-element.result c.u64_at-count.result c.next_multiple_of-size.result)) same
    (subst (λ (o : Option Frame). Visits t m c.args.depth c.args.entry c.args.place old (linked (c.args.place + 8) (inner.size * n) old) (c.args.state.now.steps - c.args.state.now.steps) o) found opened)

pub returns-then-count-eq0-clause-ok : goal.returns-then-count-eq0-clause-ok
returns-then-count-eq0-clause-ok c =
    let t = c.args.self.now.table.now in
    let m = message c.args.self.now in
    let old = at_of c.args.state.now in
    let d = entry_at t c.args.entry in
    let inner = entry_at t d.first in
    let n = count_at c.args.self.now.bytes.value.came c.args.place in
    let holder : c.entry-e.result ≡ d = c.entry-e.ensures.value in
    let element : c.entry-element.result ≡ inner = c.entry-element.ensures.value ∙ ap (λ (d : Entry). entry_at t d.first) holder in
    let number : c.u64_at-count.result ≡ n = c.u64_at-count.ensures in
    let none : n ≡ 0 = sym number ∙ c.if-count-eq0.true in
    let bound : c.entry-e.result.bound ≡ d.bound = ap (λ (d : Entry). d.bound) holder in
    let value : c.next_multiple_of-size.result ≡ next_multiple_of (inner.size * n) 8 = c.next_multiple_of-size.ensures.value ∙ (λ i. next_multiple_of ((element i).size * number i) 8) in
    let empty : inner.size * n ≡ 0 = (λ i. inner.size * none i) ∙ omega arith in
    let same : linked (c.args.place + 8) (inner.size * n) old ≡ record { next = old.next + c.next_multiple_of-size.result; handle = old.handle; objects = c.link_marker.new.self.objects; records = c.link_marker.new.self.records }
    = λ i. record { next = old.next + sym value i; handle = old.handle; objects = sym c.link_marker.ensures.objects i; records = sym c.link_marker.ensures.records i } in
    let fits : next_multiple_of (inner.size * n) 8 ≤ length m.bytes - old.next = omega (arith, value, (size_fits c.args.self.now.sized _ _ c.if-size-rest.false)) in
    let less : c.args.depth < MAX_DEPTH = omega (arith, c.requires.depth, c.if-depth-eq-MAX_DEPTH.false) in
    let opened = visits_vector t c.args.self.now.fine m c.args.depth c.args.entry c.args.place old c.requires.entry c.requires.kind c.requires.state
    c.requires.depth (c.args.state.now.steps - c.args.state.now.steps) (omega arith) (c.is_present.ensures.0 c.if-not-is_present.false)
    less (omega (arith, number, bound, c.if-count-e.false)) fits (omega (arith, c.requires.room)) (λ i. omega (arith, c.args.self.now.octets i)) in
    let few = vector_fine t c.args.self.now.fine m c.args.depth c.args.entry c.args.place old c.requires.entry c.requires.kind c.requires.state c.requires.depth less fits 0 (omega arith) in
    subst (λ (s : Position). Visits t m c.args.depth c.args.entry c.args.place old s (c.args.state.now.steps - c.args.state.now.steps) None) same
    (visits_no_elements t c.args.self.now.fine m c.args.depth c.args.entry c.args.place old (linked (c.args.place + 8) (inner.size * n) old) (c.args.state.now.steps - c.args.state.now.steps) _ opened few.0
    d.first inner.size (λ i. Elements d.first inner.size (none i)) (ap (λ k. next_multiple_of k 8) empty))

pub returns-clause-fine : goal.returns-clause-fine
returns-clause-fine c around few =
    let t = c.args.self.now.table.now in
    let m = message c.args.self.now in
    let old = at_of c.args.state.now in
    let d = entry_at t c.args.entry in
    let inner = entry_at t d.first in
    let n = count_at c.args.self.now.bytes.value.came c.args.place in
    let holder : c.entry-e.result ≡ d = c.entry-e.ensures.value in
    let element : c.entry-element.result ≡ inner = c.entry-element.ensures.value ∙ ap (λ (d : Entry). entry_at t d.first) holder in
    let number : c.u64_at-count.result ≡ n = c.u64_at-count.ensures in
    let value : c.next_multiple_of-size.result ≡ next_multiple_of (inner.size * n) 8 = c.next_multiple_of-size.ensures.value ∙ (λ i. next_multiple_of ((element i).size * number i) 8) in
    let frame : Entry → Entry → (k size : ℕ) → Option Frame = λ h e k size. Some (record { left = Elements h.first e.size k; base = old.next; done = 0; size = size; nest = e.nest + 1; depth = c.args.depth + 1; in_envelope = 0 }) in
    let found : frame d inner n (next_multiple_of (inner.size * n) 8) ≡ frame c.entry-e.result c.entry-element.result c.u64_at-count.result c.next_multiple_of-size.result
    = λ i. frame (sym holder i) (sym element i) (sym number i) (sym value i) in
    let opened = vector_fine t c.args.self.now.fine m c.args.depth c.args.entry c.args.place old c.requires.entry c.requires.kind c.requires.state
    c.requires.depth (omega (arith, c.requires.depth, c.if-depth-eq-MAX_DEPTH.false))
    (omega (arith, value, (size_fits c.args.self.now.sized _ _ c.if-size-rest.false))) around few in
    subst (λ (o : Option Frame). VisitFine t m c.args.depth around c.args.entry o) found opened

pub returns-then-not-is_absent-clause-ok : goal.returns-then-not-is_absent-clause-ok
returns-then-not-is_absent-clause-ok c = tt

pub returns-then-not-is_absent-clause-fine : goal.returns-then-not-is_absent-clause-fine
returns-then-not-is_absent-clause-fine c inside few = tt

pub returns-then-not-is_absent-clause-fault_is_true : goal.returns-then-not-is_absent-clause-fault_is_true
returns-then-not-is_absent-clause-fault_is_true c = (refl, λ z. clash (c.is_absent.ensures.1 z) c.if-not-is_absent.true, λ p. clash (c.is_present.ensures.1 p) c.if-not-is_present.true)

pub returns-then-not-is_absent-clause-steps : goal.returns-then-not-is_absent-clause-steps
returns-then-not-is_absent-clause-steps c = refl

pub returns-then-count-ne0-clause-ok : goal.returns-then-count-ne0-clause-ok
returns-then-count-ne0-clause-ok c = tt

pub returns-then-count-ne0-clause-fine : goal.returns-then-count-ne0-clause-fine
returns-then-count-ne0-clause-fine c inside few = tt

pub returns-then-count-ne0-clause-fault_is_true : goal.returns-then-count-ne0-clause-fault_is_true
returns-then-count-ne0-clause-fault_is_true c = (refl, inl ((c.is_absent.ensures.0 c.if-not-is_absent.false), λ none. c.if-count-ne0.true (c.u64_at-count.ensures ∙ none)))

pub returns-then-count-ne0-clause-steps : goal.returns-then-count-ne0-clause-steps
returns-then-count-ne0-clause-steps c = refl

pub returns-then-not-is_optional-clause-ok : goal.returns-then-not-is_optional-clause-ok
returns-then-not-is_optional-clause-ok c = tt

pub returns-then-not-is_optional-clause-fine : goal.returns-then-not-is_optional-clause-fine
returns-then-not-is_optional-clause-fine c inside few = tt

pub returns-then-not-is_optional-clause-fault_is_true : goal.returns-then-not-is_optional-clause-fault_is_true
returns-then-not-is_optional-clause-fault_is_true c = (refl, sym (ap is_optional c.entry-e.ensures.value) ∙ sym c.is_optional.ensures ∙ c.if-not-is_optional.true, (c.is_absent.ensures.0 c.if-not-is_absent.false))

pub returns-then-not-is_optional-clause-steps : goal.returns-then-not-is_optional-clause-steps
returns-then-not-is_optional-clause-steps c = refl

pub returns-then-not-is_present-clause-fine : goal.returns-then-not-is_present-clause-fine
returns-then-not-is_present-clause-fine c inside few = tt

pub returns-then-not-is_present-clause-fault_is_true : goal.returns-then-not-is_present-clause-fault_is_true
returns-then-not-is_present-clause-fault_is_true c = tt

pub returns-then-not-is_present-clause-steps : goal.returns-then-not-is_present-clause-steps
returns-then-not-is_present-clause-steps c = refl

pub returns-then-count-rest-clause-ok : goal.returns-then-count-rest-clause-ok
returns-then-count-rest-clause-ok c = tt

pub returns-then-count-rest-clause-fine : goal.returns-then-count-rest-clause-fine
returns-then-count-rest-clause-fine c inside few = tt

pub returns-then-count-rest-clause-steps : goal.returns-then-count-rest-clause-steps
returns-then-count-rest-clause-steps c = refl

pub returns-then-used-rest-clause-ok : goal.returns-then-used-rest-clause-ok
returns-then-used-rest-clause-ok c = tt

pub returns-then-used-rest-clause-fine : goal.returns-then-used-rest-clause-fine
returns-then-used-rest-clause-fine c inside few = tt

pub returns-then-used-rest-clause-fault_is_true : goal.returns-then-used-rest-clause-fault_is_true
returns-then-used-rest-clause-fault_is_true c =
    let t = c.args.self.now.table.now in
    let d = entry_at t c.args.entry in
    let element : c.entry-element.result ≡ entry_at t d.first = c.entry-element.ensures.value ∙ ap (λ (d : Entry). entry_at t d.first) c.entry-e.ensures.value in
    let used : c.entry-element.result.size * c.u64_at-count.result ≡ (entry_at t d.first).size * count_at c.args.self.now.bytes.value.came c.args.place = λ i. (element i).size * c.u64_at-count.ensures i in
    (refl, inr ((c.is_present.ensures.0 c.if-not-is_present.false), subst (λ k. length c.args.self.now.bytes.value.came - c.args.state.now.next < k) used (size_short c.args.self.now.sized _ _ c.if-used-rest.true)))

pub returns-then-used-rest-clause-steps : goal.returns-then-used-rest-clause-steps
returns-then-used-rest-clause-steps c = refl

pub returns-then-count-e-clause-ok : goal.returns-then-count-e-clause-ok
returns-then-count-e-clause-ok c = tt

pub returns-then-count-e-clause-fine : goal.returns-then-count-e-clause-fine
returns-then-count-e-clause-fine c inside few = tt

pub returns-then-count-e-clause-fault_is_true : goal.returns-then-count-e-clause-fault_is_true
returns-then-count-e-clause-fault_is_true c =
    let bound = ap (λ (d : Entry). d.bound) c.entry-e.ensures.value in
    (refl, (c.is_present.ensures.0 c.if-not-is_present.false), omega (arith, bound, c.u64_at-count.ensures, c.if-count-e.true))

pub returns-then-count-e-clause-steps : goal.returns-then-count-e-clause-steps
returns-then-count-e-clause-steps c = refl

pub returns-then-depth-eq-MAX_DEPTH-clause-ok : goal.returns-then-depth-eq-MAX_DEPTH-clause-ok
returns-then-depth-eq-MAX_DEPTH-clause-ok c = tt

pub returns-then-depth-eq-MAX_DEPTH-clause-fine : goal.returns-then-depth-eq-MAX_DEPTH-clause-fine
returns-then-depth-eq-MAX_DEPTH-clause-fine c inside few = tt

pub returns-then-depth-eq-MAX_DEPTH-clause-fault_is_true : goal.returns-then-depth-eq-MAX_DEPTH-clause-fault_is_true
returns-then-depth-eq-MAX_DEPTH-clause-fault_is_true c = (refl, (c.is_present.ensures.0 c.if-not-is_present.false), omega (arith, c.if-depth-eq-MAX_DEPTH.true))

pub returns-then-depth-eq-MAX_DEPTH-clause-steps : goal.returns-then-depth-eq-MAX_DEPTH-clause-steps
returns-then-depth-eq-MAX_DEPTH-clause-steps c = refl

pub returns-then-size-rest-clause-ok : goal.returns-then-size-rest-clause-ok
returns-then-size-rest-clause-ok c = tt

pub returns-then-size-rest-clause-fine : goal.returns-then-size-rest-clause-fine
returns-then-size-rest-clause-fine c inside few = tt

pub returns-then-size-rest-clause-fault_is_true : goal.returns-then-size-rest-clause-fault_is_true
returns-then-size-rest-clause-fault_is_true c =
    let t = c.args.self.now.table.now in
    let d = entry_at t c.args.entry in
    let element : c.entry-element.result ≡ entry_at t d.first = c.entry-element.ensures.value ∙ ap (λ (d : Entry). entry_at t d.first) c.entry-e.ensures.value in
    let used : c.entry-element.result.size * c.u64_at-count.result ≡ (entry_at t d.first).size * count_at c.args.self.now.bytes.value.came c.args.place = λ i. (element i).size * c.u64_at-count.ensures i in
    let value = c.next_multiple_of-size.ensures.value ∙ ap (λ k. next_multiple_of k 8) used in
    (refl, (c.is_present.ensures.0 c.if-not-is_present.false), subst (λ k. length c.args.self.now.bytes.value.came - c.args.state.now.next < k) value (size_short c.args.self.now.sized _ _ c.if-size-rest.true))

pub returns-then-size-rest-clause-steps : goal.returns-then-size-rest-clause-steps
returns-then-size-rest-clause-steps c = refl

pub returns-clause-fault_is_true : goal.returns-clause-fault_is_true
returns-clause-fault_is_true c = tt

pub returns-clause-steps : goal.returns-clause-steps
returns-clause-steps c = refl

pub entry-e-requires : goal.entry-e-requires
entry-e-requires c = c.requires.entry

pub u64_at-count-requires : goal.u64_at-count-requires
u64_at-count-requires c = record { holds = c.requires.holds; room = front c.args.place 8 8 (length c.args.self.now.bytes.value.came) c.requires.room; free = first_free (message c.args.self.now) (at_of c.args.state.now) c.args.place c.requires.ready }

pub overflow_add-place : goal.overflow_add-place
overflow_add-place c = record { fits = small _ (length c.args.self.now.bytes.value.came) (front c.args.place 8 8 (length c.args.self.now.bytes.value.came) c.requires.room) c.args.self.now.short }

pub overflow_add-place-then-not-is_present : goal.overflow_add-place-then-not-is_present
overflow_add-place-then-not-is_present c = record { fits = small _ (length c.args.self.now.bytes.value.came) (front c.args.place 8 8 (length c.args.self.now.bytes.value.came) c.requires.room) c.args.self.now.short }

pub is_present-requires : goal.is_present-requires
is_present-requires c = record { holds = c.requires.holds; room = apart c.args.place 8 8 (length c.args.self.now.bytes.value.came) c.requires.room; free = last_free (message c.args.self.now) (at_of c.args.state.now) c.args.place c.requires.ready }

pub is_absent-requires : goal.is_absent-requires
is_absent-requires c = record { holds = c.requires.holds; room = apart c.args.place 8 8 (length c.args.self.now.bytes.value.came) c.requires.room; free = last_free (message c.args.self.now) (at_of c.args.state.now) c.args.place c.requires.ready }

pub overflow_add-result : goal.overflow_add-result
overflow_add-result c = record { fits = small _ (length c.args.self.now.bytes.value.came) (front c.args.place 8 8 (length c.args.self.now.bytes.value.came) c.requires.room) c.args.self.now.short }

pub is_optional-requires : goal.is_optional-requires
is_optional-requires c = tt

pub overflow_sub-rest : goal.overflow_sub-rest
overflow_sub-rest c = size_room c.args.self.now.sized _ c.requires.state.next

pub next_multiple_of-size-requires-clause-nonzero : goal.next_multiple_of-size-requires-clause-nonzero
next_multiple_of-size-requires-clause-nonzero c = some_8

pub overflow_add-place-2 : goal.overflow_add-place-2
overflow_add-place-2 c = record { fits = small _ (length c.args.self.now.bytes.value.came) (front c.args.place 8 8 (length c.args.self.now.bytes.value.came) c.requires.room) c.args.self.now.short }

pub overflow_add-state : goal.overflow_add-state
overflow_add-state c = record { fits = small _ (length c.args.self.now.bytes.value.came) (ended c.args.state.now.next c.next_multiple_of-size.result (length c.args.self.now.bytes.value.came) c.requires.state.next (size_fits c.args.self.now.sized _ _ c.if-size-rest.false)) c.args.self.now.short }

pub overflow_add-result-3 : goal.overflow_add-result-3
overflow_add-result-3 c = record { fits = deeper c.args.depth c.requires.depth }

pub link_marker-requires : goal.link_marker-requires
link_marker-requires c =
    let x = marker_at c.args.state.now.links (message c.args.self.now) c.requires.holds c.args.state.now.next c.args.state.now.handle c.requires.state.next c.args.self.now.short
    c.args.place 16 (c.args.place + 8) c.requires.ready.1 (omega (arith, c.requires.ready.2)) (omega arith) (omega arith) (c.is_present.ensures.0 c.if-not-is_present.false) in
    record { aligned = x.aligned; within = x.within; present = x.present; some = x.some; few = x.few; free = x.free }
