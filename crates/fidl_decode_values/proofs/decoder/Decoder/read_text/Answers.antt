use Rattle.fidl_decode_values.specs.Reading.{message}
use Rattle.fidl_decode_values.proofs.Fitting.{front, apart, small, ended, some_8, rounded_left, part_order, le_more, eq_le, spent_text, spends_any}
use Rattle.fidl_decode_values.proofs.Unchanged.{same_le, no_ok, clash, size_short, size_fits, size_room}
use Rattle.std.proofs.Common.{◌≡◌, ◌+◌, ◌-◌, sym, subst, ◌∙◌, arith, refl, ap, inl, inr, length, ◌<◌}
use Rattle.std.specs.Int.{next_multiple_of}
use Rattle.fidl_wire.specs.Term as ty
use Rattle.fidl_wire.specs.Encoding.{zeros}
use Rattle.fidl_wire.specs.Standing.{Stands}
use Rattle.fidl_wire.proofs.Sizes.{le-next_multiple_of}
use Rattle.fidl_table_format.specs.Terms.{declarations_of, is_optional}
use Rattle.fidl_decode_model.specs.State.{Position, linked}
use Rattle.fidl_decode_model.specs.Machine.{Leads, at_of}
use Rattle.fidl_decode_model.specs.Breaks.{count_at}
use Rattle.fidl_decode_model.proofs.Written.{absent_leads, text_leads, text_work}
use Rattle.fidl_decode_values.proofs.ReadyPlaces.{ahead_part, first_free, last_free}
use Rattle.fidl_decode_values.proofs.Linking.{marker_at}
use Rattle.fidl_decode_values.proofs.decoder.Decoder.read_text.Goals as goal

pub returns-then-not-is_present-clause-ok : goal.returns-then-not-is_present-clause-ok
returns-then-not-is_present-clause-ok c =
    let short = c.args.self.now.short in
    absent_leads (declarations_of c.args.self.now.table.now) (message c.args.self.now) (omega (arith, short)) c.args.depth
    (is_optional c.args.entry.now) c.args.entry.now.bound c.args.place (at_of c.args.state.now) c.requires.depth
    (sym c.is_optional.ensures ∙ c.if-not-is_optional.false) (c.is_absent.ensures.0 c.if-not-is_absent.false) (omega (arith, c.requires.room))
    (λ i. omega (arith, c.args.self.now.octets i)) (sym c.u64_at-count.ensures ∙ c.if-count-ne0.false)

pub returns-clause-ok : goal.returns-clause-ok
returns-clause-ok c =
    let short = c.args.self.now.short in
    let n = c.u64_at-count.result in
    let from = c.args.state.now.next in
    let value : c.next_multiple_of-size.result ≡ next_multiple_of n 8 = c.next_multiple_of-size.ensures.value in
    let within = c.requires.state.next in
    let gap : from + c.next_multiple_of-size.result - (from + n) ≡ next_multiple_of n 8 - n = omega (arith, value) in
    let same : linked (c.args.place + 8) n (at_of c.args.state.now) ≡ record { next = from + c.next_multiple_of-size.result; handle = c.args.state.now.handle; objects = c.link_marker.new.self.objects; records = c.link_marker.new.self.records }
    = λ i. record { next = from + sym value i; handle = c.args.state.now.handle; objects = sym c.link_marker.ensures.objects i; records = sym c.link_marker.ensures.records i } in
    subst (λ (s : Position). Leads (declarations_of c.args.self.now.table.now) (message c.args.self.now) c.args.depth (ty.string (is_optional c.args.entry.now) c.args.entry.now.bound) c.args.place (at_of c.args.state.now) s) same
    (text_leads (declarations_of c.args.self.now.table.now) (message c.args.self.now) (omega (arith, short)) c.args.depth
    (is_optional c.args.entry.now) c.args.entry.now.bound c.args.place (at_of c.args.state.now)
    (omega (arith, c.requires.depth, c.if-depth-eq-MAX_DEPTH.false)) (c.is_present.ensures.0 c.if-not-is_present.false)
    (omega (arith, c.requires.room)) (λ i. omega (arith, c.args.self.now.octets i)) n (sym c.u64_at-count.ensures)
    (omega (arith, c.if-count-entry.false)) (omega (arith, value, within, (size_fits c.args.self.now.sized _ _ c.if-size-rest.false)))
    (le-next_multiple_of n 8)
    (c.is_text.ensures.0 c.if-not-is_text.false) (subst (λ k. Stands c.args.self.now.bytes.value.came (from + n) (zeros k)) gap c.in_ok-padding_at.ensures.ok))

pub returns-then-not-is_absent-clause-ok : goal.returns-then-not-is_absent-clause-ok
returns-then-not-is_absent-clause-ok c = tt

pub returns-then-not-is_absent-clause-state : goal.returns-then-not-is_absent-clause-state
returns-then-not-is_absent-clause-state c = tt

pub returns-then-not-is_absent-clause-spent : goal.returns-then-not-is_absent-clause-spent
returns-then-not-is_absent-clause-spent c = tt

pub returns-then-not-is_absent-clause-spends : goal.returns-then-not-is_absent-clause-spends
returns-then-not-is_absent-clause-spends c = spends_any _ _ _ (same_le _) (le_more _ _)

pub returns-then-count-ne0-clause-ok : goal.returns-then-count-ne0-clause-ok
returns-then-count-ne0-clause-ok c = tt

pub returns-then-count-ne0-clause-state : goal.returns-then-count-ne0-clause-state
returns-then-count-ne0-clause-state c = tt

pub returns-then-count-ne0-clause-spent : goal.returns-then-count-ne0-clause-spent
returns-then-count-ne0-clause-spent c = tt

pub returns-then-count-ne0-clause-spends : goal.returns-then-count-ne0-clause-spends
returns-then-count-ne0-clause-spends c = spends_any _ _ _ (same_le _) (le_more _ _)

pub is_optional-requires : goal.is_optional-requires
is_optional-requires c = omega arith

pub returns-then-not-is_optional-clause-ok : goal.returns-then-not-is_optional-clause-ok
returns-then-not-is_optional-clause-ok c = tt

pub returns-then-not-is_optional-clause-state : goal.returns-then-not-is_optional-clause-state
returns-then-not-is_optional-clause-state c = tt

pub returns-then-not-is_optional-clause-spent : goal.returns-then-not-is_optional-clause-spent
returns-then-not-is_optional-clause-spent c = tt

pub returns-then-not-is_optional-clause-spends : goal.returns-then-not-is_optional-clause-spends
returns-then-not-is_optional-clause-spends c = spends_any _ _ _ (same_le _) (le_more _ _)

pub returns-then-not-is_present-clause-fault_is_true : goal.returns-then-not-is_present-clause-fault_is_true
returns-then-not-is_present-clause-fault_is_true c = tt

pub returns-then-not-is_present-clause-spent : goal.returns-then-not-is_present-clause-spent
returns-then-not-is_present-clause-spent c = refl

pub returns-then-not-is_present-clause-spends : goal.returns-then-not-is_present-clause-spends
returns-then-not-is_present-clause-spends c = spends_any _ _ _ (same_le _) (le_more _ _)

pub returns-then-count-rest-clause-ok : goal.returns-then-count-rest-clause-ok
returns-then-count-rest-clause-ok c = tt

pub returns-then-count-rest-clause-state : goal.returns-then-count-rest-clause-state
returns-then-count-rest-clause-state c = tt

pub returns-then-count-rest-clause-spent : goal.returns-then-count-rest-clause-spent
returns-then-count-rest-clause-spent c = tt

pub returns-then-count-rest-clause-spends : goal.returns-then-count-rest-clause-spends
returns-then-count-rest-clause-spends c = spends_any _ _ _ (same_le _) (le_more _ _)

pub returns-then-count-entry-clause-ok : goal.returns-then-count-entry-clause-ok
returns-then-count-entry-clause-ok c = tt

pub returns-then-count-entry-clause-state : goal.returns-then-count-entry-clause-state
returns-then-count-entry-clause-state c = tt

pub returns-then-count-entry-clause-spent : goal.returns-then-count-entry-clause-spent
returns-then-count-entry-clause-spent c = tt

pub returns-then-count-entry-clause-spends : goal.returns-then-count-entry-clause-spends
returns-then-count-entry-clause-spends c = spends_any _ _ _ (same_le _) (le_more _ _)

pub returns-then-depth-eq-MAX_DEPTH-clause-ok : goal.returns-then-depth-eq-MAX_DEPTH-clause-ok
returns-then-depth-eq-MAX_DEPTH-clause-ok c = tt

pub returns-then-depth-eq-MAX_DEPTH-clause-state : goal.returns-then-depth-eq-MAX_DEPTH-clause-state
returns-then-depth-eq-MAX_DEPTH-clause-state c = tt

pub returns-then-depth-eq-MAX_DEPTH-clause-spent : goal.returns-then-depth-eq-MAX_DEPTH-clause-spent
returns-then-depth-eq-MAX_DEPTH-clause-spent c = tt

pub returns-then-depth-eq-MAX_DEPTH-clause-spends : goal.returns-then-depth-eq-MAX_DEPTH-clause-spends
returns-then-depth-eq-MAX_DEPTH-clause-spends c = spends_any _ _ _ (same_le _) (le_more _ _)

pub returns-then-size-rest-clause-ok : goal.returns-then-size-rest-clause-ok
returns-then-size-rest-clause-ok c = tt

pub returns-then-size-rest-clause-state : goal.returns-then-size-rest-clause-state
returns-then-size-rest-clause-state c = tt

pub returns-then-size-rest-clause-spent : goal.returns-then-size-rest-clause-spent
returns-then-size-rest-clause-spent c = tt

pub returns-then-size-rest-clause-spends : goal.returns-then-size-rest-clause-spends
returns-then-size-rest-clause-spends c = spends_any _ _ _ (same_le _) (le_more _ _)

pub overflow_add-state : goal.overflow_add-state
overflow_add-state c = record { fits = omega arith }

pub is_text-requires-clause-eights : goal.is_text-requires-clause-eights
is_text-requires-clause-eights c = omega arith

pub is_text-requires-clause-within : goal.is_text-requires-clause-within
is_text-requires-clause-within c = c.next_multiple_of-size.ensures.lower_bound

pub is_text-requires-clause-room : goal.is_text-requires-clause-room
is_text-requires-clause-room c = ended c.args.state.now.next c.next_multiple_of-size.result (length c.args.self.now.bytes.value.came) c.requires.state.next (size_fits c.args.self.now.sized _ _ c.if-size-rest.false)

pub returns-then-not-is_text-clause-ok : goal.returns-then-not-is_text-clause-ok
returns-then-not-is_text-clause-ok c = tt

pub returns-then-not-is_text-clause-state : goal.returns-then-not-is_text-clause-state
returns-then-not-is_text-clause-state c = tt

pub returns-then-not-is_text-clause-spent : goal.returns-then-not-is_text-clause-spent
returns-then-not-is_text-clause-spent c = tt

pub overflow_add-from : goal.overflow_add-from
overflow_add-from c = record { fits = omega arith }

pub returns-clause-fault_is_true : goal.returns-clause-fault_is_true
returns-clause-fault_is_true c = tt

pub returns-in_err-padding_at-clause-ok : goal.returns-in_err-padding_at-clause-ok
returns-in_err-padding_at-clause-ok c = no_ok c.from_residual.result c.in_err-padding_at.field-0.0 _ c.from_residual.ensures.1

pub returns-in_err-padding_at-clause-state : goal.returns-in_err-padding_at-clause-state
returns-in_err-padding_at-clause-state c = no_ok c.from_residual.result c.in_err-padding_at.field-0.0 _ c.from_residual.ensures.1

pub returns-in_err-padding_at-clause-spent : goal.returns-in_err-padding_at-clause-spent
returns-in_err-padding_at-clause-spent c = no_ok c.from_residual.result c.in_err-padding_at.field-0.0 _ c.from_residual.ensures.1

pub returns-then-not-is_absent-clause-fault_is_true : goal.returns-then-not-is_absent-clause-fault_is_true
returns-then-not-is_absent-clause-fault_is_true c = (refl, λ z. clash (c.is_absent.ensures.1 z) c.if-not-is_absent.true, λ p. clash (c.is_present.ensures.1 p) c.if-not-is_present.true)

pub returns-then-count-ne0-clause-fault_is_true : goal.returns-then-count-ne0-clause-fault_is_true
returns-then-count-ne0-clause-fault_is_true c = (refl, inl (c.is_absent.ensures.0 c.if-not-is_absent.false, λ none. c.if-count-ne0.true (c.u64_at-count.ensures ∙ none)))

pub returns-then-not-is_optional-clause-fault_is_true : goal.returns-then-not-is_optional-clause-fault_is_true
returns-then-not-is_optional-clause-fault_is_true c = (refl, sym c.is_optional.ensures ∙ c.if-not-is_optional.true, c.is_absent.ensures.0 c.if-not-is_absent.false)

pub returns-then-not-is_present-clause-state : goal.returns-then-not-is_present-clause-state
returns-then-not-is_present-clause-state c = c.requires.state

pub returns-then-count-rest-clause-fault_is_true : goal.returns-then-count-rest-clause-fault_is_true
returns-then-count-rest-clause-fault_is_true c = (refl, inr (c.is_present.ensures.0 c.if-not-is_present.false, subst (λ n. length c.args.self.now.bytes.value.came - c.args.state.now.next < n) c.u64_at-count.ensures (size_short c.args.self.now.sized _ _ c.if-count-rest.true)))

pub returns-then-count-entry-clause-fault_is_true : goal.returns-then-count-entry-clause-fault_is_true
returns-then-count-entry-clause-fault_is_true c = (refl, c.is_present.ensures.0 c.if-not-is_present.false, subst (λ n. c.args.entry.now.bound < n) c.u64_at-count.ensures c.if-count-entry.true)

pub returns-then-depth-eq-MAX_DEPTH-clause-fault_is_true : goal.returns-then-depth-eq-MAX_DEPTH-clause-fault_is_true
returns-then-depth-eq-MAX_DEPTH-clause-fault_is_true c = (refl, c.is_present.ensures.0 c.if-not-is_present.false, eq_le _ _ c.if-depth-eq-MAX_DEPTH.true)

pub returns-then-size-rest-clause-fault_is_true : goal.returns-then-size-rest-clause-fault_is_true
returns-then-size-rest-clause-fault_is_true c = (
  refl,
  c.is_present.ensures.0 c.if-not-is_present.false,
  subst
      (λ n. length c.args.self.now.bytes.value.came - c.args.state.now.next < n)
      (c.next_multiple_of-size.ensures.value ∙ ap (λ k. next_multiple_of k 8) c.u64_at-count.ensures)
      (size_short c.args.self.now.sized _ _ c.if-size-rest.true),
)

pub returns-then-not-is_text-clause-spends : goal.returns-then-not-is_text-clause-spends
returns-then-not-is_text-clause-spends c = spends_any _ _ _ (le_more _ _) (part_order _ _ _ (size_fits c.args.self.now.sized _ _ c.if-size-rest.false))

pub returns-in_err-padding_at-clause-spends : goal.returns-in_err-padding_at-clause-spends
returns-in_err-padding_at-clause-spends c = spends_any _ _ _ (le_more _ _) (part_order _ _ _ (size_fits c.args.self.now.sized _ _ c.if-size-rest.false))

pub returns-clause-spent : goal.returns-clause-spent
returns-clause-spent c = spent_text _ _ _

pub returns-clause-spends : goal.returns-clause-spends
returns-clause-spends c = spends_any _ _ _ (le_more _ _) (part_order _ _ _ (size_fits c.args.self.now.sized _ _ c.if-size-rest.false))

pub u64_at-count-requires : goal.u64_at-count-requires
u64_at-count-requires c = record { holds = c.requires.holds; room = front c.args.place 8 8 (length c.args.self.now.bytes.value.came) c.requires.room; free = first_free (message c.args.self.now) (at_of c.args.state.now) c.args.place c.requires.ready }

pub overflow_add-place : goal.overflow_add-place
overflow_add-place c = record { fits = small _ (length c.args.self.now.bytes.value.came) (front c.args.place 8 8 (length c.args.self.now.bytes.value.came) c.requires.room) c.args.self.now.short }

pub overflow_add-place-then-not-is_present : goal.overflow_add-place-then-not-is_present
overflow_add-place-then-not-is_present c = record { fits = small _ (length c.args.self.now.bytes.value.came) (front c.args.place 8 8 (length c.args.self.now.bytes.value.came) c.requires.room) c.args.self.now.short }

pub overflow_add-result : goal.overflow_add-result
overflow_add-result c = record { fits = small _ (length c.args.self.now.bytes.value.came) (front c.args.place 8 8 (length c.args.self.now.bytes.value.came) c.requires.room) c.args.self.now.short }

pub overflow_sub-rest : goal.overflow_sub-rest
overflow_sub-rest c = size_room c.args.self.now.sized _ c.requires.state.next

pub is_present-requires : goal.is_present-requires
is_present-requires c = record { holds = c.requires.holds; room = apart c.args.place 8 8 (length c.args.self.now.bytes.value.came) c.requires.room; free = last_free (message c.args.self.now) (at_of c.args.state.now) c.args.place c.requires.ready }

pub is_absent-requires : goal.is_absent-requires
is_absent-requires c = record { holds = c.requires.holds; room = apart c.args.place 8 8 (length c.args.self.now.bytes.value.came) c.requires.room; free = last_free (message c.args.self.now) (at_of c.args.state.now) c.args.place c.requires.ready }

pub next_multiple_of-size-requires-clause-nonzero : goal.next_multiple_of-size-requires-clause-nonzero
next_multiple_of-size-requires-clause-nonzero c = some_8

pub next_multiple_of-size-requires-clause-fits : goal.next_multiple_of-size-requires-clause-fits
next_multiple_of-size-requires-clause-fits c = rounded_left c.u64_at-count.result c.args.state.now.next (length c.args.self.now.bytes.value.came) (size_fits c.args.self.now.sized _ _ c.if-count-rest.false) c.args.self.now.short

pub overflow_add-from-2 : goal.overflow_add-from-2
overflow_add-from-2 c = record { fits = small _ (length c.args.self.now.bytes.value.came) ((ended c.args.state.now.next c.next_multiple_of-size.result (length c.args.self.now.bytes.value.came) c.requires.state.next (size_fits c.args.self.now.sized _ _ c.if-size-rest.false))) c.args.self.now.short }

pub overflow_add-place-2 : goal.overflow_add-place-2
overflow_add-place-2 c = record { fits = small _ (length c.args.self.now.bytes.value.came) (front c.args.place 8 8 (length c.args.self.now.bytes.value.came) c.requires.room) c.args.self.now.short }

pub overflow_add-state-2 : goal.overflow_add-state-2
overflow_add-state-2 c = record { fits = small _ (length c.args.self.now.bytes.value.came) ((ended c.args.state.now.next c.next_multiple_of-size.result (length c.args.self.now.bytes.value.came) c.requires.state.next (size_fits c.args.self.now.sized _ _ c.if-size-rest.false))) c.args.self.now.short }

pub padding_at-requires-clause-order : goal.padding_at-requires-clause-order
padding_at-requires-clause-order c = part_order c.args.state.now.next c.u64_at-count.result c.next_multiple_of-size.result c.next_multiple_of-size.ensures.lower_bound

pub padding_at-requires-clause-room : goal.padding_at-requires-clause-room
padding_at-requires-clause-room c = (ended c.args.state.now.next c.next_multiple_of-size.result (length c.args.self.now.bytes.value.came) c.requires.state.next (size_fits c.args.self.now.sized _ _ c.if-size-rest.false))

pub returns-then-not-is_absent-clause-least : goal.returns-then-not-is_absent-clause-least
returns-then-not-is_absent-clause-least c = tt

pub returns-then-count-ne0-clause-least : goal.returns-then-count-ne0-clause-least
returns-then-count-ne0-clause-least c = tt

pub returns-then-not-is_optional-clause-least : goal.returns-then-not-is_optional-clause-least
returns-then-not-is_optional-clause-least c = tt

pub returns-then-count-rest-clause-least : goal.returns-then-count-rest-clause-least
returns-then-count-rest-clause-least c = tt

pub returns-then-count-entry-clause-least : goal.returns-then-count-entry-clause-least
returns-then-count-entry-clause-least c = tt

pub returns-then-depth-eq-MAX_DEPTH-clause-least : goal.returns-then-depth-eq-MAX_DEPTH-clause-least
returns-then-depth-eq-MAX_DEPTH-clause-least c = tt

pub returns-then-size-rest-clause-least : goal.returns-then-size-rest-clause-least
returns-then-size-rest-clause-least c = tt

pub returns-then-not-is_text-clause-least : goal.returns-then-not-is_text-clause-least
returns-then-not-is_text-clause-least c = tt

pub returns-in_err-padding_at-clause-least : goal.returns-in_err-padding_at-clause-least
returns-in_err-padding_at-clause-least c = no_ok c.from_residual.result c.in_err-padding_at.field-0.0 _ c.from_residual.ensures.1

pub returns-then-not-is_present-clause-least : goal.returns-then-not-is_present-clause-least
returns-then-not-is_present-clause-least c = λ to x.
    let short = c.args.self.now.short in
    let none : count_at c.args.self.now.bytes.value.came c.args.place ≡ 0 = sym c.u64_at-count.ensures ∙ c.if-count-ne0.false in
    omega (arith, none, text_work (declarations_of c.args.self.now.table.now) (message c.args.self.now) (omega (arith, short)) c.args.depth (is_optional c.args.entry.now) c.args.entry.now.bound c.args.place (at_of c.args.state.now) to x)

pub returns-clause-least : goal.returns-clause-least
returns-clause-least c = λ to x.
    let short = c.args.self.now.short in
    let counted : count_at c.args.self.now.bytes.value.came c.args.place ≡ c.u64_at-count.result = sym c.u64_at-count.ensures in
    omega (arith, counted, c.next_multiple_of-size.ensures.lower_bound, text_work (declarations_of c.args.self.now.table.now) (message c.args.self.now) (omega (arith, short)) c.args.depth (is_optional c.args.entry.now) c.args.entry.now.bound c.args.place (at_of c.args.state.now) to x)

pub is_text-requires-clause-free : goal.is_text-requires-clause-free
is_text-requires-clause-free c =
    let m = message c.args.self.now in
    ahead_part m (at_of c.args.state.now) _ _ c.requires.ready.0 (same_le _)
    (ended c.args.state.now.next c.next_multiple_of-size.result (length m.bytes) c.requires.state.next (size_fits c.args.self.now.sized _ _ c.if-size-rest.false))

pub padding_at-requires-clause-free : goal.padding_at-requires-clause-free
padding_at-requires-clause-free c =
    let m = message c.args.self.now in
    ahead_part m (at_of c.args.state.now) _ _ c.requires.ready.0 (le_more _ _)
    (ended c.args.state.now.next c.next_multiple_of-size.result (length m.bytes) c.requires.state.next (size_fits c.args.self.now.sized _ _ c.if-size-rest.false))

pub link_marker-requires : goal.link_marker-requires
link_marker-requires c =
    let x = marker_at c.args.state.now.links (message c.args.self.now) c.requires.holds c.args.state.now.next c.args.state.now.handle c.requires.state.next c.args.self.now.short
    c.args.place 16 (c.args.place + 8) c.requires.ready.1 (omega (arith, c.requires.ready.2)) (omega arith) (omega arith) (c.is_present.ensures.0 c.if-not-is_present.false) in
    record { aligned = x.aligned; within = x.within; present = x.present; some = x.some; few = x.few; free = x.free }
