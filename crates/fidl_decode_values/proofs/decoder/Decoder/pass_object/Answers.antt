use Rattle.fidl_decode_values.specs.Reading.{message}
use Rattle.fidl_decode_values.proofs.Fitting.{small, ended, counted_on, some_8, size_in, le_more, pays_whole}
use Rattle.fidl_decode_values.proofs.Unchanged.{no_true, no_false, not_err, same_le, size_fits, size_room}
use Rattle.std.proofs.Common.{◌≡◌, ◌+◌, ◌-◌, ◌<◌, ◌^◌, ℕ, get_or, refl, sym, ap, subst, ◌∙◌, arith, length}
use Rattle.std.specs.Int.{next_multiple_of, w64}
use Rattle.fidl_wire.specs.Encoding.{zeros}
use Rattle.fidl_wire.specs.Standing.{Stands}
use Rattle.fidl_wire.specs.Field.{number_at}
use Rattle.fidl_table_format.specs.Section.{entry_at}
use Rattle.fidl_decode_model.specs.State.{Position, opened, linked}
use Rattle.fidl_decode_model.specs.Machine.{at_of}
use Rattle.fidl_decode_values.proofs.Freely.{rows_within, struct_passed}
use Rattle.fidl_decode_values.proofs.Words.{counted_small, handles_none, flags_none}
use Rattle.fidl_decode_values.proofs.ReadyPlaces.{ahead_part}
use Rattle.fidl_decode_values.proofs.Linking.{outside_at}
use Rattle.fidl_decode_values.proofs.decoder.Decoder.pass_object.Goals as goal

pub overflow_add-next : goal.overflow_add-next
overflow_add-next c =
    let t = c.args.self.now.table.now in
    let m = message c.args.self.now in
    let old = at_of c.args.state.now in
    let d = entry_at t c.args.known.now.entry in
    let known = c.requires.known in
    let whole : c.next_multiple_of-whole.result ≡ next_multiple_of d.size 8 = c.next_multiple_of-whole.ensures.value ∙ ap (λ n. next_multiple_of n 8) (sym known.size) in
    let done = c.args.known.now.done in
    let rows = d.count in
    let first = d.first + d.count in
    let passes = known.passes in
    let within = rows_within t c.args.self.now.fine m (c.args.self.now.short, c.requires.state.few) c.args.depth c.args.known.now.entry c.args.envelope old c.requires.known.entry c.requires.room (λ i. omega (arith, c.args.self.now.octets i)) c.requires.state c.requires.depth c.requires.known.is
    (omega (arith, c.requires.depth, c.if-depth-eq-MAX_DEPTH.false)) (omega (arith, (size_fits c.args.self.now.sized _ _ c.if-whole-self.false), whole)) rows first done passes in
    record { fits = omega (arith, within, (size_fits c.args.self.now.sized _ _ c.if-whole-self.false), c.next_multiple_of-whole.ensures.lower_bound, known.size, c.args.self.now.short, c.requires.state.next) }

pub zeros_at-requires-clause-order : goal.zeros_at-requires-clause-order
zeros_at-requires-clause-order c =
    let t = c.args.self.now.table.now in
    let m = message c.args.self.now in
    let old = at_of c.args.state.now in
    let d = entry_at t c.args.known.now.entry in
    let known = c.requires.known in
    let whole : c.next_multiple_of-whole.result ≡ next_multiple_of d.size 8 = c.next_multiple_of-whole.ensures.value ∙ ap (λ n. next_multiple_of n 8) (sym known.size) in
    let done = c.args.known.now.done in
    let rows = d.count in
    let first = d.first + d.count in
    let passes = known.passes in
    let within = rows_within t c.args.self.now.fine m (c.args.self.now.short, c.requires.state.few) c.args.depth c.args.known.now.entry c.args.envelope old c.requires.known.entry c.requires.room (λ i. omega (arith, c.args.self.now.octets i)) c.requires.state c.requires.depth c.requires.known.is
    (omega (arith, c.requires.depth, c.if-depth-eq-MAX_DEPTH.false)) (omega (arith, (size_fits c.args.self.now.sized _ _ c.if-whole-self.false), whole)) rows first done passes in
    omega (arith, within, c.next_multiple_of-whole.ensures.lower_bound, known.size)

pub returns-clause-passed : goal.returns-clause-passed
returns-clause-passed c =
    λ so.
    let t = c.args.self.now.table.now in
    let m = message c.args.self.now in
    let old = at_of c.args.state.now in
    let d = entry_at t c.args.known.now.entry in
    let known = c.requires.known in
    let whole : c.next_multiple_of-whole.result ≡ next_multiple_of d.size 8 = c.next_multiple_of-whole.ensures.value ∙ ap (λ n. next_multiple_of n 8) (sym known.size) in
    let done = c.args.known.now.done in
    let rows = d.count in
    let first = d.first + d.count in
    let passes = known.passes in
    let within = rows_within t c.args.self.now.fine m (c.args.self.now.short, c.requires.state.few) c.args.depth c.args.known.now.entry c.args.envelope old c.requires.known.entry c.requires.room (λ i. omega (arith, c.args.self.now.octets i)) c.requires.state c.requires.depth c.requires.known.is
    (omega (arith, c.requires.depth, c.if-depth-eq-MAX_DEPTH.false)) (omega (arith, (size_fits c.args.self.now.sized _ _ c.if-whole-self.false), whole)) rows first done passes in
    let wide = known.wide in
    let small = c.next_multiple_of-whole.result in
    let is_small = sym c.u64_at.ensures ∙ c.if-u64_at-whole.false in
    let few : number_at w64 m.bytes c.args.envelope < 2 ^ 32 = omega (arith, is_small, (size_fits c.args.self.now.sized _ _ c.if-whole-self.false), c.args.self.now.short) in
    let octets : (i : ℕ) → get_or m.bytes i 0 < 256 = λ i. omega (arith, c.args.self.now.octets i) in
    let z = not_err c.zeros_at.result (sym c.is_err.ensures.value ∙ c.if-is_err.false) c.zeros_at.ensures.ok in
    let z' = subst (λ n. Stands m.bytes (old.next + done) (zeros (old.next + n - (old.next + done)))) whole z in
    let new : Position = record { next = old.next + small; handle = old.handle; objects = c.link_outside.new.self.objects; records = c.link_outside.new.self.records } in
    let objects = c.link_outside.ensures.objects in
    let records = c.link_outside.ensures.records in
    let led : linked c.args.envelope d.size (opened c.args.envelope old) ≡ new
    = λ i. record { next = old.next + sym whole i; handle = old.handle; objects = sym objects i; records = sym records i } in
    struct_passed t c.args.self.now.fine m (c.args.self.now.short, c.requires.state.few) c.args.depth c.args.known.now.entry c.args.envelope old c.requires.known.entry c.requires.room (λ i. omega (arith, c.args.self.now.octets i)) c.requires.state c.requires.depth c.requires.known.is
    (omega (arith, c.requires.depth, c.if-depth-eq-MAX_DEPTH.false)) (omega (arith, (size_fits c.args.self.now.sized _ _ c.if-whole-self.false), whole)) rows first done passes
    (omega (arith, c.if-size-le4.false, known.size)) (flags_none m.bytes c.args.envelope c.requires.room octets few)
    (counted_small m.bytes c.args.envelope c.requires.room octets few ∙ is_small ∙ whole)
    (handles_none m.bytes c.args.envelope c.requires.room octets few) z' new led _
    (omega (arith, wide, within, c.next_multiple_of-whole.ensures.lower_bound, known.size))

pub overflow_cast-size : goal.overflow_cast-size
overflow_cast-size c = record { fits = omega arith }

pub next_multiple_of-whole-requires-clause-fits : goal.next_multiple_of-whole-requires-clause-fits
next_multiple_of-whole-requires-clause-fits c = omega arith

pub returns-then-u64_at-whole-clause-passed : goal.returns-then-u64_at-whole-clause-passed
returns-then-u64_at-whole-clause-passed c so = absurd (no_true so)

pub returns-then-u64_at-whole-clause-kept : goal.returns-then-u64_at-whole-clause-kept
returns-then-u64_at-whole-clause-kept c kept = refl

pub returns-then-u64_at-whole-clause-grows : goal.returns-then-u64_at-whole-clause-grows
returns-then-u64_at-whole-clause-grows c = same_le _

pub returns-then-u64_at-whole-clause-pays : goal.returns-then-u64_at-whole-clause-pays
returns-then-u64_at-whole-clause-pays c = same_le _

pub returns-then-whole-self-clause-passed : goal.returns-then-whole-self-clause-passed
returns-then-whole-self-clause-passed c so = absurd (no_true so)

pub returns-then-whole-self-clause-kept : goal.returns-then-whole-self-clause-kept
returns-then-whole-self-clause-kept c kept = refl

pub returns-then-whole-self-clause-grows : goal.returns-then-whole-self-clause-grows
returns-then-whole-self-clause-grows c = same_le _

pub returns-then-whole-self-clause-pays : goal.returns-then-whole-self-clause-pays
returns-then-whole-self-clause-pays c = same_le _

pub returns-then-is_err-clause-passed : goal.returns-then-is_err-clause-passed
returns-then-is_err-clause-passed c so = absurd (no_true so)

pub returns-then-is_err-clause-kept : goal.returns-then-is_err-clause-kept
returns-then-is_err-clause-kept c kept = refl

pub returns-then-is_err-clause-grows : goal.returns-then-is_err-clause-grows
returns-then-is_err-clause-grows c = same_le _

pub returns-then-is_err-clause-pays : goal.returns-then-is_err-clause-pays
returns-then-is_err-clause-pays c = same_le _

pub returns-clause-kept : goal.returns-clause-kept
returns-clause-kept c not = absurd (no_false not)

pub next_multiple_of-whole-requires-clause-nonzero : goal.next_multiple_of-whole-requires-clause-nonzero
next_multiple_of-whole-requires-clause-nonzero c = some_8

pub u64_at-requires : goal.u64_at-requires
u64_at-requires c = record { holds = c.requires.holds; room = c.requires.room; free = c.requires.ready.1.free }

pub overflow_sub-self : goal.overflow_sub-self
overflow_sub-self c = size_room c.args.self.now.sized _ c.requires.state.next

pub overflow_add-next-2 : goal.overflow_add-next-2
overflow_add-next-2 c = record { fits = small _ (length c.args.self.now.bytes.value.came) (ended c.args.state.now.next c.next_multiple_of-whole.result (length c.args.self.now.bytes.value.came) c.requires.state.next (size_fits c.args.self.now.sized _ _ c.if-whole-self.false)) c.args.self.now.short }

pub zeros_at-requires-clause-room : goal.zeros_at-requires-clause-room
zeros_at-requires-clause-room c = (ended c.args.state.now.next c.next_multiple_of-whole.result (length c.args.self.now.bytes.value.came) c.requires.state.next (size_fits c.args.self.now.sized _ _ c.if-whole-self.false))

pub overflow_add-state : goal.overflow_add-state
overflow_add-state c = record {
  fits = counted_on c.args.state.now.steps c.next_multiple_of-whole.result (length c.args.self.now.bytes.value.came)
      c.requires.budget (size_in c.args.state.now.next c.next_multiple_of-whole.result (length c.args.self.now.bytes.value.came)
      (ended c.args.state.now.next c.next_multiple_of-whole.result (length c.args.self.now.bytes.value.came) c.requires.state.next
      (size_fits c.args.self.now.sized _ _ c.if-whole-self.false))) c.args.self.now.short;
}

pub overflow_add-state-2 : goal.overflow_add-state-2
overflow_add-state-2 c = record { fits = small _ (length c.args.self.now.bytes.value.came) (ended c.args.state.now.next c.next_multiple_of-whole.result (length c.args.self.now.bytes.value.came) c.requires.state.next (size_fits c.args.self.now.sized _ _ c.if-whole-self.false)) c.args.self.now.short }

pub returns-clause-grows : goal.returns-clause-grows
returns-clause-grows c = le_more _ _

pub returns-clause-pays : goal.returns-clause-pays
returns-clause-pays c = pays_whole c.args.state.now.steps c.args.state.now.next c.next_multiple_of-whole.result

pub zeros_at-requires-clause-free : goal.zeros_at-requires-clause-free
zeros_at-requires-clause-free c =
    let m = message c.args.self.now in
    ahead_part m (at_of c.args.state.now) _ _ c.requires.ready.0 (le_more _ _)
    (ended c.args.state.now.next c.next_multiple_of-whole.result (length m.bytes) c.requires.state.next (size_fits c.args.self.now.sized _ _ c.if-whole-self.false))

pub link_outside-requires : goal.link_outside-requires
link_outside-requires c =
    let bytes = c.args.self.now.bytes.value.came in
    let p = c.args.envelope in
    let small : (i : ℕ) → get_or bytes i 0 < 256 = λ i. omega (arith, c.args.self.now.octets i) in
    let is_small = sym c.u64_at.ensures ∙ c.if-u64_at-whole.false in
    let fits = size_fits c.args.self.now.sized _ _ c.if-whole-self.false in
    let few : number_at w64 bytes p < 2 ^ 32 = omega (arith, is_small, fits, c.args.self.now.short) in
    let counted = counted_small bytes p c.requires.room small few in
    let x = outside_at c.args.state.now.links (message c.args.self.now) c.requires.holds c.args.state.now.next c.args.state.now.handle c.requires.state.next c.args.self.now.short
    c.args.envelope c.requires.ready.0 c.requires.ready.1 c.requires.ready.2 c.requires.state.handle c.requires.state.few
    (flags_none bytes p c.requires.room small few)
    (omega (arith, counted, is_small, c.next_multiple_of-whole.ensures.value))
    (omega (arith, counted, is_small, fits, c.args.self.now.short))
    (omega (arith, handles_none bytes p c.requires.room small few)) in
    record { aligned = x.aligned; within = x.within; flags = x.flags; eights = x.eights; short = x.short; handles = x.handles; object = x.object; some = x.some; few = x.few; first = x.first; free = x.free }
