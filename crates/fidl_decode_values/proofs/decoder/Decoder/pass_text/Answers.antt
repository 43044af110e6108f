use Rattle.fidl_decode_values.proofs.Fitting.{front, apart, small, deeper_64, counted_on, some_8, rounded_left, counted_front, counted_whole, part_room, part_order, size_in, le_more, pays_text}
use Rattle.fidl_decode_values.proofs.Unchanged.{no_true, no_false, not_err, same_le, size_fits, size_room}
use Rattle.std.proofs.Common.{◌≡◌, ◌+◌, ◌-◌, ◌/◌, ◌<◌, ◌≤◌, ◌^◌, ℕ, List, length, get_or, slice_set, sym, ap, subst, ◌∙◌, arith, refl}
use Rattle.std.specs.Int.{next_multiple_of, w64}
use Rattle.fidl_wire.specs.Encoding.{zeros}
use Rattle.fidl_wire.specs.Standing.{Stands}
use Rattle.fidl_wire.proofs.Sizes.{le-next_multiple_of}
use Rattle.fidl_table_format.specs.declared.kind.EntryKind.TheVariants.{String}
use Rattle.fidl_table_format.specs.declared.record.Entry.{Entry}
use Rattle.fidl_wire.specs.Field.{number_at}
use Rattle.fidl_table_format.specs.Section.{entry_at}
use Rattle.fidl_decode_model.specs.Faults.{message_of}
use Rattle.fidl_decode_model.specs.State.{Position, opened, linked}
use Rattle.fidl_decode_model.specs.Machine.{at_of}
use Rattle.fidl_decode_model.proofs.Visiting.{size_as}
use Rattle.fidl_decode_values.proofs.Words.{counted_small, handles_none, flags_none}
use Rattle.fidl_decode_values.proofs.TextMember.{text_passed}
use Rattle.fidl_decode_values.proofs.ReadyPlaces.{ahead_part, le_two}
use Rattle.fidl_decode_values.specs.Reading.{message}
use Rattle.fidl_decode_values.proofs.Linking.{outside_at, word_behind}
use Rattle.fidl_decode_values.proofs.decoder.Decoder.pass_text.Goals as goal

pub returns-clause-passed : goal.returns-clause-passed
returns-clause-passed c =
    λ so.
    let t = c.args.self.now.table.now in
    let bytes = c.args.self.now.bytes.value.came in
    let m = message_of bytes c.args.self.now.handles.now in
    let e = c.args.entry in
    let p = c.args.envelope in
    let old = at_of c.args.state.now in
    let from = old.next in
    let n = c.u64_at-count.result in
    let size = c.next_multiple_of-size.result in
    let small : (i : ℕ) → get_or bytes i 0 < 256 = λ i. omega (arith, c.args.self.now.octets i) in
    let value : size ≡ next_multiple_of n 8 = c.next_multiple_of-size.ensures.value in
    let sixteen : 16 ≡ (entry_at t e).size = size_as t c.args.self.now.fine e String c.requires.entry c.requires.kind in
    let wide : next_multiple_of (entry_at t e).size 8 ≡ 16 = ap (λ k. next_multiple_of k 8) (sym sixteen) in
    let within : from ≤ length bytes = c.requires.state.next in
    let counted : c.u64_at-counted.result ≡ 16 + size = omega (arith, c.if-counted-size.false) in
    let fits : from + 16 + size ≤ length bytes = omega (arith, (size_fits c.args.self.now.sized _ _ c.if-counted-rest.false), counted, within) in
    let few : number_at w64 bytes p < 2 ^ 32 = omega (arith, c.u64_at-counted.ensures, counted, fits, c.args.self.now.short) in
    let bound : n ≤ (entry_at t e).bound = omega (arith, c.if-count-bound.false, ap (λ (d : Entry). d.bound) c.entry-bound.ensures.value) in
    let room : from + 16 + next_multiple_of n 8 ≤ length bytes = omega (arith, fits, value) in
    let gap : from + 16 + size - (from + 16 + n) ≡ next_multiple_of n 8 - n = omega (arith, value) in
    let le = le-next_multiple_of n 8 in
    let objects = c.link_marker.ensures.objects ∙ ap (λ (l : List ℕ). slice_set l ((from + 8) / 8) (from + 16)) c.link_outside.ensures.objects
    ∙ ap (λ k. slice_set (slice_set old.objects (p / 8) from) ((from + 8) / 8) (from + k)) (sym wide) in
    let records = c.link_marker.ensures.records ∙ c.link_outside.ensures.records in
    let new : Position = record { next = from + 16 + size; handle = old.handle; objects = c.link_marker.new.self.objects; records = c.link_marker.new.self.records } in
    let led : linked (from + 8) n (linked p (entry_at t e).size (opened p old)) ≡ new = λ i. record { next = from + wide i + sym value i; handle = old.handle; objects = sym objects i; records = sym records i } in
    text_passed t c.args.self.now.fine m (c.args.self.now.short, c.requires.state.few) c.args.depth e p old c.requires.entry c.requires.room small c.requires.state c.requires.depth c.requires.kind
    (omega (arith, c.if-depth-ge-MAX_DEPTH.false)) n room (sym c.u64_at-count.ensures) bound (c.is_present.ensures.0 c.if-not-is_present.false)
    (λ k lt. c.are_ascii.ensures c.if-not-are_ascii.false k (omega (arith, lt, le, value))) (subst (λ k. Stands bytes (from + 16 + n) (zeros k)) gap (not_err c.padding_at.result (sym c.is_err.ensures.value ∙ c.if-is_err.false) c.padding_at.ensures.ok))
    (flags_none bytes p c.requires.room small few) (counted_small bytes p c.requires.room small few ∙ sym c.u64_at-counted.ensures ∙ omega (arith, counted, value)) (handles_none bytes p c.requires.room small few) new led _ (omega (arith, value))

pub entry-bound-requires : goal.entry-bound-requires
entry-bound-requires c = c.requires.entry

pub returns-then-counted-lt16-clause-passed : goal.returns-then-counted-lt16-clause-passed
returns-then-counted-lt16-clause-passed c so = absurd (no_true so)

pub returns-then-counted-lt16-clause-kept : goal.returns-then-counted-lt16-clause-kept
returns-then-counted-lt16-clause-kept c kept = refl

pub returns-then-counted-lt16-clause-grows : goal.returns-then-counted-lt16-clause-grows
returns-then-counted-lt16-clause-grows c = same_le _

pub returns-then-counted-lt16-clause-pays : goal.returns-then-counted-lt16-clause-pays
returns-then-counted-lt16-clause-pays c = same_le _

pub returns-then-count-bound-clause-passed : goal.returns-then-count-bound-clause-passed
returns-then-count-bound-clause-passed c so = absurd (no_true so)

pub returns-then-count-bound-clause-kept : goal.returns-then-count-bound-clause-kept
returns-then-count-bound-clause-kept c kept = refl

pub returns-then-count-bound-clause-grows : goal.returns-then-count-bound-clause-grows
returns-then-count-bound-clause-grows c = same_le _

pub returns-then-count-bound-clause-pays : goal.returns-then-count-bound-clause-pays
returns-then-count-bound-clause-pays c = same_le _

pub overflow_add-size : goal.overflow_add-size
overflow_add-size c = record { fits = omega arith }

pub returns-then-counted-size-clause-passed : goal.returns-then-counted-size-clause-passed
returns-then-counted-size-clause-passed c so = absurd (no_true so)

pub returns-then-counted-size-clause-kept : goal.returns-then-counted-size-clause-kept
returns-then-counted-size-clause-kept c kept = refl

pub returns-then-counted-size-clause-grows : goal.returns-then-counted-size-clause-grows
returns-then-counted-size-clause-grows c = same_le _

pub returns-then-counted-size-clause-pays : goal.returns-then-counted-size-clause-pays
returns-then-counted-size-clause-pays c = same_le _

pub are_ascii-requires-clause-eights : goal.are_ascii-requires-clause-eights
are_ascii-requires-clause-eights c = omega arith

pub returns-then-not-are_ascii-clause-passed : goal.returns-then-not-are_ascii-clause-passed
returns-then-not-are_ascii-clause-passed c so = absurd (no_true so)

pub returns-then-not-are_ascii-clause-kept : goal.returns-then-not-are_ascii-clause-kept
returns-then-not-are_ascii-clause-kept c kept = refl

pub returns-then-not-are_ascii-clause-grows : goal.returns-then-not-are_ascii-clause-grows
returns-then-not-are_ascii-clause-grows c = same_le _

pub returns-then-not-are_ascii-clause-pays : goal.returns-then-not-are_ascii-clause-pays
returns-then-not-are_ascii-clause-pays c = same_le _

pub returns-clause-kept : goal.returns-clause-kept
returns-clause-kept c not = absurd (no_false not)

pub u64_at-counted-requires : goal.u64_at-counted-requires
u64_at-counted-requires c = record { holds = c.requires.holds; room = c.requires.room; free = c.requires.ready.1.free }

pub overflow_sub-rest : goal.overflow_sub-rest
overflow_sub-rest c = size_room c.args.self.now.sized _ c.requires.state.next

pub overflow_add-depth : goal.overflow_add-depth
overflow_add-depth c = record { fits = deeper_64 c.args.depth c.requires.depth }

pub u64_at-count-requires : goal.u64_at-count-requires
u64_at-count-requires c =
    let m = message c.args.self.now in
    record {
      holds = c.requires.holds;
      room = front c.args.state.now.next 8 8 (length m.bytes) (counted_front c.args.state.now.next c.u64_at-counted.result (length m.bytes) c.if-counted-lt16.false (size_fits c.args.self.now.sized _ _ c.if-counted-rest.false));
      free = ahead_part m (at_of c.args.state.now) _ _ c.requires.ready.0 (same_le _)
          (front c.args.state.now.next 8 8 (length m.bytes) (counted_front c.args.state.now.next c.u64_at-counted.result (length m.bytes) c.if-counted-lt16.false (size_fits c.args.self.now.sized _ _ c.if-counted-rest.false)));
    }

pub overflow_add-next : goal.overflow_add-next
overflow_add-next c = record {
  fits = small _ (length c.args.self.now.bytes.value.came)
      (front c.args.state.now.next 8 8 (length c.args.self.now.bytes.value.came)
      (counted_front c.args.state.now.next c.u64_at-counted.result (length c.args.self.now.bytes.value.came) c.if-counted-lt16.false
      (size_fits c.args.self.now.sized _ _ c.if-counted-rest.false))) c.args.self.now.short;
}

pub is_present-requires : goal.is_present-requires
is_present-requires c =
    let m = message c.args.self.now in
    record {
      holds = c.requires.holds;
      room = apart c.args.state.now.next 8 8 (length m.bytes) (counted_front c.args.state.now.next c.u64_at-counted.result (length m.bytes) c.if-counted-lt16.false (size_fits c.args.self.now.sized _ _ c.if-counted-rest.false));
      free = ahead_part m (at_of c.args.state.now) _ _ c.requires.ready.0 (le_more _ _)
          (apart c.args.state.now.next 8 8 (length m.bytes) (counted_front c.args.state.now.next c.u64_at-counted.result (length m.bytes) c.if-counted-lt16.false (size_fits c.args.self.now.sized _ _ c.if-counted-rest.false)));
    }

pub next_multiple_of-size-requires-clause-nonzero : goal.next_multiple_of-size-requires-clause-nonzero
next_multiple_of-size-requires-clause-nonzero c = some_8

pub next_multiple_of-size-requires-clause-fits : goal.next_multiple_of-size-requires-clause-fits
next_multiple_of-size-requires-clause-fits c = rounded_left c.u64_at-count.result c.args.state.now.next (length c.args.self.now.bytes.value.came) (size_fits c.args.self.now.sized _ _ c.if-count-rest.false) c.args.self.now.short

pub overflow_add-from : goal.overflow_add-from
overflow_add-from c = record {
  fits = small _ (length c.args.self.now.bytes.value.came)
      (counted_front c.args.state.now.next c.u64_at-counted.result (length c.args.self.now.bytes.value.came) c.if-counted-lt16.false
      (size_fits c.args.self.now.sized _ _ c.if-counted-rest.false)) c.args.self.now.short;
}

pub are_ascii-requires-clause-room : goal.are_ascii-requires-clause-room
are_ascii-requires-clause-room c = (counted_whole c.args.state.now.next c.u64_at-counted.result c.next_multiple_of-size.result (length c.args.self.now.bytes.value.came) (size_fits c.args.self.now.sized _ _ c.if-counted-rest.false) c.if-counted-size.false)

pub overflow_add-from-2 : goal.overflow_add-from-2
overflow_add-from-2 c = record {
  fits = small _ (length c.args.self.now.bytes.value.came)
      (part_room (c.args.state.now.next + 16) c.u64_at-count.result c.next_multiple_of-size.result (length c.args.self.now.bytes.value.came)
      c.next_multiple_of-size.ensures.lower_bound (counted_whole c.args.state.now.next c.u64_at-counted.result c.next_multiple_of-size.result
      (length c.args.self.now.bytes.value.came) (size_fits c.args.self.now.sized _ _ c.if-counted-rest.false) c.if-counted-size.false))
      c.args.self.now.short;
}

pub overflow_add-from-3 : goal.overflow_add-from-3
overflow_add-from-3 c = record {
  fits = small _ (length c.args.self.now.bytes.value.came)
      (counted_whole c.args.state.now.next c.u64_at-counted.result c.next_multiple_of-size.result (length c.args.self.now.bytes.value.came)
      (size_fits c.args.self.now.sized _ _ c.if-counted-rest.false) c.if-counted-size.false) c.args.self.now.short;
}

pub padding_at-requires-clause-order : goal.padding_at-requires-clause-order
padding_at-requires-clause-order c = part_order (c.args.state.now.next + 16) c.u64_at-count.result c.next_multiple_of-size.result c.next_multiple_of-size.ensures.lower_bound

pub padding_at-requires-clause-room : goal.padding_at-requires-clause-room
padding_at-requires-clause-room c = (counted_whole c.args.state.now.next c.u64_at-counted.result c.next_multiple_of-size.result (length c.args.self.now.bytes.value.came) (size_fits c.args.self.now.sized _ _ c.if-counted-rest.false) c.if-counted-size.false)

pub overflow_add-state : goal.overflow_add-state
overflow_add-state c = record {
  fits = counted_on c.args.state.now.steps c.next_multiple_of-size.result (length c.args.self.now.bytes.value.came)
      c.requires.budget (size_in (c.args.state.now.next + 16) c.next_multiple_of-size.result (length c.args.self.now.bytes.value.came)
      (counted_whole c.args.state.now.next c.u64_at-counted.result c.next_multiple_of-size.result (length c.args.self.now.bytes.value.came)
      (size_fits c.args.self.now.sized _ _ c.if-counted-rest.false) c.if-counted-size.false)) c.args.self.now.short;
}

pub overflow_add-next-2 : goal.overflow_add-next-2
overflow_add-next-2 c = record {
  fits = small _ (length c.args.self.now.bytes.value.came)
      (front c.args.state.now.next 8 8 (length c.args.self.now.bytes.value.came)
      (counted_front c.args.state.now.next c.u64_at-counted.result (length c.args.self.now.bytes.value.came) c.if-counted-lt16.false
      (size_fits c.args.self.now.sized _ _ c.if-counted-rest.false))) c.args.self.now.short;
}

pub overflow_add-state-2 : goal.overflow_add-state-2
overflow_add-state-2 c = record {
  fits = small _ (length c.args.self.now.bytes.value.came)
      (counted_whole c.args.state.now.next c.u64_at-counted.result c.next_multiple_of-size.result (length c.args.self.now.bytes.value.came)
      (size_fits c.args.self.now.sized _ _ c.if-counted-rest.false) c.if-counted-size.false) c.args.self.now.short;
}

pub returns-clause-grows : goal.returns-clause-grows
returns-clause-grows c = le_more _ _

pub returns-clause-pays : goal.returns-clause-pays
returns-clause-pays c = pays_text c.args.state.now.steps c.args.state.now.next c.next_multiple_of-size.result

pub are_ascii-requires-clause-free : goal.are_ascii-requires-clause-free
are_ascii-requires-clause-free c =
    let m = message c.args.self.now in
    ahead_part m (at_of c.args.state.now) _ _ c.requires.ready.0 (le_more _ _)
    (counted_whole c.args.state.now.next c.u64_at-counted.result c.next_multiple_of-size.result (length m.bytes) (size_fits c.args.self.now.sized _ _ c.if-counted-rest.false) c.if-counted-size.false)

pub padding_at-requires-clause-free : goal.padding_at-requires-clause-free
padding_at-requires-clause-free c =
    let m = message c.args.self.now in
    ahead_part m (at_of c.args.state.now) _ _ c.requires.ready.0 (le_two _ _ _)
    (counted_whole c.args.state.now.next c.u64_at-counted.result c.next_multiple_of-size.result (length m.bytes) (size_fits c.args.self.now.sized _ _ c.if-counted-rest.false) c.if-counted-size.false)

pub link_outside-requires : goal.link_outside-requires
link_outside-requires c =
    let bytes = c.args.self.now.bytes.value.came in
    let p = c.args.envelope in
    let small : (i : ℕ) → get_or bytes i 0 < 256 = λ i. omega (arith, c.args.self.now.octets i) in
    let counted : c.u64_at-counted.result ≡ 16 + c.next_multiple_of-size.result = omega (arith, c.if-counted-size.false) in
    let fits = size_fits c.args.self.now.sized _ _ c.if-counted-rest.false in
    let few : number_at w64 bytes p < 2 ^ 32 = omega (arith, c.u64_at-counted.ensures, fits, c.args.self.now.short) in
    let is = counted_small bytes p c.requires.room small few in
    let x = outside_at c.args.state.now.links (message c.args.self.now) c.requires.holds c.args.state.now.next c.args.state.now.handle c.requires.state.next c.args.self.now.short
    c.args.envelope c.requires.ready.0 c.requires.ready.1 c.requires.ready.2 c.requires.state.handle c.requires.state.few
    (flags_none bytes p c.requires.room small few)
    (omega (arith, is, c.u64_at-counted.ensures, counted, c.next_multiple_of-size.ensures.value))
    (omega (arith, is, c.u64_at-counted.ensures, fits, c.args.self.now.short))
    (omega (arith, handles_none bytes p c.requires.room small few)) in
    record { aligned = x.aligned; within = x.within; flags = x.flags; eights = x.eights; short = x.short; handles = x.handles; object = x.object; some = x.some; few = x.few; first = x.first; free = x.free }

pub link_marker-requires-clause-free : goal.link_marker-requires-clause-free
link_marker-requires-clause-free c =
    let next = c.args.state.now.next in
    let front = c.requires.ready.1.before in
    let reach = size_fits c.args.self.now.sized _ _ c.if-counted-rest.false in
    let free = c.requires.ready.0.free in
    word_behind c.args.state.now.links c.link_outside.new.self c.args.envelope next _ (next + 8) c.link_outside.ensures.objects c.link_outside.ensures.records c.requires.ready.2 (omega (arith, front))
    (free (next + 8) (omega arith) (omega (arith, reach, c.if-counted-lt16.false)), free (next + 8 + 4) (omega arith) (omega (arith, reach, c.if-counted-lt16.false)))
