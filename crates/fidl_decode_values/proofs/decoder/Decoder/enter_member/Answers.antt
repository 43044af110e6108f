use Rattle.fidl_decode_values.specs.Reading.{message}
use Rattle.fidl_decode_values.proofs.Unchanged.{size_short, size_fits, size_room}
use Rattle.fidl_decode_values.proofs.Fitting.{small, ended, deeper, some_8}
use Rattle.std.proofs.Common.{subst, ◌≡◌, ◌+◌, refl, sym, ap, ◌∙◌, arith, length, inl, inr}
use Rattle.std.specs.Int.{next_multiple_of}
use Rattle.fidl_table_format.specs.declared.record.Entry.{Entry}
use Rattle.fidl_table_format.specs.Section.{entry_at}
use Rattle.fidl_decode_model.specs.declared.fault.DecodeFault.TheVariants.{BadEnvelope, TooDeep, Truncated, WrongCounts}
use Rattle.fidl_decode_model.specs.declared.frame.Frame.{Frame}
use Rattle.fidl_decode_model.specs.declared.frame.Until.{Until}
use Rattle.fidl_decode_model.specs.declared.frame.Remaining.TheVariants.{Content}
use Rattle.fidl_decode_model.specs.State.{Position, opened, linked}
use Rattle.fidl_decode_model.specs.Machine.{at_of}
use Rattle.fidl_decode_model.proofs.Broken.{counts_within}
use Rattle.fidl_decode_values.proofs.Entered.{Enters, enters_inside_as, enters_below_as, numbers_refuse, not_inside, not_below, cut_off}
use Rattle.fidl_decode_values.proofs.decoder.Decoder.enter_member.Goals.{then-flags-ne0-via-then-flags-ne0, then-flags-ne0-via-else-flags-ne0+then-counted-eq0, then-flags-ne0-via-else-flags-ne0+else-counted-eq0+then-counted-ne0}
use Rattle.fidl_decode_values.proofs.decoder.Decoder.enter_member.Goals.{then-handles-gt-MAX_MESSAGE_HANDLES-2-via-then-handles-gt-MAX_MESSAGE_HANDLES-2, then-handles-gt-MAX_MESSAGE_HANDLES-2-via-else-handles-gt-MAX_MESSAGE_HANDLES-2+then-counted-gt-MAX_MESSAGE_BYTES}
use Rattle.fidl_decode_values.proofs.Linking.{inside_at}
use Rattle.fidl_decode_values.proofs.Linking.{outside_at}
use Rattle.fidl_decode_values.proofs.decoder.Decoder.enter_member.Goals as goal

pub content_frame-requires : goal.content_frame-requires
content_frame-requires c =
    let n = (c.args.self.now.fine.each c.args.entry c.requires.entry).1.nest in
    let nest = ap (λ (d : Entry). d.nest) c.entry-content.ensures.value in
    omega (arith, n, nest)

pub content_frame-requires-2 : goal.content_frame-requires-2
content_frame-requires-2 c =
    let n = (c.args.self.now.fine.each c.args.entry c.requires.entry).1.nest in
    let nest = ap (λ (d : Entry). d.nest) c.entry-content.ensures.value in
    omega (arith, n, nest)

pub returns-then-flags-ne1 : goal.returns-then-flags-ne1
returns-then-flags-ne1 c =
    let t = c.args.self.now.table.now in
    let m = message c.args.self.now in
    let old = at_of c.args.state.now in
    let size = ap (λ (d : Entry). d.size) c.entry-content.ensures.value in
    let r = numbers_refuse t c.args.self.now.fine m (c.args.self.now.short, c.requires.state.few) c.args.depth c.args.entry c.args.envelope old
    c.requires.entry c.requires.room (λ i. omega (arith, c.args.self.now.octets i)) c.requires.state c.requires.depth
    (BadEnvelope c.args.envelope) (
      refl,
      not_inside t c.args.self.now.fine m (c.args.self.now.short, c.requires.state.few) c.args.depth
          c.args.entry c.args.envelope old c.requires.entry c.requires.room (λ i. omega (arith, c.args.self.now.octets i)) c.requires.state
          c.requires.depth (omega (arith, size, c.if-size-le4.true)) (λ f. c.if-flags-ne1.true (c.flags_at-flags.ensures ∙ f)),
    ) in
    record { holds = c.requires.holds; ok = tt; breaks = tt; least = tt; moves = tt; fine = tt; deeper = tt; left = tt; state = c.requires.state; fault_is_true = r.0; steps = refl; grows = omega arith; work = tt }

pub returns-then-size-le4 : goal.returns-then-size-le4
returns-then-size-le4 c =
    let t = c.args.self.now.table.now in
    let m = message c.args.self.now in
    let old = at_of c.args.state.now in
    let size = ap (λ (d : Entry). d.size) c.entry-content.ensures.value in
    let led : opened c.args.envelope old ≡ record { next = old.next; handle = old.handle; objects = c.link_inside.new.self.objects; records = c.link_inside.new.self.records }
    = λ i. record { next = old.next; handle = old.handle; objects = sym c.link_inside.ensures.objects i; records = sym c.link_inside.ensures.records i } in
    let x = enters_inside_as t c.args.self.now.fine m (c.args.self.now.short, c.requires.state.few) c.args.depth c.args.entry c.args.envelope old
    c.requires.entry c.requires.room (λ i. omega (arith, c.args.self.now.octets i)) c.requires.state c.requires.depth c.entry-content.result
    c.handle_count_at-handles.result (record {
      next = old.next;
      handle = old.handle;
      objects = c.link_inside.new.self.objects;
      records =
          c.link_inside.new.self.records;
    }) c.entry-content.ensures.value c.handle_count_at-handles.ensures led c.if-size-le4.true
    (sym c.flags_at-flags.ensures ∙ c.if-flags-ne1.false) in
    let y = subst (λ (f : Frame). Enters t m c.args.depth c.args.entry c.args.envelope old (record { next = old.next; handle = old.handle; objects = c.link_inside.new.self.objects; records = c.link_inside.new.self.records }) f) (sym c.content_frame.ensures) x in
    let until : Until = record { envelope = c.args.envelope; next = old.next; handle = old.handle + c.handle_count_at-handles.result } in
    let left : c.content_frame.result.left ≡ Content c.args.entry (entry_at t c.args.entry).size 1 until = ap (λ (f : Frame). f.left) c.content_frame.ensures ∙ ap (λ n. Content c.args.entry n 1 until) size in
    record { holds = c.link_inside.ensures.came ∙ c.requires.holds; ok = y.same; breaks = y.breaks; least = y.least; moves = y.moves; fine = y.fine; deeper = y.deeper; left = (until, left); state = y.state; fault_is_true = tt; steps = refl; grows = omega arith; work = y.work }

pub returns-then-flags-ne0 : goal.returns-then-flags-ne0
returns-then-flags-ne0 c =
    let t = c.args.self.now.table.now in
    let m = message c.args.self.now in
    let old = at_of c.args.state.now in
    let size = ap (λ (d : Entry). d.size) c.entry-content.ensures.value in
    let r = numbers_refuse t c.args.self.now.fine m (c.args.self.now.short, c.requires.state.few) c.args.depth c.args.entry c.args.envelope old c.requires.entry c.requires.room (λ i. omega (arith, c.args.self.now.octets i)) c.requires.state c.requires.depth (BadEnvelope c.args.envelope) (
      refl,
      not_below t c.args.self.now.fine m (c.args.self.now.short, c.requires.state.few) c.args.depth c.args.entry c.args.envelope old c.requires.entry
          c.requires.room (λ i. omega (arith, c.args.self.now.octets i)) c.requires.state c.requires.depth (omega (arith, size, c.if-size-le4.false))
          (λ f u. elim c.then-flags-ne0.branch [
            | then-flags-ne0-via-then-flags-ne0 w ↦ w.if-flags-ne0.true (c.flags_at-flags.ensures ∙ f)
            | then-flags-ne0-via-else-flags-ne0+then-counted-eq0 w ↦ omega (arith, w.if-counted-eq0.true, c.byte_count_at-counted.ensures, u.0)
            | then-flags-ne0-via-else-flags-ne0+else-counted-eq0+then-counted-ne0 w ↦ omega (arith, w.if-counted-ne0.true, c.byte_count_at-counted.ensures, u.1)
          ]),
    ) in
    record { holds = c.requires.holds; ok = tt; breaks = tt; least = tt; moves = tt; fine = tt; deeper = tt; left = tt; state = c.requires.state; fault_is_true = r.0; steps = refl; grows = omega arith; work = tt }

pub returns-then-depth-eq-MAX_DEPTH : goal.returns-then-depth-eq-MAX_DEPTH
returns-then-depth-eq-MAX_DEPTH c =
    let t = c.args.self.now.table.now in
    let m = message c.args.self.now in
    let old = at_of c.args.state.now in
    let r = numbers_refuse t c.args.self.now.fine m (c.args.self.now.short, c.requires.state.few) c.args.depth c.args.entry c.args.envelope old
    c.requires.entry c.requires.room (λ i. omega (arith, c.args.self.now.octets i)) c.requires.state c.requires.depth (TooDeep c.args.envelope)
    (refl, sym c.flags_at-flags.ensures ∙ c.if-flags-ne0.false, omega (arith, c.if-depth-eq-MAX_DEPTH.true)) in
    record { holds = c.requires.holds; ok = tt; breaks = tt; least = tt; moves = tt; fine = tt; deeper = tt; left = tt; state = c.requires.state; fault_is_true = r.0; steps = refl; grows = omega arith; work = tt }

pub returns-then-whole-self : goal.returns-then-whole-self
returns-then-whole-self c =
    let t = c.args.self.now.table.now in
    let m = message c.args.self.now in
    let old = at_of c.args.state.now in
    let size = ap (λ (d : Entry). d.size) c.entry-content.ensures.value in
    let up = cut_off t c.args.self.now.fine m (c.args.self.now.short, c.requires.state.few) c.args.depth c.args.entry c.args.envelope old c.requires.entry c.requires.room (λ i. omega (arith, c.args.self.now.octets i)) c.requires.state c.requires.depth in
    let whole : c.next_multiple_of-whole.result ≡ next_multiple_of (entry_at t c.args.entry).size 8 = c.next_multiple_of-whole.ensures.value ∙ ap (λ k. next_multiple_of k 8) size in
    let r = numbers_refuse t c.args.self.now.fine m (c.args.self.now.short, c.requires.state.few) c.args.depth c.args.entry c.args.envelope old
    c.requires.entry c.requires.room (λ i. omega (arith, c.args.self.now.octets i)) c.requires.state c.requires.depth (Truncated old.next) (
      refl,
      sym c.flags_at-flags.ensures ∙ c.if-flags-ne0.false,
      omega (
        arith,
        (size_short c.args.self.now.sized _ _ c.if-whole-self.true),
        whole,
        up,
      ),
    ) in
    record { holds = c.requires.holds; ok = tt; breaks = tt; least = tt; moves = tt; fine = tt; deeper = tt; left = tt; state = c.requires.state; fault_is_true = r.0; steps = refl; grows = omega arith; work = tt }

pub returns-then-handles-gt-MAX_MESSAGE_HANDLES : goal.returns-then-handles-gt-MAX_MESSAGE_HANDLES
returns-then-handles-gt-MAX_MESSAGE_HANDLES c =
    let t = c.args.self.now.table.now in
    let m = message c.args.self.now in
    let old = at_of c.args.state.now in
    let r = numbers_refuse t c.args.self.now.fine m (c.args.self.now.short, c.requires.state.few) c.args.depth c.args.entry c.args.envelope old c.requires.entry c.requires.room (λ i. omega (arith, c.args.self.now.octets i)) c.requires.state c.requires.depth (WrongCounts c.args.envelope)
    (refl, inl (omega (arith, c.if-handles-gt-MAX_MESSAGE_HANDLES.true, c.handle_count_at-handles.ensures))) in
    record { holds = c.requires.holds; ok = tt; breaks = tt; least = tt; moves = tt; fine = tt; deeper = tt; left = tt; state = c.requires.state; fault_is_true = r.0; steps = refl; grows = omega arith; work = tt }

pub returns-then-handles-gt-MAX_MESSAGE_HANDLES-2 : goal.returns-then-handles-gt-MAX_MESSAGE_HANDLES-2
returns-then-handles-gt-MAX_MESSAGE_HANDLES-2 c =
    let t = c.args.self.now.table.now in
    let m = message c.args.self.now in
    let old = at_of c.args.state.now in
    let flags = sym c.flags_at-flags.ensures ∙ c.if-flags-ne0.false in
    let r = numbers_refuse t c.args.self.now.fine m (c.args.self.now.short, c.requires.state.few) c.args.depth c.args.entry c.args.envelope old c.requires.entry c.requires.room (λ i. omega (arith, c.args.self.now.octets i)) c.requires.state c.requires.depth (WrongCounts c.args.envelope) (
      refl,
      elim c.then-handles-gt-MAX_MESSAGE_HANDLES-2.branch [
        | then-handles-gt-MAX_MESSAGE_HANDLES-2-via-then-handles-gt-MAX_MESSAGE_HANDLES-2 w ↦ inl (omega (arith, w.if-handles-gt-MAX_MESSAGE_HANDLES-2.true, c.handle_count_at-handles.ensures))
        | then-handles-gt-MAX_MESSAGE_HANDLES-2-via-else-handles-gt-MAX_MESSAGE_HANDLES-2+then-counted-gt-MAX_MESSAGE_BYTES w ↦ inr (flags, omega (arith, w.if-counted-gt-MAX_MESSAGE_BYTES.true, c.byte_count_at-counted.ensures))
      ],
    ) in
    record { holds = c.requires.holds; ok = tt; breaks = tt; least = tt; moves = tt; fine = tt; deeper = tt; left = tt; state = c.requires.state; fault_is_true = r.0; steps = refl; grows = omega arith; work = tt }

pub returns : goal.returns
returns c =
    let t = c.args.self.now.table.now in
    let m = message c.args.self.now in
    let old = at_of c.args.state.now in
    let size = ap (λ (d : Entry). d.size) c.entry-content.ensures.value in
    let whole : c.next_multiple_of-whole.result ≡ next_multiple_of c.entry-content.result.size 8 = c.next_multiple_of-whole.ensures.value in
    let wide : next_multiple_of (entry_at t c.args.entry).size 8 ≡ c.next_multiple_of-whole.result = sym (whole ∙ ap (λ k. next_multiple_of k 8) size) in
    let new : Position = record { next = old.next + c.next_multiple_of-whole.result; handle = old.handle; objects = c.link_outside.new.self.objects; records = c.link_outside.new.self.records } in
    let objects = c.link_outside.ensures.objects in
    let records = c.link_outside.ensures.records in
    let led : linked c.args.envelope (entry_at t c.args.entry).size (opened c.args.envelope old) ≡ new
    = λ i. record { next = old.next + wide i; handle = old.handle; objects = sym objects i; records = sym records i } in
    let x = enters_below_as t c.args.self.now.fine m (c.args.self.now.short, c.requires.state.few) c.args.depth c.args.entry c.args.envelope old
    c.requires.entry c.requires.room (λ i. omega (arith, c.args.self.now.octets i)) c.requires.state c.requires.depth c.entry-content.result
    c.byte_count_at-counted.result c.handle_count_at-handles.result c.next_multiple_of-whole.result new
    c.entry-content.ensures.value c.byte_count_at-counted.ensures c.handle_count_at-handles.ensures whole led c.if-size-le4.false (sym c.flags_at-flags.ensures ∙ c.if-flags-ne0.false)
    (omega (arith, c.if-counted-eq0.false), omega (arith, c.if-counted-ne0.false)) (omega (arith, c.requires.depth, c.if-depth-eq-MAX_DEPTH.false)) (omega (arith, (size_fits c.args.self.now.sized _ _ c.if-whole-self.false)))
    (counts_within m.bytes c.args.envelope (omega (arith, c.if-handles-gt-MAX_MESSAGE_HANDLES-2.false, c.handle_count_at-handles.ensures)) (omega (arith, c.if-counted-gt-MAX_MESSAGE_BYTES.false, c.byte_count_at-counted.ensures))) in
    let y = subst (λ (f : Frame). Enters t m c.args.depth c.args.entry c.args.envelope old new f) (sym c.content_frame-2.ensures) x in
    let until : Until = record { envelope = c.args.envelope; next = old.next + c.byte_count_at-counted.result; handle = old.handle + c.handle_count_at-handles.result } in
    let left : c.content_frame-2.result.left ≡ Content c.args.entry (entry_at t c.args.entry).size 1 until = ap (λ (f : Frame). f.left) c.content_frame-2.ensures ∙ ap (λ n. Content c.args.entry n 1 until) size in
    record { holds = c.link_outside.ensures.came ∙ c.requires.holds; ok = y.same; breaks = y.breaks; least = y.least; moves = y.moves; fine = y.fine; deeper = y.deeper; left = (until, left); state = y.state; fault_is_true = tt; steps = refl; grows = omega arith; work = y.work }

pub entry-content-requires : goal.entry-content-requires
entry-content-requires c = c.requires.entry

pub next_multiple_of-whole-requires-clause-nonzero : goal.next_multiple_of-whole-requires-clause-nonzero
next_multiple_of-whole-requires-clause-nonzero c = some_8

pub overflow_sub-self : goal.overflow_sub-self
overflow_sub-self c = size_room c.args.self.now.sized _ c.requires.state.next

pub overflow_add-state : goal.overflow_add-state
overflow_add-state c = record { fits = small _ (length c.args.self.now.bytes.value.came) (ended c.args.state.now.next c.next_multiple_of-whole.result (length c.args.self.now.bytes.value.came) c.requires.state.next (size_fits c.args.self.now.sized _ _ c.if-whole-self.false)) c.args.self.now.short }

pub overflow_add-depth : goal.overflow_add-depth
overflow_add-depth c = record { fits = deeper c.args.depth c.requires.depth }

pub link_inside-requires : goal.link_inside-requires
link_inside-requires c =
    let x = inside_at c.args.state.now.links (message c.args.self.now) c.requires.holds c.args.state.now.next c.args.state.now.handle c.requires.state.next c.args.self.now.short
    c.args.envelope c.requires.ready.0 c.requires.ready.1 c.requires.ready.2 c.requires.state.handle c.requires.state.few
    (sym c.flags_at-flags.ensures ∙ c.if-flags-ne1.false) (omega (arith, c.handle_count_at-handles.ensures, c.if-handles-gt-MAX_MESSAGE_HANDLES.false)) in
    record { aligned = x.aligned; within = x.within; flags = x.flags; handles = x.handles; first = x.first; free = x.free }

pub link_outside-requires : goal.link_outside-requires
link_outside-requires c =
    let x = outside_at c.args.state.now.links (message c.args.self.now) c.requires.holds c.args.state.now.next c.args.state.now.handle c.requires.state.next c.args.self.now.short
    c.args.envelope c.requires.ready.0 c.requires.ready.1 c.requires.ready.2 c.requires.state.handle c.requires.state.few
    (sym c.flags_at-flags.ensures ∙ c.if-flags-ne0.false)
    (omega (arith, c.byte_count_at-counted.ensures, c.if-counted-ne0.false))
    (omega (arith, c.byte_count_at-counted.ensures, c.if-counted-gt-MAX_MESSAGE_BYTES.false))
    (omega (arith, c.handle_count_at-handles.ensures, c.if-handles-gt-MAX_MESSAGE_HANDLES-2.false)) in
    record { aligned = x.aligned; within = x.within; flags = x.flags; eights = x.eights; short = x.short; handles = x.handles; object = x.object; some = x.some; few = x.few; first = x.first; free = x.free }
