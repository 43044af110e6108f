use Rattle.fidl_decode_values.specs.Reading.{message}
use Rattle.fidl_decode_values.proofs.Unchanged.{size_short, size_fits}
use Rattle.std.proofs.Common.{◌≡◌, ◌+◌, ◌-◌, ◌≤◌, length, refl, sym, subst, ◌∙◌, arith}
use Rattle.fidl_wire.specs.Typed.{IsUnknownLength}
use Rattle.std.specs.Prelude.{false, ◌↔◌, None}
use Rattle.std.specs.Int.{next_multiple_of}
use Rattle.fidl_table_format.specs.Terms.{declarations_of}
use Rattle.fidl_decode_model.specs.declared.fault.DecodeFault.TheVariants.{BadEnvelope, TooDeep, Truncated, HandleMissing}
use Rattle.fidl_decode_model.specs.Envelopes.{Contained}
use Rattle.fidl_wire.specs.Envelope.{bytes_below, handles_below}
use Rattle.fidl_decode_model.specs.State.{Position, opened, linked, passed}
use Rattle.fidl_decode_model.specs.Machine.{at_of}
use Rattle.fidl_decode_values.proofs.Skipped.{AreHandles, skips_inside, skips_below, unknown_refuse, not_held, whole_eights}
use Rattle.fidl_decode_values.proofs.decoder.Decoder.skip_member.Goals.{then-flags-ne0-via-then-flags-ne0, then-flags-ne0-via-else-flags-ne0+then-counted-eq0, then-flags-ne0-via-else-flags-ne0+else-counted-eq0+then-counted-ne0}
use Rattle.fidl_decode_values.proofs.Linking.{inside_at}
use Rattle.fidl_decode_values.proofs.Linking.{outside_at}
use Rattle.fidl_decode_values.proofs.decoder.Decoder.skip_member.Goals as goal

pub returns-then-handles-self : goal.returns-then-handles-self
returns-then-handles-self c =
    let m = message c.args.self.now in
    let ds = declarations_of c.args.self.now.table.now in
    let old = at_of c.args.state.now in
    let r = unknown_refuse ds c.args.self.now.fine.laid_out m (c.args.self.now.short, c.requires.state.few) c.args.depth c.args.envelope old (HandleMissing c.args.envelope) (refl, omega (arith, c.if-handles-self.true, c.handle_count_at-handles.ensures)) in
    record { holds = c.requires.holds; ok = tt; state = c.requires.state; fault_is_true = r.0; steps = refl; grows = omega arith }

pub returns-then-flags-eq1 : goal.returns-then-flags-eq1
returns-then-flags-eq1 c =
    let m = message c.args.self.now in
    let ds = declarations_of c.args.self.now.table.now in
    let old = at_of c.args.state.now in
    let new : Position = record { next = old.next; handle = old.handle + c.handle_count_at-handles.result; objects = c.link_inside.new.self.objects; records = c.link_inside.new.self.records } in
    let many : c.handle_count_at-handles.result ≡ handles_below m.bytes c.args.envelope = c.handle_count_at-handles.ensures in
    let led : passed (handles_below m.bytes c.args.envelope) (opened c.args.envelope old) ≡ new
    = λ i. record { next = old.next; handle = old.handle + sym many i; objects = sym c.link_inside.ensures.objects i; records = sym c.link_inside.ensures.records i } in
    let some : handles_below m.bytes c.args.envelope ≤ length m.handles - old.handle = omega (arith, c.if-handles-self.false, many) in
    let are : AreHandles m.handles old.handle (handles_below m.bytes c.args.envelope) = subst (λ k. AreHandles m.handles old.handle k) many c.are_handles.ensures in
    let x = skips_inside ds c.args.self.now.fine.laid_out m (c.args.self.now.short, c.requires.state.few) c.args.depth c.args.envelope old c.requires.room (λ i. omega (arith, c.args.self.now.octets i)) are some (sym c.flags_at-flags.ensures ∙ c.if-flags-eq1.true) c.requires.depth in
    let inner = c.requires.state.handle in
    let ok : (to : Position) → Contained ds m c.args.depth None c.args.envelope old to ↔ (new ≡ to) = subst (λ (s : Position). (to : Position) → Contained ds m c.args.depth None c.args.envelope old to ↔ (s ≡ to)) led x in
    record { holds = c.link_inside.ensures.came ∙ c.requires.holds; ok = ok; state = record { next = c.requires.state.next; handle = omega (arith, inner, c.if-handles-self.false); few = c.requires.state.few }; fault_is_true = tt; steps = refl; grows = omega arith }

pub returns-then-flags-ne0 : goal.returns-then-flags-ne0
returns-then-flags-ne0 c =
    let m = message c.args.self.now in
    let ds = declarations_of c.args.self.now.table.now in
    let old = at_of c.args.state.now in
    let r = unknown_refuse ds c.args.self.now.fine.laid_out m (c.args.self.now.short, c.requires.state.few) c.args.depth c.args.envelope old (BadEnvelope c.args.envelope) (
      refl,
      not_held ds c.args.self.now.fine.laid_out m (c.args.self.now.short, c.requires.state.few) c.args.depth c.args.envelope old (λ f. c.if-flags-eq1.false (c.flags_at-flags.ensures ∙ f)) (λ f u. elim c.then-flags-ne0.branch [
        | then-flags-ne0-via-then-flags-ne0 w ↦ w.if-flags-ne0.true (c.flags_at-flags.ensures ∙ f)
        | then-flags-ne0-via-else-flags-ne0+then-counted-eq0 w ↦ omega (arith, w.if-counted-eq0.true, c.byte_count_at-counted.ensures, u.0)
        | then-flags-ne0-via-else-flags-ne0+else-counted-eq0+then-counted-ne0 w ↦ omega (arith, w.if-counted-ne0.true, c.byte_count_at-counted.ensures, u.1)
      ]),
    ) in
    record { holds = c.requires.holds; ok = tt; state = c.requires.state; fault_is_true = r.0; steps = refl; grows = omega arith }

pub returns-then-depth-eq-MAX_DEPTH : goal.returns-then-depth-eq-MAX_DEPTH
returns-then-depth-eq-MAX_DEPTH c =
    let m = message c.args.self.now in
    let ds = declarations_of c.args.self.now.table.now in
    let old = at_of c.args.state.now in
    let r = unknown_refuse ds c.args.self.now.fine.laid_out m (c.args.self.now.short, c.requires.state.few) c.args.depth c.args.envelope old (TooDeep c.args.envelope) (refl, sym c.flags_at-flags.ensures ∙ c.if-flags-ne0.false, omega (arith, c.if-depth-eq-MAX_DEPTH.true)) in
    record { holds = c.requires.holds; ok = tt; state = c.requires.state; fault_is_true = r.0; steps = refl; grows = omega arith }

pub returns-then-counted-self : goal.returns-then-counted-self
returns-then-counted-self c =
    let m = message c.args.self.now in
    let ds = declarations_of c.args.self.now.table.now in
    let old = at_of c.args.state.now in
    let r = unknown_refuse ds c.args.self.now.fine.laid_out m (c.args.self.now.short, c.requires.state.few) c.args.depth c.args.envelope old
    (Truncated old.next) (
      refl,
      sym c.flags_at-flags.ensures ∙ c.if-flags-ne0.false,
      omega
          (arith, (size_short c.args.self.now.sized _ _ c.if-counted-self.true), c.byte_count_at-counted.ensures),
    ) in
    record { holds = c.requires.holds; ok = tt; state = c.requires.state; fault_is_true = r.0; steps = refl; grows = omega arith }

pub returns-then-handles-self-2 : goal.returns-then-handles-self-2
returns-then-handles-self-2 c =
    let m = message c.args.self.now in
    let ds = declarations_of c.args.self.now.table.now in
    let old = at_of c.args.state.now in
    let r = unknown_refuse ds c.args.self.now.fine.laid_out m (c.args.self.now.short, c.requires.state.few) c.args.depth c.args.envelope old (HandleMissing c.args.envelope) (refl, omega (arith, c.if-handles-self-2.true, c.handle_count_at-handles.ensures)) in
    record { holds = c.requires.holds; ok = tt; state = c.requires.state; fault_is_true = r.0; steps = refl; grows = omega arith }

pub returns : goal.returns
returns c =
    let m = message c.args.self.now in
    let ds = declarations_of c.args.self.now.table.now in
    let old = at_of c.args.state.now in
    let new : Position = record { next = old.next + c.byte_count_at-counted.result; handle = old.handle + c.handle_count_at-handles.result; objects = c.link_outside.new.self.objects; records = c.link_outside.new.self.records } in
    let many : c.handle_count_at-handles.result ≡ handles_below m.bytes c.args.envelope = c.handle_count_at-handles.ensures in
    let much : c.byte_count_at-counted.result ≡ bytes_below m.bytes c.args.envelope = c.byte_count_at-counted.ensures in
    let whole : IsUnknownLength false (bytes_below m.bytes c.args.envelope) = (omega (arith, c.if-counted-eq0.false, much), omega (arith, c.if-counted-ne0.false, much)) in
    let wide : next_multiple_of (bytes_below m.bytes c.args.envelope) 8 ≡ c.byte_count_at-counted.result = whole_eights (bytes_below m.bytes c.args.envelope) whole ∙ sym much in
    let objects = c.link_outside.ensures.objects in
    let records = c.link_outside.ensures.records in
    let led : passed (handles_below m.bytes c.args.envelope) (linked c.args.envelope (bytes_below m.bytes c.args.envelope) (opened c.args.envelope old)) ≡ new
    = λ i. record { next = old.next + wide i; handle = old.handle + sym many i; objects = sym objects i; records = sym records i } in
    let some : handles_below m.bytes c.args.envelope ≤ length m.handles - old.handle = omega (arith, c.if-handles-self-2.false, many) in
    let fits : bytes_below m.bytes c.args.envelope ≤ length m.bytes - old.next = omega (arith, (size_fits c.args.self.now.sized _ _ c.if-counted-self.false), much) in
    let are : AreHandles m.handles old.handle (handles_below m.bytes c.args.envelope) = subst (λ k. AreHandles m.handles old.handle k) many c.are_handles-2.ensures in
    let x = skips_below ds c.args.self.now.fine.laid_out m (c.args.self.now.short, c.requires.state.few) c.args.depth c.args.envelope old
    c.requires.room (λ i. omega (arith, c.args.self.now.octets i)) are some (sym c.flags_at-flags.ensures ∙ c.if-flags-ne0.false) whole
    (omega (arith, c.requires.depth, c.if-depth-eq-MAX_DEPTH.false)) fits in
    let inner = c.requires.state.handle in
    let bytes = c.requires.state.next in
    let ok : (to : Position) → Contained ds m c.args.depth None c.args.envelope old to ↔ (new ≡ to) = subst (λ (s : Position). (to : Position) → Contained ds m c.args.depth None c.args.envelope old to ↔ (s ≡ to)) led x in
    record {
      holds = c.link_outside.ensures.came ∙ c.requires.holds;
      ok = ok;
      state = record {
        next = omega (arith, bytes, (size_fits c.args.self.now.sized _ _ c.if-counted-self.false));
        handle = omega
            (arith, inner, c.if-handles-self-2.false);
        few = c.requires.state.few;
      };
      fault_is_true = tt;
      steps = refl;
      grows = omega arith;
    }

pub link_inside-requires : goal.link_inside-requires
link_inside-requires c =
    let x = inside_at c.args.state.now.links (message c.args.self.now) c.requires.holds c.args.state.now.next c.args.state.now.handle c.requires.state.next c.args.self.now.short
    c.args.envelope c.requires.ready.0 c.requires.ready.1 c.requires.ready.2 c.requires.state.handle c.requires.state.few
    (sym c.flags_at-flags.ensures ∙ c.if-flags-eq1.true) (omega (arith, c.handle_count_at-handles.ensures, c.if-handles-self.false, c.requires.state.few)) in
    record { aligned = x.aligned; within = x.within; flags = x.flags; handles = x.handles; first = x.first; free = x.free }

pub link_outside-requires : goal.link_outside-requires
link_outside-requires c =
    let x = outside_at c.args.state.now.links (message c.args.self.now) c.requires.holds c.args.state.now.next c.args.state.now.handle c.requires.state.next c.args.self.now.short
    c.args.envelope c.requires.ready.0 c.requires.ready.1 c.requires.ready.2 c.requires.state.handle c.requires.state.few
    (sym c.flags_at-flags.ensures ∙ c.if-flags-ne0.false)
    (omega (arith, c.byte_count_at-counted.ensures, c.if-counted-ne0.false))
    (omega (arith, c.byte_count_at-counted.ensures, size_fits c.args.self.now.sized _ _ c.if-counted-self.false, c.args.self.now.short))
    (omega (arith, c.handle_count_at-handles.ensures, c.if-handles-self-2.false, c.requires.state.few)) in
    record { aligned = x.aligned; within = x.within; flags = x.flags; eights = x.eights; short = x.short; handles = x.handles; object = x.object; some = x.some; few = x.few; first = x.first; free = x.free }
