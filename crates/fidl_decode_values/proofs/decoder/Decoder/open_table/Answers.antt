use Rattle.fidl_decode_values.specs.Reading.{message}
use Rattle.std.proofs.Common.{refl, inl, inr, ◌≡◌, ◌+◌, ◌*◌, sym, ap, subst, ◌∙◌, arith}
use Rattle.std.specs.Prelude.{Option, Some}
use Rattle.std.specs.Int.{next_multiple_of}
use Rattle.fidl_decode_model.specs.declared.frame.Frame.{Frame}
use Rattle.fidl_decode_model.specs.Breaks.{count_at}
use Rattle.fidl_decode_model.specs.State.{Position, linked}
use Rattle.fidl_decode_model.specs.Machine.{Visits, at_of}
use Rattle.fidl_decode_values.proofs.Unchanged.{clash}
use Rattle.fidl_decode_values.proofs.Tabled.{whole_eights, table_frame, visits_table}
use Rattle.fidl_decode_values.proofs.Linking.{marker_at}
use Rattle.fidl_decode_values.proofs.decoder.Decoder.open_table.Goals as goal

pub returns-clause-ok : goal.returns-clause-ok
returns-clause-ok c =
    let t = c.args.self.now.table.now in
    let m = message c.args.self.now in
    let old = at_of c.args.state.now in
    let n = count_at c.args.self.now.bytes.value.came c.args.place in
    let number : c.u64_at-count.result ≡ n = c.u64_at-count.ensures in
    let value : next_multiple_of (8 * n) 8 ≡ 8 * c.u64_at-count.result = whole_eights n ∙ ap (λ k. 8 * k) (sym number) in
    let found : Some (table_frame c.args.entry n c.args.depth old) ≡ Some (table_frame c.args.entry c.u64_at-count.result c.args.depth old) = ap (λ k. Some (table_frame c.args.entry k c.args.depth old)) (sym number) in
    let objects = c.link_marker.ensures.objects in
    let same : linked (c.args.place + 8) (8 * n) old ≡ record { next = old.next + 8 * c.u64_at-count.result; handle = old.handle; objects = c.link_marker.new.self.objects; records = c.link_marker.new.self.records }
    = λ i. record { next = old.next + value i; handle = old.handle; objects = sym objects i; records = sym c.link_marker.ensures.records i } in
    let opened = visits_table t c.args.self.now.fine m c.args.depth c.args.entry c.args.place old c.requires.entry c.requires.kind c.requires.state 0
    refl (c.is_present.ensures.0 c.if-not-is_present.false) (omega (arith, c.requires.depth, c.if-depth-eq-MAX_DEPTH.false))
    (omega (arith, number, c.if-count-rest.false, c.args.self.now.sized, c.args.self.now.short))
    (omega (arith, number, c.if-count-rest.false, c.args.self.now.sized)) (omega (arith, c.requires.room))
    (λ i. omega (arith, c.args.self.now.octets i)) in
    subst (λ (s : Position). Visits t m c.args.depth c.args.entry c.args.place old s 0 (Some (table_frame c.args.entry c.u64_at-count.result c.args.depth old))) same
    (subst (λ (o : Option Frame). Visits t m c.args.depth c.args.entry c.args.place old (linked (c.args.place + 8) (8 * n) old) 0 o) found opened)

pub returns-then-not-is_absent-clause-ok : goal.returns-then-not-is_absent-clause-ok
returns-then-not-is_absent-clause-ok c = tt

pub returns-then-not-is_absent-clause-fine : goal.returns-then-not-is_absent-clause-fine
returns-then-not-is_absent-clause-fine c inside few = tt

pub returns-then-not-is_absent-clause-next : goal.returns-then-not-is_absent-clause-next
returns-then-not-is_absent-clause-next c = tt

pub returns-then-not-is_absent-clause-shallow : goal.returns-then-not-is_absent-clause-shallow
returns-then-not-is_absent-clause-shallow c = tt

pub returns-then-not-is_absent-clause-fault_is_true : goal.returns-then-not-is_absent-clause-fault_is_true
returns-then-not-is_absent-clause-fault_is_true c = (refl, λ z. clash (c.is_absent.ensures.1 z) c.if-not-is_absent.true, λ p. clash (c.is_present.ensures.1 p) c.if-not-is_present.true)

pub returns-then-not-is_absent-clause-steps : goal.returns-then-not-is_absent-clause-steps
returns-then-not-is_absent-clause-steps c = refl

pub returns-then-count-ne0-clause-ok : goal.returns-then-count-ne0-clause-ok
returns-then-count-ne0-clause-ok c = tt

pub returns-then-count-ne0-clause-fine : goal.returns-then-count-ne0-clause-fine
returns-then-count-ne0-clause-fine c inside few = tt

pub returns-then-count-ne0-clause-next : goal.returns-then-count-ne0-clause-next
returns-then-count-ne0-clause-next c = tt

pub returns-then-count-ne0-clause-shallow : goal.returns-then-count-ne0-clause-shallow
returns-then-count-ne0-clause-shallow c = tt

pub returns-then-count-ne0-clause-fault_is_true : goal.returns-then-count-ne0-clause-fault_is_true
returns-then-count-ne0-clause-fault_is_true c = (refl, inl ((c.is_absent.ensures.0 c.if-not-is_absent.false), λ none. c.if-count-ne0.true (c.u64_at-count.ensures ∙ none)))

pub returns-then-count-ne0-clause-steps : goal.returns-then-count-ne0-clause-steps
returns-then-count-ne0-clause-steps c = refl

pub returns-then-not-is_present-clause-ok : goal.returns-then-not-is_present-clause-ok
returns-then-not-is_present-clause-ok c = tt

pub returns-then-not-is_present-clause-fine : goal.returns-then-not-is_present-clause-fine
returns-then-not-is_present-clause-fine c inside few = tt

pub returns-then-not-is_present-clause-next : goal.returns-then-not-is_present-clause-next
returns-then-not-is_present-clause-next c = tt

pub returns-then-not-is_present-clause-shallow : goal.returns-then-not-is_present-clause-shallow
returns-then-not-is_present-clause-shallow c = tt

pub returns-then-not-is_present-clause-fault_is_true : goal.returns-then-not-is_present-clause-fault_is_true
returns-then-not-is_present-clause-fault_is_true c = (refl, refl, (c.is_absent.ensures.0 c.if-not-is_absent.false))

pub returns-then-not-is_present-clause-steps : goal.returns-then-not-is_present-clause-steps
returns-then-not-is_present-clause-steps c = refl

pub returns-then-count-rest-clause-ok : goal.returns-then-count-rest-clause-ok
returns-then-count-rest-clause-ok c = tt

pub returns-then-count-rest-clause-fine : goal.returns-then-count-rest-clause-fine
returns-then-count-rest-clause-fine c inside few = tt

pub returns-then-count-rest-clause-next : goal.returns-then-count-rest-clause-next
returns-then-count-rest-clause-next c = tt

pub returns-then-count-rest-clause-shallow : goal.returns-then-count-rest-clause-shallow
returns-then-count-rest-clause-shallow c = tt

pub returns-then-count-rest-clause-fault_is_true : goal.returns-then-count-rest-clause-fault_is_true
returns-then-count-rest-clause-fault_is_true c = (refl, inr ((c.is_present.ensures.0 c.if-not-is_present.false), omega (arith, c.u64_at-count.ensures, c.if-count-rest.true, c.args.self.now.sized)))

pub returns-then-count-rest-clause-steps : goal.returns-then-count-rest-clause-steps
returns-then-count-rest-clause-steps c = refl

pub returns-then-depth-eq-MAX_DEPTH-clause-ok : goal.returns-then-depth-eq-MAX_DEPTH-clause-ok
returns-then-depth-eq-MAX_DEPTH-clause-ok c = tt

pub returns-then-depth-eq-MAX_DEPTH-clause-fine : goal.returns-then-depth-eq-MAX_DEPTH-clause-fine
returns-then-depth-eq-MAX_DEPTH-clause-fine c inside few = tt

pub returns-then-depth-eq-MAX_DEPTH-clause-next : goal.returns-then-depth-eq-MAX_DEPTH-clause-next
returns-then-depth-eq-MAX_DEPTH-clause-next c = tt

pub returns-then-depth-eq-MAX_DEPTH-clause-shallow : goal.returns-then-depth-eq-MAX_DEPTH-clause-shallow
returns-then-depth-eq-MAX_DEPTH-clause-shallow c = tt

pub returns-then-depth-eq-MAX_DEPTH-clause-fault_is_true : goal.returns-then-depth-eq-MAX_DEPTH-clause-fault_is_true
returns-then-depth-eq-MAX_DEPTH-clause-fault_is_true c = (refl, (c.is_present.ensures.0 c.if-not-is_present.false), omega (arith, c.if-depth-eq-MAX_DEPTH.true))

pub returns-then-depth-eq-MAX_DEPTH-clause-steps : goal.returns-then-depth-eq-MAX_DEPTH-clause-steps
returns-then-depth-eq-MAX_DEPTH-clause-steps c = refl

pub returns-clause-next : goal.returns-clause-next
returns-clause-next c = refl

pub returns-clause-shallow : goal.returns-clause-shallow
returns-clause-shallow c = omega (arith, c.requires.depth, c.if-depth-eq-MAX_DEPTH.false)

pub returns-clause-fault_is_true : goal.returns-clause-fault_is_true
returns-clause-fault_is_true c = tt

pub returns-clause-steps : goal.returns-clause-steps
returns-clause-steps c = refl

pub link_marker-requires : goal.link_marker-requires
link_marker-requires c =
    let x = marker_at c.args.state.now.links (message c.args.self.now) c.requires.holds c.args.state.now.next c.args.state.now.handle c.requires.state.next c.args.self.now.short
    c.args.place 16 (c.args.place + 8) c.requires.ready.1 (omega (arith, c.requires.ready.2)) (omega arith) (omega arith) (c.is_present.ensures.0 c.if-not-is_present.false) in
    record { aligned = x.aligned; within = x.within; present = x.present; some = x.some; few = x.few; free = x.free }
