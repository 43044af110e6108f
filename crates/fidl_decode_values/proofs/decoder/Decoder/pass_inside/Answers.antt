use Rattle.fidl_decode_values.specs.Reading.{message}
use Rattle.std.proofs.Common.{◌≡◌, ◌+◌, ◌-◌, ◌≤◌, ◌*◌, ◌^◌, ◌/◌, sym, ap, subst, ◌∙◌, arith}
use Rattle.fidl_wire.specs.Encoding.{zeros}
use Rattle.fidl_wire.specs.Standing.{Stands}
use Rattle.fidl_decode_model.specs.State.{Position, opened}
use Rattle.fidl_decode_model.specs.Machine.{at_of}
use Rattle.fidl_decode_values.proofs.Words.{inside_numbers, zeros_behind}
use Rattle.fidl_decode_values.proofs.Freely.{inside_passed}
use Rattle.fidl_decode_values.proofs.Linking.{inside_at}
use Rattle.fidl_decode_values.proofs.decoder.Decoder.pass_inside.Goals as goal

pub returns-clause-passed : goal.returns-clause-passed
returns-clause-passed c =
    λ so.
    let t = c.args.self.now.table.now in
    let m = message c.args.self.now in
    let old = at_of c.args.state.now in
    let new : Position = record { next = old.next; handle = old.handle; objects = c.link_inside.new.self.objects; records = c.link_inside.new.self.records } in
    let led : opened c.args.envelope old ≡ new = λ i. record { next = old.next; handle = old.handle; objects = sym c.link_inside.ensures.objects i; records = sym c.link_inside.ensures.records i } in
    let numbers = inside_numbers c.args.self.now.bytes.value.came c.args.envelope c.requires.room (λ i. omega (arith, c.args.self.now.octets i)) (sym c.u32_at.ensures ∙ c.if-u32_at-ne-NO_HANDLES_INSIDE.false) in
    let z = ap (λ n. n / 2 ^ (8 * c.args.size)) (sym (c.from.ensures ∙ c.u32_at-2.ensures)) ∙ c.if-from-size-ne0.false in
    let stand = zeros_behind c.args.self.now.bytes.value.came c.args.envelope (λ i. omega (arith, c.args.self.now.octets i)) (omega (arith, c.requires.room)) c.args.size c.requires.small z in
    let behind = subst (λ n. Stands c.args.self.now.bytes.value.came (c.args.envelope + n) (zeros (c.args.envelope + 4 - (c.args.envelope + n)))) (sym c.requires.size) stand in
    inside_passed t c.args.self.now.fine m (c.args.self.now.short, c.requires.state.few) c.args.depth c.args.entry c.args.envelope old
    c.requires.entry c.requires.room (λ i. omega (arith, c.args.self.now.octets i)) c.requires.state c.requires.depth c.requires.free
    (subst (λ n. n ≤ 4) (sym c.requires.size) c.requires.small) numbers.1 numbers.0 behind new led _

pub link_inside-requires-clause-flags : goal.link_inside-requires-clause-flags
link_inside-requires-clause-flags c =
    let numbers = inside_numbers c.args.self.now.bytes.value.came c.args.envelope c.requires.room (λ i. omega (arith, c.args.self.now.octets i)) (sym c.u32_at.ensures ∙ c.if-u32_at-ne-NO_HANDLES_INSIDE.false) in
    let x = inside_at c.args.state.now.links (message c.args.self.now) c.requires.holds c.args.state.now.next c.args.state.now.handle c.requires.state.next c.args.self.now.short
    c.args.envelope c.requires.ready.0 c.requires.ready.1 c.requires.ready.2 c.requires.state.handle c.requires.state.few
    numbers.1 (omega (arith, numbers.0)) in
    x.flags

pub link_inside-requires-clause-handles : goal.link_inside-requires-clause-handles
link_inside-requires-clause-handles c =
    let numbers = inside_numbers c.args.self.now.bytes.value.came c.args.envelope c.requires.room (λ i. omega (arith, c.args.self.now.octets i)) (sym c.u32_at.ensures ∙ c.if-u32_at-ne-NO_HANDLES_INSIDE.false) in
    let x = inside_at c.args.state.now.links (message c.args.self.now) c.requires.holds c.args.state.now.next c.args.state.now.handle c.requires.state.next c.args.self.now.short
    c.args.envelope c.requires.ready.0 c.requires.ready.1 c.requires.ready.2 c.requires.state.handle c.requires.state.few
    numbers.1 (omega (arith, numbers.0)) in
    x.handles
