use Rattle.fidl_decode_values.specs.Reading.{message}
use Rattle.std.proofs.Common.{◌≡◌, sym, ◌∙◌, ap, ◌/◌, arith}
use Rattle.fidl_decode_model.specs.State.{Position, opened}
use Rattle.fidl_decode_model.specs.Machine.{at_of}
use Rattle.fidl_decode_values.proofs.Words.{bool_numbers}
use Rattle.fidl_decode_values.proofs.Freely.{bool_passed}
use Rattle.fidl_decode_values.proofs.Linking.{inside_at}
use Rattle.fidl_decode_values.proofs.decoder.Decoder.pass_bool.Goals as goal

pub returns-clause-passed : goal.returns-clause-passed
returns-clause-passed c =
    λ so.
    let t = c.args.self.now.table.now in
    let m = message c.args.self.now in
    let old = at_of c.args.state.now in
    let new : Position = record { next = old.next; handle = old.handle; objects = c.link_inside.new.self.objects; records = c.link_inside.new.self.records } in
    let led : opened c.args.envelope old ≡ new = λ i. record { next = old.next; handle = old.handle; objects = sym c.link_inside.ensures.objects i; records = sym c.link_inside.ensures.records i } in
    let numbers = bool_numbers c.args.self.now.bytes.value.came c.args.envelope c.requires.room (λ i. omega (arith, c.args.self.now.octets i)) (ap (λ n. n / 2) (sym c.u64_at.ensures) ∙ c.if-u64_at-ne-BOOL_INSIDE.false) in
    bool_passed t c.args.self.now.fine m (c.args.self.now.short, c.requires.state.few) c.args.depth c.args.entry c.args.envelope old c.requires.entry
    c.requires.room (λ i. omega (arith, c.args.self.now.octets i)) c.requires.state c.requires.depth c.requires.kind
    numbers.1 numbers.0 numbers.2 new led _

pub link_inside-requires : goal.link_inside-requires
link_inside-requires c =
    let numbers = bool_numbers c.args.self.now.bytes.value.came c.args.envelope c.requires.room (λ i. omega (arith, c.args.self.now.octets i)) (ap (λ n. n / 2) (sym c.u64_at.ensures) ∙ c.if-u64_at-ne-BOOL_INSIDE.false) in
    let x = inside_at c.args.state.now.links (message c.args.self.now) c.requires.holds c.args.state.now.next c.args.state.now.handle c.requires.state.next c.args.self.now.short
    c.args.envelope c.requires.ready.0 c.requires.ready.1 c.requires.ready.2 c.requires.state.handle c.requires.state.few
    numbers.1 (omega (arith, numbers.0)) in
    record { aligned = x.aligned; within = x.within; flags = x.flags; handles = x.handles; first = x.first; free = x.free }
