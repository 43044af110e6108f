use Rattle.fidl_decode_values.specs.Reading.{message}
use Rattle.fidl_decode_values.proofs.Unchanged.{no_true, same_le}
use Rattle.std.proofs.Common.{◌≡◌, ◌+◌, ◌<◌, ◌^◌, ℕ, get_or, sym, ap, ◌∙◌, arith, refl}
use Rattle.std.specs.Int.{next_multiple_of, w64}
use Rattle.fidl_wire.specs.Field.{number_at}
use Rattle.fidl_table_format.specs.Section.{entry_at}
use Rattle.fidl_decode_model.specs.State.{Position, opened, linked}
use Rattle.fidl_decode_model.specs.Machine.{at_of}
use Rattle.fidl_decode_values.proofs.Words.{counted_small, handles_none, flags_none}
use Rattle.fidl_decode_values.proofs.Freely.{below_passed}
use Rattle.fidl_decode_values.proofs.Linking.{outside_at}
use Rattle.fidl_decode_values.proofs.decoder.Decoder.pass_below.Goals as goal

pub returns-clause-passed : goal.returns-clause-passed
returns-clause-passed c =
    λ so.
    let t = c.args.self.now.table.now in
    let m = message c.args.self.now in
    let old = at_of c.args.state.now in
    let wide : next_multiple_of (entry_at t c.args.entry).size 8 ≡ 8 = ap (λ k. next_multiple_of k 8) c.requires.size in
    let new : Position = record { next = old.next + 8; handle = old.handle; objects = c.link_outside.new.self.objects; records = c.link_outside.new.self.records } in
    let objects = c.link_outside.ensures.objects in
    let records = c.link_outside.ensures.records in
    let led : linked c.args.envelope (entry_at t c.args.entry).size (opened c.args.envelope old) ≡ new
    = λ i. record { next = old.next + wide i; handle = old.handle; objects = sym objects i; records = sym records i } in
    let bytes = c.args.self.now.bytes.value.came in
    let p = c.args.envelope in
    let small : (i : ℕ) → get_or bytes i 0 < 256 = λ i. omega (arith, c.args.self.now.octets i) in
    let eight : number_at w64 bytes p ≡ 8 = sym c.u64_at.ensures ∙ c.if-u64_at-ne8.false in
    let few : number_at w64 bytes p < 2 ^ 32 = omega (arith, eight) in
    below_passed t c.args.self.now.fine m (c.args.self.now.short, c.requires.state.few) c.args.depth c.args.entry c.args.envelope old c.requires.entry
    c.requires.room (λ i. omega (arith, c.args.self.now.octets i)) c.requires.state c.requires.depth c.requires.free c.requires.size
    (flags_none bytes p c.requires.room small few) (counted_small bytes p c.requires.room small few ∙ eight)
    (handles_none bytes p c.requires.room small few)
    (omega (arith, c.requires.depth, c.if-depth-eq-MAX_DEPTH.false)) (omega (arith, c.if-self-next-lt8.false)) new led _

pub returns-then-u64_at-ne8-clause-passed : goal.returns-then-u64_at-ne8-clause-passed
returns-then-u64_at-ne8-clause-passed c so = absurd (no_true so)

pub returns-then-u64_at-ne8-clause-kept : goal.returns-then-u64_at-ne8-clause-kept
returns-then-u64_at-ne8-clause-kept c kept = refl

pub returns-then-u64_at-ne8-clause-steps : goal.returns-then-u64_at-ne8-clause-steps
returns-then-u64_at-ne8-clause-steps c = refl

pub returns-then-u64_at-ne8-clause-grows : goal.returns-then-u64_at-ne8-clause-grows
returns-then-u64_at-ne8-clause-grows c = same_le _

pub returns-then-depth-eq-MAX_DEPTH-clause-passed : goal.returns-then-depth-eq-MAX_DEPTH-clause-passed
returns-then-depth-eq-MAX_DEPTH-clause-passed c so = absurd (no_true so)

pub returns-then-depth-eq-MAX_DEPTH-clause-kept : goal.returns-then-depth-eq-MAX_DEPTH-clause-kept
returns-then-depth-eq-MAX_DEPTH-clause-kept c kept = refl

pub returns-then-depth-eq-MAX_DEPTH-clause-steps : goal.returns-then-depth-eq-MAX_DEPTH-clause-steps
returns-then-depth-eq-MAX_DEPTH-clause-steps c = refl

pub returns-then-depth-eq-MAX_DEPTH-clause-grows : goal.returns-then-depth-eq-MAX_DEPTH-clause-grows
returns-then-depth-eq-MAX_DEPTH-clause-grows c = same_le _

pub returns-clause-steps : goal.returns-clause-steps
returns-clause-steps c = refl

pub link_outside-requires : goal.link_outside-requires
link_outside-requires c =
    let bytes = c.args.self.now.bytes.value.came in
    let p = c.args.envelope in
    let small : (i : ℕ) → get_or bytes i 0 < 256 = λ i. omega (arith, c.args.self.now.octets i) in
    let eight : number_at w64 bytes p ≡ 8 = sym c.u64_at.ensures ∙ c.if-u64_at-ne8.false in
    let few : number_at w64 bytes p < 2 ^ 32 = omega (arith, eight) in
    let counted = counted_small bytes p c.requires.room small few in
    let x = outside_at c.args.state.now.links (message c.args.self.now) c.requires.holds c.args.state.now.next c.args.state.now.handle c.requires.state.next c.args.self.now.short
    c.args.envelope c.requires.ready.0 c.requires.ready.1 c.requires.ready.2 c.requires.state.handle c.requires.state.few
    (flags_none bytes p c.requires.room small few)
    (omega (arith, counted, eight))
    (omega (arith, counted, eight))
    (omega (arith, handles_none bytes p c.requires.room small few)) in
    record { aligned = x.aligned; within = x.within; flags = x.flags; eights = x.eights; short = x.short; handles = x.handles; object = x.object; some = x.some; few = x.few; first = x.first; free = x.free }
