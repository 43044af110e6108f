use Rattle.fidl_decode_values.specs.Reading.{message}
use Rattle.std.proofs.Common.{◌≡◌, ◌+◌, ◌-◌, ◌*◌, ◌<◌, ◌≤◌, sym, ap, subst, ◌∙◌, arith, length}
use Rattle.std.specs.Prelude.{None}
use Rattle.fidl_limits.specs.declared.limits.TheConstants.{MAX_DEPTH}
use Rattle.std.specs.Int.{next_multiple_of}
use Rattle.fidl_table_format.specs.Section.{entry_at}
use Rattle.fidl_table_format.specs.Terms.{is_optional}
use Rattle.fidl_decode_model.specs.declared.frame.Remaining.TheVariants.{Elements}
use Rattle.fidl_decode_model.specs.Breaks.{count_at}
use Rattle.fidl_decode_model.specs.State.{Position, linked}
use Rattle.fidl_decode_model.specs.Machine.{Visits, at_of}
use Rattle.fidl_decode_model.proofs.Listed.{visits_absent_vector, visits_vector, vector_fine}
use Rattle.fidl_decode_values.proofs.ReadyPlaces.{last_free}
use Rattle.fidl_decode_values.proofs.Sequences.{visits_no_elements}
use Rattle.fidl_decode_values.proofs.decoder.Decoder.pass_empty.Goals as goal

pub is_absent-requires-clause-free : goal.is_absent-requires-clause-free
is_absent-requires-clause-free c = last_free (message c.args.self.now) (at_of c.args.state.now) c.args.place c.requires.ready

pub returns-then-not-is_present-clause-passed : goal.returns-then-not-is_present-clause-passed
returns-then-not-is_present-clause-passed c so =
    visits_absent_vector c.args.self.now.table.now c.args.self.now.fine (message c.args.self.now) c.args.depth c.args.entry c.args.place (at_of c.args.state.now) c.requires.entry c.requires.kind c.requires.state c.requires.depth (c.args.state.now.steps - c.args.state.now.steps) (omega arith)
    (sym (ap is_optional c.entry.ensures.value) ∙ sym c.is_optional.ensures ∙ c.if-not-is_optional.false) (c.is_absent.ensures.0 so) (omega (arith, c.requires.room)) (λ i. omega (arith, c.args.self.now.octets i)) (sym c.u64_at.ensures ∙ c.if-u64_at-ne0.false)

pub returns-clause-passed : goal.returns-clause-passed
returns-clause-passed c so =
    let t = c.args.self.now.table.now in
    let m = message c.args.self.now in
    let old = at_of c.args.state.now in
    let d = entry_at t c.args.entry in
    let inner = entry_at t d.first in
    let n = count_at c.args.self.now.bytes.value.came c.args.place in
    let none : n ≡ 0 = sym c.u64_at.ensures ∙ c.if-u64_at-ne0.false in
    let empty : inner.size * n ≡ 0 = (λ i. inner.size * none i) ∙ omega arith in
    let up : next_multiple_of (inner.size * n) 8 ≡ 0 = ap (λ k. next_multiple_of k 8) empty in
    let same : linked (c.args.place + 8) (inner.size * n) old ≡ record { next = old.next; handle = old.handle; objects = c.link_marker.new.self.objects; records = c.link_marker.new.self.records }
    = (λ i. record { next = old.next + up i; handle = old.handle; objects = sym c.link_marker.ensures.objects i; records = sym c.link_marker.ensures.records i })
    ∙ (let still : old.next + 0 ≡ old.next = omega arith in λ i. record { next = still i; handle = old.handle; objects = c.link_marker.new.self.objects; records = c.link_marker.new.self.records }) in
    let fits : next_multiple_of (inner.size * n) 8 ≤ length m.bytes - old.next = omega (arith, up) in
    let less : c.args.depth < MAX_DEPTH = omega (arith, c.requires.depth, c.if-depth-eq-MAX_DEPTH.false) in
    let opened = visits_vector t c.args.self.now.fine m c.args.depth c.args.entry c.args.place old c.requires.entry c.requires.kind c.requires.state
    c.requires.depth (c.args.state.now.steps - c.args.state.now.steps) (omega arith) (c.is_present.ensures.0 c.if-not-is_present.false)
    less (omega (arith, none)) fits (omega (arith, c.requires.room)) (λ i. omega (arith, c.args.self.now.octets i)) in
    let few = vector_fine t c.args.self.now.fine m c.args.depth c.args.entry c.args.place old c.requires.entry c.requires.kind c.requires.state c.requires.depth less fits 0 (omega arith) in
    subst (λ (s : Position). Visits t m c.args.depth c.args.entry c.args.place old s (c.args.state.now.steps - c.args.state.now.steps) None) same
    (visits_no_elements t c.args.self.now.fine m c.args.depth c.args.entry c.args.place old (linked (c.args.place + 8) (inner.size * n) old) (c.args.state.now.steps - c.args.state.now.steps) _ opened few.0
    d.first inner.size (λ i. Elements d.first inner.size (none i)) up)
