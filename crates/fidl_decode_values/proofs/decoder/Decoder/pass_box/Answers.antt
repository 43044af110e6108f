use Rattle.fidl_decode_values.specs.Reading.{message}
use Rattle.fidl_decode_values.proofs.Unchanged.{not_err, size_fits}
use Rattle.fidl_decode_values.proofs.Fitting.{ended}
use Rattle.std.proofs.Common.{◌≡◌, ℕ, ◌+◌, ◌-◌, ◌<◌, ◌≤◌, sym, ap, subst, ◌∙◌, arith, length}
use Rattle.std.specs.Prelude.{Option, None, IfSome}
use Rattle.std.specs.Int.{next_multiple_of}
use Rattle.fidl_limits.specs.declared.limits.TheConstants.{MAX_DEPTH}
use Rattle.fidl_wire.specs.Encoding.{zeros}
use Rattle.fidl_wire.specs.Standing.{Stands}
use Rattle.fidl_table_format.specs.declared.record.Entry.{Entry}
use Rattle.fidl_table_format.specs.declared.kind.EntryKind.TheVariants.{Box, Struct}
use Rattle.fidl_table_format.specs.Section.{header_of, entry_at}
use Rattle.fidl_decode_model.specs.declared.frame.Remaining.TheVariants.{Rows}
use Rattle.fidl_decode_model.specs.State.{Position, linked}
use Rattle.fidl_decode_model.specs.Machine.{Visits, Passes, at_of}
use Rattle.fidl_decode_model.proofs.Visiting.{fine_as}
use Rattle.fidl_decode_model.proofs.Boxed.{visits_absent_box}
use Rattle.fidl_decode_values.proofs.BoxContent.{rows_within, box_passed}
use Rattle.fidl_decode_values.proofs.ReadyPlaces.{ahead_part}
use Rattle.fidl_decode_values.proofs.Linking.{marker_at}
use Rattle.fidl_decode_values.proofs.decoder.Decoder.pass_box.Goals as goal

pub returns-then-not-is_present-clause-passed : goal.returns-then-not-is_present-clause-passed
returns-then-not-is_present-clause-passed c so =
    visits_absent_box c.args.self.now.table.now c.args.self.now.fine (message c.args.self.now) c.args.depth c.args.entry c.args.place
    (at_of c.args.state.now) c.requires.entry c.requires.kind c.requires.state c.requires.depth (c.args.state.now.steps - c.args.state.now.steps)
    (omega arith) (c.is_absent.ensures.0 so)

pub entry-content-requires : goal.entry-content-requires
entry-content-requires c =
    let f = fine_as c.args.self.now.table.now c.args.self.now.fine c.args.entry Box c.requires.entry c.requires.kind in
    subst (λ (d : Entry). d.first < (header_of c.args.self.now.table.now).entries) (sym c.entry.ensures.value) f.content.0

pub free_size-requires : goal.free_size-requires
free_size-requires c =
    let t = c.args.self.now.table.now in
    let inner = entry_at t (entry_at t c.args.entry).first in
    let is : c.entry-content.result ≡ inner = c.entry-content.ensures.value ∙ ap (λ (d : Entry). entry_at t d.first) c.entry.ensures.value in
    let f = fine_as t c.args.self.now.fine c.args.entry Box c.requires.entry c.requires.kind in
    record { within = subst (λ (d : Entry). d.first + d.count ≤ (header_of t).rows) (sym is) (fine_as t c.args.self.now.fine (entry_at t c.args.entry).first Struct f.content.0 f.content.1).content.0 }

pub overflow_add-next : goal.overflow_add-next
overflow_add-next c =
    let t = c.args.self.now.table.now in
    let m = message c.args.self.now in
    let old = at_of c.args.state.now in
    let inner = entry_at t (entry_at t c.args.entry).first in
    let is : c.entry-content.result ≡ inner = c.entry-content.ensures.value ∙ ap (λ (d : Entry). entry_at t d.first) c.entry.ensures.value in
    let whole : c.next_multiple_of-whole.result ≡ next_multiple_of inner.size 8 = c.next_multiple_of-whole.ensures.value ∙ ap (λ (d : Entry). next_multiple_of d.size 8) is in
    let rows = c.entry-content.result.count in
    let first = c.entry-content.result.first + c.entry-content.result.count in
    let done = c.in-Some.done in
    let passes = subst (λ (x : Entry). Passes t m (Rows x.first x.count) rows first 0 done None) is
    (subst (λ (o : Option ℕ). IfSome o (λ done. Passes t m (Rows c.entry-content.result.first c.entry-content.result.count) rows first 0 done None)) c.in-Some.is c.free_size.ensures.passes) in
    let shallow : c.args.depth < MAX_DEPTH = omega (arith, c.requires.depth, c.if-depth-eq-MAX_DEPTH.false) in
    let fits : next_multiple_of inner.size 8 ≤ length m.bytes - old.next = omega (arith, (size_fits c.args.self.now.sized _ _ c.if-whole-self.false), whole) in
    let within : done ≤ next_multiple_of inner.size 8 = rows_within t c.args.self.now.fine m c.args.depth c.args.entry c.args.place old c.requires.entry c.requires.kind c.requires.state c.requires.depth shallow fits rows first done passes in
    record { fits = omega (arith, within, fits, c.args.self.now.short, c.requires.state.next) }

pub zeros_at-requires-clause-order : goal.zeros_at-requires-clause-order
zeros_at-requires-clause-order c =
    let t = c.args.self.now.table.now in
    let m = message c.args.self.now in
    let old = at_of c.args.state.now in
    let inner = entry_at t (entry_at t c.args.entry).first in
    let is : c.entry-content.result ≡ inner = c.entry-content.ensures.value ∙ ap (λ (d : Entry). entry_at t d.first) c.entry.ensures.value in
    let whole : c.next_multiple_of-whole.result ≡ next_multiple_of inner.size 8 = c.next_multiple_of-whole.ensures.value ∙ ap (λ (d : Entry). next_multiple_of d.size 8) is in
    let rows = c.entry-content.result.count in
    let first = c.entry-content.result.first + c.entry-content.result.count in
    let done = c.in-Some.done in
    let passes = subst (λ (x : Entry). Passes t m (Rows x.first x.count) rows first 0 done None) is
    (subst (λ (o : Option ℕ). IfSome o (λ done. Passes t m (Rows c.entry-content.result.first c.entry-content.result.count) rows first 0 done None)) c.in-Some.is c.free_size.ensures.passes) in
    let shallow : c.args.depth < MAX_DEPTH = omega (arith, c.requires.depth, c.if-depth-eq-MAX_DEPTH.false) in
    let fits : next_multiple_of inner.size 8 ≤ length m.bytes - old.next = omega (arith, (size_fits c.args.self.now.sized _ _ c.if-whole-self.false), whole) in
    let within : done ≤ next_multiple_of inner.size 8 = rows_within t c.args.self.now.fine m c.args.depth c.args.entry c.args.place old c.requires.entry c.requires.kind c.requires.state c.requires.depth shallow fits rows first done passes in
    omega (arith, within, whole)

pub zeros_at-requires-clause-free : goal.zeros_at-requires-clause-free
zeros_at-requires-clause-free c =
    let m = message c.args.self.now in
    ahead_part m (at_of c.args.state.now) _ _ c.requires.ready.0 (omega arith)
    (ended c.args.state.now.next c.next_multiple_of-whole.result (length m.bytes) c.requires.state.next (size_fits c.args.self.now.sized _ _ c.if-whole-self.false))

pub link_marker-requires-clause-present : goal.link_marker-requires-clause-present
link_marker-requires-clause-present c =
    let x = marker_at c.args.state.now.links (message c.args.self.now) c.requires.holds c.args.state.now.next c.args.state.now.handle c.requires.state.next c.args.self.now.short
    c.args.place 8 c.args.place c.requires.ready.1 c.requires.ready.2 (omega arith) (omega arith) (c.is_present.ensures.0 c.if-not-is_present.false) in
    x.present

pub link_marker-requires-clause-free : goal.link_marker-requires-clause-free
link_marker-requires-clause-free c =
    let x = marker_at c.args.state.now.links (message c.args.self.now) c.requires.holds c.args.state.now.next c.args.state.now.handle c.requires.state.next c.args.self.now.short
    c.args.place 8 c.args.place c.requires.ready.1 c.requires.ready.2 (omega arith) (omega arith) (c.is_present.ensures.0 c.if-not-is_present.false) in
    x.free

pub returns-clause-passed : goal.returns-clause-passed
returns-clause-passed c so =
    let t = c.args.self.now.table.now in
    let m = message c.args.self.now in
    let old = at_of c.args.state.now in
    let inner = entry_at t (entry_at t c.args.entry).first in
    let is : c.entry-content.result ≡ inner = c.entry-content.ensures.value ∙ ap (λ (d : Entry). entry_at t d.first) c.entry.ensures.value in
    let whole : c.next_multiple_of-whole.result ≡ next_multiple_of inner.size 8 = c.next_multiple_of-whole.ensures.value ∙ ap (λ (d : Entry). next_multiple_of d.size 8) is in
    let rows = c.entry-content.result.count in
    let first = c.entry-content.result.first + c.entry-content.result.count in
    let done = c.in-Some.done in
    let passes = subst (λ (x : Entry). Passes t m (Rows x.first x.count) rows first 0 done None) is
    (subst (λ (o : Option ℕ). IfSome o (λ done. Passes t m (Rows c.entry-content.result.first c.entry-content.result.count) rows first 0 done None)) c.in-Some.is c.free_size.ensures.passes) in
    let shallow : c.args.depth < MAX_DEPTH = omega (arith, c.requires.depth, c.if-depth-eq-MAX_DEPTH.false) in
    let fits : next_multiple_of inner.size 8 ≤ length m.bytes - old.next = omega (arith, (size_fits c.args.self.now.sized _ _ c.if-whole-self.false), whole) in
    let within : done ≤ next_multiple_of inner.size 8 = rows_within t c.args.self.now.fine m c.args.depth c.args.entry c.args.place old c.requires.entry c.requires.kind c.requires.state c.requires.depth shallow fits rows first done passes in
    let z = not_err c.zeros_at.result (sym c.is_err.ensures.value ∙ c.if-is_err.false) c.zeros_at.ensures.ok in
    let z' = subst (λ n. Stands m.bytes (old.next + done) (zeros (old.next + n - (old.next + done)))) whole z in
    let v = box_passed t c.args.self.now.fine m c.args.depth c.args.entry c.args.place old c.requires.entry c.requires.kind c.requires.state c.requires.depth shallow fits rows first done passes
    (c.is_present.ensures.0 c.if-not-is_present.false) z' in
    let new : Position = record { next = old.next + c.next_multiple_of-whole.result; handle = old.handle; objects = c.link_marker.new.self.objects; records = c.link_marker.new.self.records } in
    let same : linked c.args.place inner.size old ≡ new
    = λ i. record { next = old.next + sym whole i; handle = old.handle; objects = sym c.link_marker.ensures.objects i; records = sym c.link_marker.ensures.records i } in
    let spent : rows ≡ c.args.state.now.steps + c.from.result - c.args.state.now.steps = omega (arith, c.from.ensures) in
    subst (λ n. Visits t m c.args.depth c.args.entry c.args.place old new n None) spent
    (subst (λ (s : Position). Visits t m c.args.depth c.args.entry c.args.place old s rows None) same v)

pub returns-clause-pays : goal.returns-clause-pays
returns-clause-pays c =
    let t = c.args.self.now.table.now in
    let m = message c.args.self.now in
    let old = at_of c.args.state.now in
    let inner = entry_at t (entry_at t c.args.entry).first in
    let is : c.entry-content.result ≡ inner = c.entry-content.ensures.value ∙ ap (λ (d : Entry). entry_at t d.first) c.entry.ensures.value in
    let whole : c.next_multiple_of-whole.result ≡ next_multiple_of inner.size 8 = c.next_multiple_of-whole.ensures.value ∙ ap (λ (d : Entry). next_multiple_of d.size 8) is in
    let rows = c.entry-content.result.count in
    let first = c.entry-content.result.first + c.entry-content.result.count in
    let done = c.in-Some.done in
    let passes = subst (λ (x : Entry). Passes t m (Rows x.first x.count) rows first 0 done None) is
    (subst (λ (o : Option ℕ). IfSome o (λ done. Passes t m (Rows c.entry-content.result.first c.entry-content.result.count) rows first 0 done None)) c.in-Some.is c.free_size.ensures.passes) in
    let shallow : c.args.depth < MAX_DEPTH = omega (arith, c.requires.depth, c.if-depth-eq-MAX_DEPTH.false) in
    let fits : next_multiple_of inner.size 8 ≤ length m.bytes - old.next = omega (arith, (size_fits c.args.self.now.sized _ _ c.if-whole-self.false), whole) in
    let within : done ≤ next_multiple_of inner.size 8 = rows_within t c.args.self.now.fine m c.args.depth c.args.entry c.args.place old c.requires.entry c.requires.kind c.requires.state c.requires.depth shallow fits rows first done passes in
    let wide = subst (λ (o : Option ℕ). IfSome o (λ done. c.entry-content.result.count ≤ done)) c.in-Some.is c.free_size.ensures.wide in
    omega (arith, wide, within, whole, c.from.ensures)
