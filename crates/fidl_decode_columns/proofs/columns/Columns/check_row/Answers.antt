use Rattle.std.proofs.Common.{◌≡◌, ℕ, ◌+◌, ◌-◌, ◌*◌, ◌≤◌, sym, ap, subst, ◌∙◌, arith}
use Rattle.std.specs.Prelude.{Some, true}
use Rattle.fidl_wire.specs.Encoding.{zeros}
use Rattle.fidl_wire.specs.Standing.{Stands}
use Rattle.fidl_table_format.specs.declared.kind.EntryKind.{EntryKind}
use Rattle.fidl_table_format.specs.declared.record.Row as raw
use Rattle.fidl_table_format.specs.Kind.{kind_of}
use Rattle.fidl_table_format.specs.Section.{header_of, entry_at, row_at}
use Rattle.fidl_table_format.specs.Terms.{term_as}
use Rattle.fidl_decode_model.specs.Breaks.{IsPadding, BreaksField}
use Rattle.fidl_decode_model.specs.Faults.{message_of}
use Rattle.fidl_decode_model.proofs.Visiting.{same_some}
use Rattle.fidl_decode_columns.specs.Columns.{has_numbers, IsNumericAt, IsGoodAt, IsReadTo, IsBroken, Narrows}
use Rattle.fidl_decode_columns.proofs.Counted.{none_known, where_none}
use Rattle.fidl_decode_columns.proofs.Narrowed.{right_le}
use Rattle.fidl_decode_columns.proofs.Sizes.{gaps_fit}
use Rattle.fidl_decode_columns.proofs.Reading.{rows_within, row_behind, row_fits, front_le, row_checked}
use Rattle.fidl_decode_columns.proofs.columns.Columns.check_row.Goals as goal

pub row-row-requires : goal.row-row-requires
row-row-requires c =
    let rows = rows_within c.args.self.now.table.now c.args.self.now.fine (message_of c.args.self.now.links.now.came c.args.self.now.handles.now) c.args.structs.now c.requires.structs in
    omega (arith, rows, c.requires.below)

pub check_gap-front-requires-clause-order : goal.check_gap-front-requires-clause-order
check_gap-front-requires-clause-order c =
    let before = row_behind c.args.self.now.table.now c.args.self.now.fine (message_of c.args.self.now.links.now.came c.args.self.now.handles.now) c.args.structs.now c.args.index c.args.done c.requires.index c.requires.below c.requires.rise in
    subst (λ (w : raw.Row). c.args.done ≤ w.key) (sym c.row-row.ensures.value) before

pub check_gap-front-requires-clause-end : goal.check_gap-front-requires-clause-end
check_gap-front-requires-clause-end c =
    let fits = row_fits c.args.self.now.table.now c.args.self.now.fine (message_of c.args.self.now.links.now.came c.args.self.now.handles.now) c.args.structs.now c.args.index c.args.done c.requires.index c.requires.below c.requires.rise in
    subst (λ (w : raw.Row). w.key ≤ c.args.structs.now.entry.size) (sym c.row-row.ensures.value) (omega (arith, fits))

pub check_gap-front-requires-clause-within : goal.check_gap-front-requires-clause-within
check_gap-front-requires-clause-within c = c.requires.structs.within

pub check_gap-front-requires-clause-known : goal.check_gap-front-requires-clause-known
check_gap-front-requires-clause-known c =
    let t = c.args.self.now.table.now in
    let m = message_of c.args.self.now.links.now.came c.args.self.now.handles.now in
    right_le (IsReadTo t m c.args.structs.now c.args.index c.args.done) (IsBroken t m c.args.structs.now) c.args.structs.now.count c.args.known c.requires.known

pub check_member-requires-clause-entry : goal.check_member-requires-clause-entry
check_member-requires-clause-entry c = c.row-row.ensures.entry

pub check_member-requires-clause-numeric : goal.check_member-requires-clause-numeric
check_member-requires-clause-numeric c = subst (λ (w : raw.Row). IsNumericAt c.args.self.now.table.now w.entry) (sym c.row-row.ensures.value) c.requires.numeric

pub check_member-requires-clause-end : goal.check_member-requires-clause-end
check_member-requires-clause-end c =
    let t = c.args.self.now.table.now in
    let fits = row_fits t c.args.self.now.fine (message_of c.args.self.now.links.now.came c.args.self.now.handles.now) c.args.structs.now c.args.index c.args.done c.requires.index c.requires.below c.requires.rise in
    subst (λ (w : raw.Row). w.key + (entry_at t w.entry).size ≤ c.args.structs.now.entry.size) (sym c.row-row.ensures.value) fits

pub check_member-requires-clause-within : goal.check_member-requires-clause-within
check_member-requires-clause-within c = c.requires.structs.within

pub check_member-requires-clause-known : goal.check_member-requires-clause-known
check_member-requires-clause-known c =
    let t = c.args.self.now.table.now in
    let bytes = c.args.self.now.links.now.came in
    let m = message_of bytes c.args.self.now.handles.now in
    let x = c.args.structs.now in
    let at : ℕ → ℕ = λ k. c.args.structs.now.base + c.args.structs.now.entry.size * k + c.args.done in
    let gaps = subst (λ (w : raw.Row). Narrows (λ k. Stands bytes (at k) (zeros (w.key - c.args.done))) (λ k. IsPadding bytes (at k) (at k + (w.key - c.args.done))) c.args.structs.now.count c.args.known c.check_gap-front.result) c.row-row.ensures.value c.check_gap-front.ensures.value in
    front_le t c.args.self.now.fine m c.args.structs.now c.args.index c.args.done c.requires.index c.requires.below c.requires.rise c.args.known c.check_gap-front.result c.requires.known gaps

pub check_member-requires-clause-budget : goal.check_member-requires-clause-budget
check_member-requires-clause-budget c =
    let fits = row_fits c.args.self.now.table.now c.args.self.now.fine (message_of c.args.self.now.links.now.came c.args.self.now.handles.now) c.args.structs.now c.args.index c.args.done c.requires.index c.requires.below c.requires.rise in
    let key : c.row-row.result.key ≡ (row_at c.args.self.now.table.now (header_of c.args.self.now.table.now) c.args.index).key = ap (λ (w : raw.Row). w.key) c.row-row.ensures.value in
    let few = gaps_fit c.args.structs.now.count c.args.structs.now.count (c.row-row.result.key - c.args.done) c.args.structs.now.entry.size c.args.structs.now.base _ (omega arith) (omega (arith, fits, key)) c.requires.structs.within in
    omega (arith, few, c.requires.budget, c.check_gap-front.ensures.cost, c.args.self.now.short)

pub returns-clause-value : goal.returns-clause-value
returns-clause-value c =
    let t = c.args.self.now.table.now in
    let bytes = c.args.self.now.links.now.came in
    let m = message_of bytes c.args.self.now.handles.now in
    let own = c.row-row.ensures.value in
    let front = c.check_gap-front.result in
    let start : ℕ → ℕ = λ k. c.args.structs.now.base + c.args.structs.now.entry.size * k in
    let gaps = subst (λ (w : raw.Row). Narrows (λ k. Stands bytes (start k + c.args.done) (zeros (w.key - c.args.done))) (λ k. IsPadding bytes (start k + c.args.done) (start k + c.args.done + (w.key - c.args.done))) c.args.structs.now.count c.args.known c.check_gap-front.result) own
    c.check_gap-front.ensures.value in
    let new = subst (λ (w : raw.Row). (kind : EntryKind) × (kind_of (entry_at t w.entry).kind ≡ Some kind) × Narrows (λ k. IsGoodAt t bytes (entry_at t w.entry) kind (start k + w.key)) (λ k. BreaksField m (term_as kind t (header_of t) (entry_at t w.entry)) (start k + w.key))
    c.args.structs.now.count c.check_gap-front.result c.check_member.result) own c.check_member.ensures.value in
    let numeric = c.requires.numeric in
    let numbers = subst (λ (k : EntryKind). has_numbers k ≡ true) (same_some numeric.0 new.0 (sym numeric.1 ∙ new.1)) numeric.2 in
    row_checked t c.args.self.now.fine m c.args.structs.now c.args.index c.args.done c.requires.index c.requires.below c.requires.rise c.args.known c.check_gap-front.result c.requires.known gaps c.requires.structs
    (λ i. omega (arith, c.args.self.now.octets i)) new.0 new.1 numbers c.check_member.result new.2

pub returns-clause-cost : goal.returns-clause-cost
returns-clause-cost c =
    let key : c.row-row.result.key ≡ (row_at c.args.self.now.table.now (header_of c.args.self.now.table.now) c.args.index).key = ap (λ (w : raw.Row). w.key) c.row-row.ensures.value in
    let same : c.args.structs.now.count * (c.row-row.result.key - c.args.done) ≡ c.args.structs.now.count * ((row_at c.args.self.now.table.now (header_of c.args.self.now.table.now) c.args.index).key - c.args.done) = ap (λ n. c.args.structs.now.count * (n - c.args.done)) key in
    omega (arith, same, c.check_gap-front.ensures.cost, c.check_member.ensures.cost)

pub returns-clause-least : goal.returns-clause-least
returns-clause-least c =
    let gap = c.check_gap-front.ensures.value in
    let member = c.check_member.ensures.value in
    let grows = c.check_gap-front.ensures.grows in
    where_none c.check_gap-front.result c.check_member.result (none_known c.check_gap-front.result member.2.0 c.check_member.result member.2.1) c.check_member.ensures.least (none_known c.args.known gap.0 c.check_gap-front.result gap.1)
    (λ front none le. (none, omega (arith, le, grows)))
