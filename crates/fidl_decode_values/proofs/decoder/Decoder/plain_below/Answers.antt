use Rattle.fidl_decode_values.specs.Reading.{message}
use Rattle.std.proofs.Common.{◌≡◌, ◌+◌, ◌<◌, ◌≤◌, sym, ap, subst, ◌∙◌}
use Rattle.std.specs.Prelude.{Some}
use Rattle.fidl_table_format.specs.declared.kind.EntryKind.{EntryKind}
use Rattle.fidl_table_format.specs.declared.kind.EntryKind.TheVariants.{Box}
use Rattle.fidl_table_format.specs.declared.record.Entry.{Entry}
use Rattle.fidl_table_format.specs.Kind.{kind_of}
use Rattle.fidl_table_format.specs.Section.{header_of, entry_at}
use Rattle.fidl_decode_values.proofs.Known.{known_from, box_inside, box_rows}
use Rattle.fidl_decode_values.proofs.decoder.Decoder.plain_below.Goals as goal

pub returns-then-count-eq0 : goal.returns-then-count-eq0
returns-then-count-eq0 c =
    let t = c.args.self.now.table.now in
    let m = message c.args.self.now in
    let r = c.plain_rows.result in
    let e = c.plain_rows.ensures in
    record { known = known_from t m c.args.first 0 r.rows r.first r.count r.done r.flag e.first e.count e.passes }

pub entry-content-requires : goal.entry-content-requires
entry-content-requires c =
    let t = c.args.self.now.table.now in
    let is : kind_of (entry_at t c.row-row.result.entry).kind ≡ Some Box = ap (λ (e : Entry). kind_of e.kind) (sym c.entry-e.ensures.value) ∙ sym c.from_number.ensures ∙ c.in-Some-Box.is ∙ ap (λ (k : EntryKind). Some k) c.in-Some-Box.field-0-is in
    subst (λ (e : Entry). e.first < (header_of t).entries) (sym c.entry-e.ensures.value) (box_inside t c.args.self.now.fine c.row-row.result.entry c.row-row.ensures.entry is)

pub plain_rows-requires-in-Some-Box : goal.plain_rows-requires-in-Some-Box
plain_rows-requires-in-Some-Box c =
    let t = c.args.self.now.table.now in
    let is : kind_of (entry_at t c.row-row.result.entry).kind ≡ Some Box = ap (λ (e : Entry). kind_of e.kind) (sym c.entry-e.ensures.value) ∙ sym c.from_number.ensures ∙ c.in-Some-Box.is ∙ ap (λ (k : EntryKind). Some k) c.in-Some-Box.field-0-is in
    let rows = subst (λ (e : Entry). (entry_at t e.first).first + (entry_at t e.first).count ≤ (header_of t).rows) (sym c.entry-e.ensures.value) (box_rows t c.args.self.now.fine c.row-row.result.entry c.row-row.ensures.entry is) in
    record { within = subst (λ (e : Entry). e.first + e.count ≤ (header_of t).rows) (sym c.entry-content.ensures.value) rows }

pub returns-in-Some-Box : goal.returns-in-Some-Box
returns-in-Some-Box c =
    let t = c.args.self.now.table.now in
    let m = message c.args.self.now in
    let a = c.entry-content.result in
    let r = c.plain_rows-in-Some-Box.result in
    let e = c.plain_rows-in-Some-Box.ensures in
    record { known = known_from t m a.first a.count r.rows r.first r.count r.done r.flag e.first e.count e.passes }

pub returns-in_default : goal.returns-in_default
returns-in_default c =
    let t = c.args.self.now.table.now in
    let m = message c.args.self.now in
    let r = c.plain_rows-in_default.result in
    let e = c.plain_rows-in_default.ensures in
    record { known = known_from t m c.args.first 0 r.rows r.first r.count r.done r.flag e.first e.count e.passes }
