use Rattle.fidl_decode_values.specs.Reading.{message}
use Rattle.std.proofs.Common.{◌≡◌, ◌+◌, sym, ap, ◌∙◌, arith}
use Rattle.std.specs.Prelude.{Some}
use Rattle.fidl_table_format.specs.declared.kind.EntryKind.{EntryKind}
use Rattle.fidl_table_format.specs.declared.kind.EntryKind.TheVariants.{Bool as Boolean}
use Rattle.fidl_table_format.specs.declared.record.Entry.{Entry}
use Rattle.fidl_table_format.specs.Kind.{kind_of}
use Rattle.fidl_table_format.specs.Section.{entry_at}
use Rattle.fidl_decode_model.proofs.Visiting.{size_as, visits_bool, visits_free}
use Rattle.fidl_decode_values.proofs.decoder.Decoder.next_flag.Goals as goal

pub returns-then-takes_any-clause-visits : goal.returns-then-takes_any-clause-visits
returns-then-takes_any-clause-visits c =
    let t = c.args.self.now.table.now in
    let m = message c.args.self.now in
    let free = c.takes_any.ensures.free c.if-takes_any.true in
    λ base depth s shallow state room good. visits_free t c.args.self.now.fine m depth c.args.row.now.entry (base + c.args.row.now.key) s c.requires.row state shallow free.0 free.1 free.2 0 (omega arith) room (λ i. omega (arith, c.args.self.now.octets i))

pub returns-in-Some-Bool-clause-visits : goal.returns-in-Some-Bool-clause-visits
returns-in-Some-Bool-clause-visits c =
    let t = c.args.self.now.table.now in
    let m = message c.args.self.now in
    let is : kind_of (entry_at t c.args.row.now.entry).kind ≡ Some Boolean = ap (λ (e : Entry). kind_of e.kind) (sym c.entry-e.ensures.value) ∙ sym c.from_number.ensures ∙ c.in-Some-Bool.is ∙ ap (λ (k : EntryKind). Some k) c.in-Some-Bool.field-0-is in
    let one : 1 ≡ (entry_at t c.args.row.now.entry).size = size_as t c.args.self.now.fine c.args.row.now.entry Boolean c.requires.row is in
    λ base depth s shallow state room good. visits_bool t c.args.self.now.fine m depth c.args.row.now.entry (base + c.args.row.now.key) s c.requires.row state shallow 0 (omega arith) is (omega (arith, room, one)) good
