use Rattle.fidl_decode_values.specs.Reading.{message}
use Rattle.std.proofs.Common.{◌≡◌, sym, ap, ◌∙◌, arith}
use Rattle.std.specs.Prelude.{Some}
use Rattle.fidl_table_format.specs.declared.record.Entry.{Entry}
use Rattle.fidl_table_format.specs.declared.kind.EntryKind.{EntryKind}
use Rattle.fidl_table_format.specs.declared.kind.EntryKind.TheVariants.{Vector, Box, Union}
use Rattle.fidl_table_format.specs.Kind.{kind_of}
use Rattle.fidl_table_format.specs.Section.{entry_at}
use Rattle.fidl_decode_model.specs.Machine.{at_of}
use Rattle.fidl_decode_model.proofs.Visiting.{size_as}
use Rattle.fidl_decode_values.proofs.ReadyPlaces.{place_of}
use Rattle.fidl_decode_values.proofs.decoder.Decoder.pass_value.Goals as goal

pub pass_union-requires-clause-ready : goal.pass_union-requires-clause-ready
pass_union-requires-clause-ready c =
    let is : kind_of (entry_at c.args.self.now.table.now c.args.entry).kind ≡ Some Union = ap (λ (e : Entry). kind_of e.kind) (sym c.entry-e.ensures.value) ∙ sym c.from_number.ensures ∙ c.in-Some-Union.is ∙ ap (λ (k : EntryKind). Some k) c.in-Some-Union.field-0-is in
    place_of c.args.self.now.table.now c.args.self.now.fine (message c.args.self.now) (at_of c.args.state.now) c.args.entry c.args.place Union c.requires.entry is c.requires.ready

pub pass_box-requires-clause-room : goal.pass_box-requires-clause-room
pass_box-requires-clause-room c =
    let is : kind_of (entry_at c.args.self.now.table.now c.args.entry).kind ≡ Some Box = ap (λ (e : Entry). kind_of e.kind) (sym c.entry-e.ensures.value) ∙ sym c.from_number.ensures ∙ c.in-Some-Box.is ∙ ap (λ (k : EntryKind). Some k) c.in-Some-Box.field-0-is in
    let size : 8 ≡ (entry_at c.args.self.now.table.now c.args.entry).size = size_as c.args.self.now.table.now c.args.self.now.fine c.args.entry Box c.requires.entry is in
    omega (arith, c.requires.room, size)

pub pass_box-requires-clause-ready : goal.pass_box-requires-clause-ready
pass_box-requires-clause-ready c =
    let is : kind_of (entry_at c.args.self.now.table.now c.args.entry).kind ≡ Some Box = ap (λ (e : Entry). kind_of e.kind) (sym c.entry-e.ensures.value) ∙ sym c.from_number.ensures ∙ c.in-Some-Box.is ∙ ap (λ (k : EntryKind). Some k) c.in-Some-Box.field-0-is in
    place_of c.args.self.now.table.now c.args.self.now.fine (message c.args.self.now) (at_of c.args.state.now) c.args.entry c.args.place Box c.requires.entry is c.requires.ready

pub pass_empty-requires-clause-room : goal.pass_empty-requires-clause-room
pass_empty-requires-clause-room c =
    let is : kind_of (entry_at c.args.self.now.table.now c.args.entry).kind ≡ Some Vector = ap (λ (e : Entry). kind_of e.kind) (sym c.entry-e.ensures.value) ∙ sym c.from_number.ensures ∙ c.in-Some-Vector.is ∙ ap (λ (k : EntryKind). Some k) c.in-Some-Vector.field-0-is in
    let size : 16 ≡ (entry_at c.args.self.now.table.now c.args.entry).size = size_as c.args.self.now.table.now c.args.self.now.fine c.args.entry Vector c.requires.entry is in
    omega (arith, c.requires.room, size)

pub pass_empty-requires-clause-ready : goal.pass_empty-requires-clause-ready
pass_empty-requires-clause-ready c =
    let is : kind_of (entry_at c.args.self.now.table.now c.args.entry).kind ≡ Some Vector = ap (λ (e : Entry). kind_of e.kind) (sym c.entry-e.ensures.value) ∙ sym c.from_number.ensures ∙ c.in-Some-Vector.is ∙ ap (λ (k : EntryKind). Some k) c.in-Some-Vector.field-0-is in
    place_of c.args.self.now.table.now c.args.self.now.fine (message c.args.self.now) (at_of c.args.state.now) c.args.entry c.args.place Vector c.requires.entry is c.requires.ready
