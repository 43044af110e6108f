use Rattle.fidl_decode_values.specs.Reading.{message}
use Rattle.std.proofs.Common.{◌≡◌, sym, ap, ◌∙◌, arith}
use Rattle.std.specs.Prelude.{Some}
use Rattle.fidl_table_format.specs.declared.record.Entry.{Entry}
use Rattle.fidl_table_format.specs.declared.kind.EntryKind.TheVariants.{Vector}
use Rattle.fidl_table_format.specs.Kind.{kind_of}
use Rattle.fidl_table_format.specs.Section.{entry_at}
use Rattle.fidl_decode_model.specs.Machine.{at_of}
use Rattle.fidl_decode_model.proofs.Visiting.{size_as}
use Rattle.fidl_decode_values.proofs.ReadyPlaces.{first_free, place_of}
use Rattle.fidl_decode.proofs.frames.Frames.may_be_passed.Goals as goal

pub is_absent-requires-clause-free : goal.is_absent-requires-clause-free
is_absent-requires-clause-free c =
    let t = c.args.self.now.decoder.table.now in
    let m = message c.args.self.now.decoder in
    let is : kind_of (entry_at t c.args.entry).kind ≡ Some Vector = ap (λ (d : Entry). kind_of d.kind) (sym c.entry-kind.ensures.value) ∙ ap kind_of c.if-kind-eq-VECTOR.true in
    first_free m (at_of c.args.state.now) c.args.place (place_of t c.args.self.now.decoder.fine m (at_of c.args.state.now) c.args.entry c.args.place Vector c.requires.entry is c.requires.ready)

pub is_absent-requires-clause-room : goal.is_absent-requires-clause-room
is_absent-requires-clause-room c =
    let t = c.args.self.now.decoder.table.now in
    let is : kind_of (entry_at t c.args.entry).kind ≡ Some Vector = ap (λ (d : Entry). kind_of d.kind) (sym c.entry-kind.ensures.value) ∙ ap kind_of c.if-kind-eq-VECTOR.true in
    let size : 16 ≡ (entry_at t c.args.entry).size = size_as t c.args.self.now.decoder.fine c.args.entry Vector c.requires.entry is in
    omega (arith, c.requires.room, size)
