use Rattle.std.proofs.Common.{◌≡◌, Some, sym, ap, ◌∙◌, arith}
use Rattle.fidl_table_format.specs.declared.record.Entry.{Entry}
use Rattle.fidl_table_format.specs.declared.kind.EntryKind.{EntryKind}
use Rattle.fidl_table_format.specs.declared.kind.EntryKind.TheVariants.{Struct}
use Rattle.fidl_table_format.specs.Kind.{kind_of}
use Rattle.fidl_table_format.specs.Section.{entry_at}
use Rattle.fidl_decode_model.specs.Machine.{at_of}
use Rattle.fidl_decode_values.specs.Reading.{message}
use Rattle.fidl_decode_values.proofs.Begun.{frame_visits, frame_fine}
use Rattle.fidl_decode_values.proofs.decoder.Decoder.begin.Goals as goal

pub returns-clause-ok : goal.returns-clause-ok
returns-clause-ok c =
    let is : kind_of (entry_at c.args.self.now.table.now c.args.entry).kind ≡ Some Struct = ap (λ (e : Entry). kind_of e.kind) (sym c.entry-e.ensures.value) ∙ sym c.from_number.ensures ∙ c.in-Some-Struct.is ∙ ap (λ (k : EntryKind). Some k) c.in-Some-Struct.field-0-is in
    frame_visits c.args.self.now.table.now c.args.self.now.fine (message c.args.self.now) c.args.depth c.args.entry c.args.place (at_of c.args.state.now) c.requires.entry c.requires.state c.requires.depth is c.requires.room
    c.entry-e.result c.entry-e.ensures.value c.args.in_envelope c.struct_frame.result c.struct_frame.ensures _ (omega arith)

pub returns-clause-fine : goal.returns-clause-fine
returns-clause-fine c =
    let is : kind_of (entry_at c.args.self.now.table.now c.args.entry).kind ≡ Some Struct = ap (λ (e : Entry). kind_of e.kind) (sym c.entry-e.ensures.value) ∙ sym c.from_number.ensures ∙ c.in-Some-Struct.is ∙ ap (λ (k : EntryKind). Some k) c.in-Some-Struct.field-0-is in
    frame_fine c.args.self.now.table.now c.args.self.now.fine (message c.args.self.now) c.args.depth c.args.entry c.args.place (at_of c.args.state.now) c.requires.entry c.requires.state c.requires.depth is c.requires.room
    c.entry-e.result c.entry-e.ensures.value c.args.in_envelope c.struct_frame.result c.struct_frame.ensures c.requires.in_envelope
