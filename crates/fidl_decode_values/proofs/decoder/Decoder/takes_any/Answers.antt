use Rattle.std.proofs.Common.{ap, ◌∙◌}
use Rattle.fidl_table_format.specs.declared.record.Entry.{Entry}
use Rattle.fidl_table_format.specs.Kind.{kind_of}
use Rattle.fidl_decode_values.proofs.decoder.Decoder.takes_any.Goals as goal

pub unreachable-requires : goal.unreachable-requires
unreachable-requires c =
    let fine = c.args.self.now.fine.each c.args.row.now.entry c.requires.row in
    c.in_default.not-Some fine.0 (c.from_number.ensures ∙ ap (λ (e : Entry). kind_of e.kind) c.entry-e.ensures.value ∙ fine.1.is)
