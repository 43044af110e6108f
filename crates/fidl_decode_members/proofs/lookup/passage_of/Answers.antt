use Rattle.std.proofs.Common.{sym, ap, ◌∙◌}
use Rattle.fidl_table_format.specs.declared.record.Entry.{Entry}
use Rattle.fidl_table_format.specs.Kind.{kind_of}
use Rattle.fidl_decode_values.specs.Reading.{message}
use Rattle.fidl_decode_members.proofs.lookup.passage_of.Goals as goal

pub unreachable-requires : goal.unreachable-requires
unreachable-requires c =
    let fine = c.args.decoder.now.fine.each c.args.entry c.requires in
    c.in_default.not-Some fine.0 (c.from_number.ensures ∙ ap (λ (e : Entry). kind_of e.kind) c.entry-e.ensures.value ∙ fine.1.is)

pub returns-in_default-kind : goal.returns-in_default-kind
returns-in_default-kind c =
    let d = c.args.decoder.now in
    c.passage_of_free.ensures d.table.now (message d) c.args.entry (sym c.entry-e.ensures.value) (sym c.from_number.ensures ∙ c.in-Some.is)
