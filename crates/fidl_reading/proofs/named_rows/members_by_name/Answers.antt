use Rattle.std.proofs.Common.{◌≡◌, Some, ap, sym, subst, ◌∙◌}
use Rattle.fidl_table_format.specs.declared.record.Entry.{Entry}
use Rattle.fidl_table_format.specs.declared.kind.EntryKind.TheVariants.{Union}
use Rattle.fidl_table_format.specs.Kind.{kind_of}
use Rattle.fidl_table_format.specs.Section.{entry_at}
use Rattle.fidl_table_format.specs.Uses.{uses_ordinals}
use Rattle.fidl_verify.proofs.Known.{test_of}
use Rattle.fidl_verify.proofs.Members.{lies_within}
use Rattle.fidl_reading.specs.Found.{Finds}
use Rattle.fidl_reading.proofs.named_rows.members_by_name.Goals as goal

pub rows_by_name-requires : goal.rows_by_name-requires
rows_by_name-requires c =
    let b = c.args.table.now in
    let own = entry_at b c.args.index in
    let value = c.entry-entry.ensures.value in
    let is : kind_of c.entry-entry.result.kind ≡ Some Union = sym c.from_number.ensures ∙ c.in-Some-Union.is ∙ ap Some c.in-Some-Union.field-0-is in
    let is_union = subst (λ (e : Entry). kind_of e.kind ≡ Some Union) value is in
    lies_within b c.entry-entry.ensures.well_formed c.args.index c.requires (test_of uses_ordinals Union own is_union) c.entry-entry.result value

pub returns-in_ok-rows-in-Some-Union : goal.returns-in_ok-rows-in-Some-Union
returns-in_ok-rows-in-Some-Union c = subst (λ (e : Entry). Finds c.args.table.now e.first e.count c.in_ok-rows-in-Some-Union.rows) c.entry-entry.ensures.value c.in_ok-rows-in-Some-Union.ensures
