use Rattle.std.proofs.Common.{◌≡◌, ◌+◌, ◌<◌, ap, refl, sym, ◌∙◌, arith}
use Rattle.fidl_table_format.specs.declared.record.Entry.{Entry}
use Rattle.fidl_table_format.specs.declared.kind.EntryKind.TheVariants.{Struct}
use Rattle.fidl_table_format.specs.Section.{entry_at}
use Rattle.fidl_members.specs.Entries.{row_name}
use Rattle.fidl_members.proofs.Named.{rows_within}
use Rattle.fidl_members.proofs.names.field_named.Goals as goal

pub row_named-requires : goal.row_named-requires
row_named-requires c =
    let inside = rows_within c.args.table.now c.entry-parts.ensures.well_formed c.args.entry c.requires Struct c.in-Struct.ensures.of refl in
    let counted = ap (λ (e : Entry). e.count) c.entry-parts.ensures.value in
    let begun = ap (λ (e : Entry). e.first) c.entry-parts.ensures.value in
    omega (arith, inside, counted, begun)

pub returns-in-None-clause-none : goal.returns-in-None-clause-none
returns-in-None-clause-none c is at less e =
    let t = c.args.table.now in
    let counted = ap (λ (e : Entry). e.count) c.entry-parts.ensures.value in
    let begun : c.entry-parts.result.first ≡ (entry_at t c.args.entry).first = ap (λ (e : Entry). e.first) c.entry-parts.ensures.value in
    c.in-None.ensures.none at (omega (arith, less, counted)) (ap (λ k. row_name t (k + at)) begun ∙ e)

pub returns-in-Some-clause-named : goal.returns-in-Some-clause-named
returns-in-Some-clause-named c =
    let t = c.args.table.now in
    let at = c.in-Some.at in
    let counted = ap (λ (e : Entry). e.count) c.entry-parts.ensures.value in
    let begun : c.entry-parts.result.first ≡ (entry_at t c.args.entry).first = ap (λ (e : Entry). e.first) c.entry-parts.ensures.value in
    let less : at < (entry_at t c.args.entry).count = omega (arith, c.in-Some.ensures.below, counted) in
    ((less, ap (λ k. row_name t (k + at)) (sym begun) ∙ c.in-Some.ensures.named), λ k p e. c.in-Some.ensures.first k p (ap (λ f. row_name t (f + k)) begun ∙ e))
