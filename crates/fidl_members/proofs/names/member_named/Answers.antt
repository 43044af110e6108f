use Rattle.std.proofs.Common.{◌≡◌, ◌+◌, ◌<◌, ap, refl, sym, ◌∙◌, arith}
use Rattle.fidl_table_format.specs.declared.record.Entry.{Entry}
use Rattle.fidl_table_format.specs.declared.record.Row.{Row}
use Rattle.fidl_table_format.specs.declared.kind.EntryKind.TheVariants.{Table}
use Rattle.fidl_table_format.specs.Section.{header_of, entry_at, row_at}
use Rattle.fidl_members.specs.Entries.{row_name}
use Rattle.fidl_members.proofs.Named.{rows_within}
use Rattle.fidl_members.proofs.names.member_named.Goals as goal

pub row_named-requires : goal.row_named-requires
row_named-requires c =
    let inside = rows_within c.args.table.now c.entry-parts.ensures.well_formed c.args.entry c.requires Table c.in-Table.ensures.of refl in
    let counted = ap (λ (e : Entry). e.count) c.entry-parts.ensures.value in
    let begun = ap (λ (e : Entry). e.first) c.entry-parts.ensures.value in
    omega (arith, inside, counted, begun)

pub overflow_add-parts : goal.overflow_add-parts
overflow_add-parts c =
    let inside = rows_within c.args.table.now c.entry-parts.ensures.well_formed c.args.entry c.requires Table c.in-Table.ensures.of refl in
    let counted = ap (λ (e : Entry). e.count) c.entry-parts.ensures.value in
    let begun = ap (λ (e : Entry). e.first) c.entry-parts.ensures.value in
    record { fits = omega (arith, inside, counted, begun, c.in-Some.ensures.below, c.rows-rows.ensures.value) }

pub row-requires : goal.row-requires
row-requires c =
    let t = c.args.table.now in
    let inside = rows_within t c.entry-parts.ensures.well_formed c.args.entry c.requires Table c.in-Table.ensures.of refl in
    let counted = ap (λ (e : Entry). e.count) c.entry-parts.ensures.value in
    let begun = ap (λ (e : Entry). e.first) c.entry-parts.ensures.value in
    let below : c.entry-parts.result.first + c.in-Some.at < (header_of t).rows = omega (arith, inside, counted, begun, c.in-Some.ensures.below) in
    below

pub returns-in-Some-clause-named : goal.returns-in-Some-clause-named
returns-in-Some-clause-named c =
    let t = c.args.table.now in
    let at = c.in-Some.at in
    let counted = ap (λ (e : Entry). e.count) c.entry-parts.ensures.value in
    let begun : c.entry-parts.result.first ≡ (entry_at t c.args.entry).first = ap (λ (e : Entry). e.first) c.entry-parts.ensures.value in
    let own = c.row.ensures.value ∙ ap (λ k. row_at t (header_of t) (k + at)) begun in
    let less : at < (entry_at t c.args.entry).count = omega (arith, c.in-Some.ensures.below, counted) in
    (at, ((less, ap (λ k. row_name t (k + at)) (sym begun) ∙ c.in-Some.ensures.named), λ k p e. c.in-Some.ensures.first k p (ap (λ f. row_name t (f + k)) begun ∙ e)), c.from.ensures ∙ ap (λ (r : Row). r.key) own)

pub returns-in-None-clause-none : goal.returns-in-None-clause-none
returns-in-None-clause-none c is at less e =
    let t = c.args.table.now in
    let counted = ap (λ (e : Entry). e.count) c.entry-parts.ensures.value in
    let begun : c.entry-parts.result.first ≡ (entry_at t c.args.entry).first = ap (λ (e : Entry). e.first) c.entry-parts.ensures.value in
    c.in-None.ensures.none at (omega (arith, less, counted)) (ap (λ k. row_name t (k + at)) begun ∙ e)
