use Rattle.std.proofs.Common.{◌+◌, ap, sym, ◌∙◌, arith}
use Rattle.std.specs.Int.{w128}
use Rattle.std.proofs.lemmas.Int.{to_z-of_z}
use Rattle.fidl_table_format.specs.declared.record.ValueRange.{ValueRange}
use Rattle.fidl_table_format.specs.Section.{header_of}
use Rattle.fidl_table_format.specs.Terms.{underlying, value_number}
use Rattle.fidl_table_check.proofs.Listed.{one_range_more, own_range, no_more}
use Rattle.fidl_table_check.proofs.values.values_are.Goals as goal

pub loop-place-preserved : goal.loop-place-preserved
loop-place-preserved c =
    let bytes = c.args.table.now in
    let e = c.args.entry.now in
    let kind = underlying e in
    let low = to_z-of_z w128 c.number_of-lowest.result (record { sfits = c.number_of-lowest.type_inv }) ∙ c.number_of-lowest.ensures
    ∙ ap (λ kind. value_number kind c.range-range.result.lowest) c.underlying-kind.ensures.number ∙ ap (λ (r : ValueRange). value_number kind r.lowest) c.range-range.ensures.value in
    let high = to_z-of_z w128 c.number_of.result (record { sfits = c.number_of.type_inv }) ∙ c.number_of.ensures
    ∙ ap (λ kind. value_number kind c.range-range.result.highest) c.underlying-kind.ensures.number ∙ ap (λ (r : ValueRange). value_number kind r.highest) c.range-range.ensures.value in
    one_range_more bytes (header_of bytes) kind c.args.values.now c.loop-place.rest.now c.in-Some.behind.now e.first c.loop-place.place c.loop-place.invariant
    (own_range bytes (header_of bytes) kind c.loop-place.rest.now c.in-Some.behind.now _ _ (e.first + c.loop-place.place) low high c.in-Some.ensures)

pub returns : goal.returns
returns c = λ t.
    let bytes = c.args.table.now in
    let e = c.args.entry.now in
    no_more bytes (header_of bytes) (underlying e) c.args.values.now c.loop-place.rest.now e.first c.loop-place.place e.count c.loop-place.invariant (omega arith) (sym c.is_empty.ensures ∙ t)
