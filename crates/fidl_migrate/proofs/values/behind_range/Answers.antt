use Rattle.std.proofs.Common.{◌≡◌, ◌+◌, pos, ◌++◌, SFits, rules, to_z, of_z, ◌∙◌, sym, ap, subst, arith}
use Rattle.std.specs.Prelude.{◌+ℤ◌, ◌≤ℤ◌}
use Rattle.std.specs.Int.{w128}
use Rattle.std.proofs.lemmas.Int.{ints, to_z-of_z}
use Rattle.fidl_table_format.specs.declared.record.ValueRange.{ValueRange}
use Rattle.fidl_table_format.specs.Section.{header_of}
use Rattle.fidl_table_format.specs.Terms.{span, underlying, value_number, values_from}
use Rattle.fidl_migrate.proofs.Spans.{fewer_missing, none_missing}
use Rattle.fidl_migrate.proofs.values.behind_range.Goals as goal

pub returns-then-high-highest : goal.returns-then-high-highest
returns-then-high-highest c =
    let bytes = c.args.table.now in
    let e = c.args.entry.now in
    let kind = underlying e in
    let next = to_z w128 c.loop-place.next-bits in
    let lowest = to_z w128 (of_z w128 c.args.lowest) in
    let highest = to_z w128 (of_z w128 c.args.highest) in
    let low = sym (ap (to_z w128) c.if-low-next.false) ∙ to_z-of_z w128 c.number_of-low.result (record { sfits = c.number_of-low.type_inv }) ∙ c.number_of-low.ensures
    ∙ ap (λ kind. value_number kind c.range-range.result.lowest) c.underlying-kind.ensures.number ∙ ap (λ (r : ValueRange). value_number kind r.lowest) c.range-range.ensures.value in
    let high = sym (ap (to_z w128) c.if-high-highest.true) ∙ to_z-of_z w128 c.number_of-high.result (record { sfits = c.number_of-high.type_inv }) ∙ c.number_of-high.ensures
    ∙ ap (λ kind. value_number kind c.range-range.result.highest) c.underlying-kind.ensures.number ∙ ap (λ (r : ValueRange). value_number kind r.highest) c.range-range.ensures.value in
    let before = values_from bytes (header_of bytes) kind e.first c.args.from in
    none_missing bytes (header_of bytes) kind (before ++ span lowest highest) e.first c.loop-place.place next highest c.loop-place.invariant low high
    ∙ ap (λ z. before ++ span z highest) (to_z-of_z w128 c.args.lowest c.ranges.lowest)
    ∙ ap (λ z. before ++ span c.args.lowest z) (to_z-of_z w128 c.args.highest c.ranges.highest)

pub loop-place-preserved : goal.loop-place-preserved
loop-place-preserved c =
    let bytes = c.args.table.now in
    let e = c.args.entry.now in
    let kind = underlying e in
    let next = to_z w128 c.loop-place.next-bits in
    let lowest = to_z w128 (of_z w128 c.args.lowest) in
    let highest = to_z w128 (of_z w128 c.args.highest) in
    let mid = to_z w128 (of_z w128 c.number_of-high.result) in
    let same : to_z w128 (of_z w128 c.number_of-low.result) ≡ next = ap (to_z w128) c.if-low-next.false in
    let low = sym same ∙ to_z-of_z w128 c.number_of-low.result (record { sfits = c.number_of-low.type_inv }) ∙ c.number_of-low.ensures
    ∙ ap (λ kind. value_number kind c.range-range.result.lowest) c.underlying-kind.ensures.number ∙ ap (λ (r : ValueRange). value_number kind r.lowest) c.range-range.ensures.value in
    let high = to_z-of_z w128 c.number_of-high.result (record { sfits = c.number_of-high.type_inv }) ∙ c.number_of-high.ensures
    ∙ ap (λ kind. value_number kind c.range-range.result.highest) c.underlying-kind.ensures.number ∙ ap (λ (r : ValueRange). value_number kind r.highest) c.range-range.ensures.value in
    let before = values_from bytes (header_of bytes) kind e.first c.args.from in
    let rises : next ≤ℤ (mid +ℤ pos 1) = grind (arith, ints) in
    let within : mid ≤ℤ highest = grind (arith, ints) in
    let fits : SFits w128 (mid +ℤ pos 1) = search rules in
    let stepped : mid +ℤ pos 1 ≡ to_z w128 (of_z w128 (mid +ℤ pos 1)) = sym (to_z-of_z w128 (mid +ℤ pos 1) fits) in
    subst (λ z. values_from bytes (header_of bytes) kind e.first (c.loop-place.place + 1) ++ span z highest ≡ before ++ span lowest highest) stepped
    (fewer_missing bytes (header_of bytes) kind (before ++ span lowest highest) e.first c.loop-place.place next mid highest c.loop-place.invariant low high rises within)
