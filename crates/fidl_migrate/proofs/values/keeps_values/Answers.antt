use Rattle.std.proofs.Common.{◌≡◌, ◌++◌, to_z, of_z, ◌∙◌, sym, ap, arith}
use Rattle.std.specs.Int.{w128}
use Rattle.std.proofs.lemmas.Int.{to_z-of_z}
use Rattle.std.proofs.lemmas.Bool.{eqb-true}
use Rattle.fidl_table_format.specs.declared.record.ValueRange.{ValueRange}
use Rattle.fidl_table_format.specs.Section.{header_of}
use Rattle.fidl_table_format.specs.Terms.{span, underlying, value_number, values_from}
use Rattle.fidl_migrate.proofs.Spans.{one_more}
use Rattle.fidl_migrate.proofs.values.keeps_values.Goals as goal

pub loop-index-preserved : goal.loop-index-preserved
loop-index-preserved c =
    let bytes = c.args.new.now in
    let kind = underlying c.args.before.now in
    let low = to_z w128 (of_z w128 c.number_of-low.result) in
    let high = to_z w128 (of_z w128 c.number_of.result) in
    let lowest = to_z-of_z w128 c.number_of-low.result (record { sfits = c.number_of-low.type_inv }) ∙ c.number_of-low.ensures
    ∙ ap (λ kind. value_number kind c.range-range.result.lowest) c.underlying-kind.ensures.number ∙ ap (λ (r : ValueRange). value_number kind r.lowest) c.range-range.ensures.value in
    let highest = to_z-of_z w128 c.number_of.result (record { sfits = c.number_of.type_inv }) ∙ c.number_of.ensures
    ∙ ap (λ kind. value_number kind c.range-range.result.highest) c.underlying-kind.ensures.number ∙ ap (λ (r : ValueRange). value_number kind r.highest) c.range-range.ensures.value in
    one_more bytes (header_of bytes) kind c.args.after.now.first c.loop-index.index low high lowest highest
    ∙ ap (λ vs. vs ++ span low high) c.loop-index.invariant ∙ sym c.in-Some.ensures

pub returns : goal.returns
returns c = λ is.
    let new = c.args.new.now in
    let old = c.args.old.now in
    let kind = underlying c.args.before.now in
    let all : c.loop-index.index ≡ c.args.after.now.count = omega arith in
    let end : c.loop-index.place ≡ c.args.before.now.count = eqb-true c.loop-index.place c.args.before.now.count is in
    sym (ap (values_from new (header_of new) kind c.args.after.now.first) all) ∙ c.loop-index.invariant ∙ ap (values_from old (header_of old) kind c.args.before.now.first) end
