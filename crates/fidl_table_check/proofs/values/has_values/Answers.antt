use Rattle.std.proofs.Common.{◌≡◌, ◌∙◌, ℤ, List, ap, sym}
use Rattle.std.specs.Option.{option_map}
use Rattle.fidl_table_format.specs.Section.{header_of}
use Rattle.fidl_table_format.specs.Terms.{underlying, values_from}
use Rattle.fidl_table_check.proofs.Listed.{alike_values, both_flexible, both_strict}
use Rattle.fidl_table_check.proofs.values.has_values.Goals as goal

pub returns-in-None : goal.returns-in-None
returns-in-None c = λ is.
    both_flexible c.args.table.now c.args.entry.now (option_map (λ vs. vs.items) c.args.values.now) c.is_strict.result (ap (option_map (λ vs. vs.items)) c.in-None.is) c.is_strict.ensures is

pub returns-then-is_strict : goal.returns-then-is_strict
returns-then-is_strict c = λ is.
    let bytes = c.args.table.now in
    let e = c.args.entry.now in
    let zs : List ℤ = c.in-Some.values.items in
    let ws = values_from bytes (header_of bytes) (underlying e) e.first e.count in
    let same : zs ≡ ws = sym c.as_slice.ensures.value ∙ c.values_are.ensures is in
    both_strict bytes e (option_map (λ vs. vs.items) c.args.values.now) zs c.is_strict-in-Some.result (ap (option_map (λ vs. vs.items)) c.in-Some.is) c.is_strict-in-Some.ensures c.if-is_strict.true (alike_values zs ws same)
