use Rattle.std.proofs.Common.{◌↔◌, ℕ, ◌+◌, ◌^◌, ◌<◌, ◌≤◌, IsTrue, sym, subst, arith}
use Rattle.std.specs.Prelude.{Contains}
use Rattle.fidl_table_format.specs.declared.record.Entry.{Entry}
use Rattle.fidl_table_format.specs.declared.kind.EntryKind.TheVariants.{Enum}
use Rattle.fidl_table_format.specs.Section.{header_of, entry_at}
use Rattle.fidl_table_format.specs.Terms.{underlying, value_number, values_from}
use Rattle.fidl_table_format.specs.Uses.{uses_values}
use Rattle.fidl_table_format.specs.Entry.{IsEnumRange}
use Rattle.fidl_verify.proofs.Known.{test_of}
use Rattle.fidl_verify.proofs.table.Table.has_value.Goals as goal

pub search-requires-clause-within : goal.search-requires-clause-within
search-requires-clause-within c =
    let b = c.args.self.now in
    subst (λ (e : Entry). e.first + e.count ≤ (header_of b).values) (sym c.entry-parts.ensures.value)
    ((c.entry-parts.ensures.well_formed.entries c.args.entry c.requires.entry).children.values (test_of uses_values Enum (entry_at b c.args.entry) c.requires.kind))

pub search-requires-clause-small : goal.search-requires-clause-small
search-requires-clause-small c =
    let b = c.args.self.now in
    let few = (c.entry-parts.ensures.well_formed.entries c.args.entry c.requires.entry).shape.few_values (test_of uses_values Enum (entry_at b c.args.entry) c.requires.kind) in
    subst (λ (e : Entry). e.count < 2 ^ 16) (sym c.entry-parts.ensures.value) (omega (arith, few))

pub search-requires-clause-ranges : goal.search-requires-clause-ranges
search-requires-clause-ranges c =
    let b = c.args.self.now in
    subst (λ (e : Entry). (k : ℕ) → k < e.count → IsEnumRange b (header_of b) e k) (sym c.entry-parts.ensures.value)
    ((c.entry-parts.ensures.well_formed.entries c.args.entry c.requires.entry).sorted.values c.requires.kind)

pub returns-clause-value : goal.returns-clause-value
returns-clause-value c =
    let b = c.args.self.now in
    subst (λ (e : Entry). IsTrue c.search.result ↔ Contains (values_from b (header_of b) (underlying e) e.first e.count) (value_number (underlying e) c.args.number)) c.entry-parts.ensures.value c.search.ensures.value
