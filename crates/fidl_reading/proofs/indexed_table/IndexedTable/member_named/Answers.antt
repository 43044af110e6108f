use Rattle.std.proofs.Common.{◌≡◌, ◌+◌, ◌<◌, ℕ, List, Option, sym, subst, ◌∙◌}
use Rattle.std.specs.Prelude.{IfSome, IfNone}
use Rattle.fidl_table_format.specs.declared.record.Entry.{Entry}
use Rattle.fidl_table_format.specs.declared.record.Row.{Row}
use Rattle.fidl_table_format.specs.Section.{header_of, entry_at, row_at}
use Rattle.fidl_verify.proofs.Members.{lies_within}
use Rattle.fidl_reading.specs.Found.{AreFound}
use Rattle.fidl_reading.specs.Keys.{name_of_row, HasNoRow}
use Rattle.fidl_reading.proofs.Sought.{map_at, first_row, no_first, lies_in, sought}
use Rattle.fidl_reading.proofs.indexed_table.IndexedTable.member_named.Goals as goal

pub returns-in_err-row-clause-none : goal.returns-in_err-row-clause-none
returns-in_err-row-clause-none c =
    let b = c.args.self.now in
    let e = entry_at b c.args.index in
    let all = c.self.inside.members.items in
    let found = subst (λ (u : List ℕ). AreFound u all) c.self.view_is c.self.invariant in
    let within = subst (λ (n : ℕ). c.args.index < n) (c.len.ensures ∙ c.self.inside.members.ok.0) c.if-place-len.true in
    let finds = map_at b all found c.args.index c.requires.entry within c.index.result.now c.index.ensures c.in-Some.rows c.in-Some.is in
    subst (λ (o : Option Row). IfNone o (HasNoRow b e.first e.count c.args.name.now)) (sym c.from_residual.ensures)
    (no_first b e.first e.count c.in-Some.rows finds c.args.name.now c.if-name-le-LONGEST_NAME.true c.in_err-row.ensures.value)

pub row-requires : goal.row-requires
row-requires c =
    let b = c.args.self.now in
    let e = entry_at b c.args.index in
    let all = c.self.inside.members.items in
    let found = subst (λ (u : List ℕ). AreFound u all) c.self.view_is c.self.invariant in
    let within = subst (λ (n : ℕ). c.args.index < n) (c.len.ensures ∙ c.self.inside.members.ok.0) c.if-place-len.true in
    let finds = map_at b all found c.args.index c.requires.entry within c.index.result.now c.index.ensures c.in-Some.rows c.in-Some.is in
    lies_in b e.first e.count c.args.name.now c.in_ok-row.row.now
    (first_row b e.first e.count c.in-Some.rows finds c.args.name.now c.if-name-le-LONGEST_NAME.true c.in_ok-row.row.now c.in_ok-row.ensures.value)
    (lies_within b c.entry-entry.ensures.well_formed c.args.index c.requires.entry c.requires.kind e (λ i. e))

pub returns-in-Some-clause-some : goal.returns-in-Some-clause-some
returns-in-Some-clause-some c =
    let b = c.args.self.now in
    let e = entry_at b c.args.index in
    let all = c.self.inside.members.items in
    let found = subst (λ (u : List ℕ). AreFound u all) c.self.view_is c.self.invariant in
    let within = subst (λ (n : ℕ). c.args.index < n) (c.len.ensures ∙ c.self.inside.members.ok.0) c.if-place-len.true in
    let finds = map_at b all found c.args.index c.requires.entry within c.index.result.now c.index.ensures c.in-Some.rows c.in-Some.is in
    sought b e.first e.count c.args.name.now c.in_ok-row.row.now
    (first_row b e.first e.count c.in-Some.rows finds c.args.name.now c.if-name-le-LONGEST_NAME.true c.in_ok-row.row.now c.in_ok-row.ensures.value)
    c.row.result c.row.ensures.value

pub row_named-requires : goal.row_named-requires
row_named-requires c = lies_within c.args.self.now c.entry-entry.ensures.well_formed c.args.index c.requires.entry c.requires.kind c.entry-entry.result c.entry-entry.ensures.value

pub returns-clause-some : goal.returns-clause-some
returns-clause-some c =
    let b = c.args.self.now in
    let name = c.args.name.now in
    subst (λ (e : Entry). IfSome c.row_named.result (λ row. (k : ℕ) × (k < e.count) × (row ≡ row_at b (header_of b) (e.first + k)) × (name_of_row b (e.first + k) ≡ name) × HasNoRow b e.first k name))
    c.entry-entry.ensures.value c.row_named.ensures.some

pub returns-clause-none : goal.returns-clause-none
returns-clause-none c = subst (λ (e : Entry). IfNone c.row_named.result (HasNoRow c.args.self.now e.first e.count c.args.name.now)) c.entry-entry.ensures.value c.row_named.ensures.none
