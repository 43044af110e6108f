use Rattle.std.proofs.Common.{◌≢◌, ◌≡◌, ◌∙◌, ◌+◌, ap, sym, below_more, false, true, arith}
use Rattle.std.specs.Cmp.Lexicographic.{bytes_decides}
use Rattle.fidl_table_format.specs.declared.record.Row.{Row}
use Rattle.fidl_table_format.specs.Section.{header_of, name_at}
use Rattle.fidl_members.specs.Entries.{row_name}
use Rattle.fidl_members.proofs.names.row_named.Goals as goal

pub loop-at-preserved : goal.loop-at-preserved
loop-at-preserved c =
    let t = c.args.table.now in
    below_more (λ k. row_name t (c.args.first + k) ≢ c.args.name.now) _ c.loop-at.invariant
    (λ e.
    let own = c.row_name.ensures ∙ ap (λ (r : Row). name_at t (header_of t) r.name_place r.name_length) c.row-row.ensures.value in
    let same = (bytes_decides c.row_name.result.now c.args.name.now).1 (own ∙ e) in
    let never : false ≡ true = sym c.if-eq.false ∙ c.eq.ensures ∙ same in
    cc)

pub returns-clause-none : goal.returns-clause-none
returns-clause-none c k less = c.loop-at.invariant k (omega (arith, less, c.loop-at-test.false, c.loop-at.auto.at-end))
