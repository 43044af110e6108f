use Rattle.std.proofs.Common.{ℕ, ◌<◌, subst, sym, arith}
use Rattle.fidl_table_format.specs.declared.record.Row.{Row}
use Rattle.fidl_table_format.specs.Section.{row_at}
use Rattle.fidl_verify.proofs.Ranges.{of_range, one_more}
use Rattle.fidl_verify.proofs.entry.rows_have_entries.Goals as goal

pub returns-then-row-table : goal.returns-then-row-table
returns-then-row-table c =
    let Q : Row → Type 0 = λ r. r.entry < c.args.table.now.header.entries in
    let P : ℕ → Type 0 = λ row. Q (row_at c.args.table.now.bytes.now c.args.table.now.header row) in (
      λ e. cc,
      λ all. absurd (
          let here : Q c.row.result = subst Q (sym c.row.ensures) (of_range P c.args.first c.args.count c.loop-index.index (omega arith) (omega arith) all) in
          omega arith
          ),
    )

pub loop-index-preserved : goal.loop-index-preserved
loop-index-preserved c =
    let Q : Row → Type 0 = λ r. r.entry < c.args.table.now.header.entries in
    let P : ℕ → Type 0 = λ row. Q (row_at c.args.table.now.bytes.now c.args.table.now.header row) in
    one_more P c.args.first c.loop-index.index c.loop-index.invariant (subst Q c.row.ensures (omega (arith, c.if-row-table.false)))
