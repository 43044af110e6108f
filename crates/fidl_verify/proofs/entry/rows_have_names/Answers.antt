use Rattle.std.proofs.Common.{ℕ, subst, sym, arith}
use Rattle.fidl_table_format.specs.declared.record.Row.{Row}
use Rattle.fidl_table_format.specs.Section.{row_at}
use Rattle.fidl_table_format.specs.Name.{IsMemberName}
use Rattle.fidl_verify.proofs.Breaking.{refused}
use Rattle.fidl_verify.proofs.Ranges.{of_range, one_more}
use Rattle.fidl_verify.proofs.entry.rows_have_names.Goals as goal

pub returns-then-not-is_member_name-clause-value : goal.returns-then-not-is_member_name-clause-value
returns-then-not-is_member_name-clause-value c =
    let Q : Row → Type 0 = λ r. IsMemberName c.args.table.now.bytes.now c.args.table.now.header r.name_place r.name_length in
    let P : ℕ → Type 0 = λ row. Q (row_at c.args.table.now.bytes.now c.args.table.now.header row) in
    (λ e. cc, λ all. absurd (refused c.if-not-is_member_name.ensures.value (subst Q (sym c.row-row.ensures) (of_range P c.args.first c.args.count c.loop-index.index (omega arith) (omega arith) all))))

pub loop-index-preserved : goal.loop-index-preserved
loop-index-preserved c =
    let Q : Row → Type 0 = λ r. IsMemberName c.args.table.now.bytes.now c.args.table.now.header r.name_place r.name_length in
    let P : ℕ → Type 0 = λ row. Q (row_at c.args.table.now.bytes.now c.args.table.now.header row) in
    record {
      kept = one_more P c.args.first c.loop-index.index c.loop-index.invariant.kept (subst Q c.row-row.ensures (c.is_member_name.ensures.value.0 c.if-not-is_member_name.false));
      seen = c.is_member_name.ensures.seen;
    }
