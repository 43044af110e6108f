use Rattle.std.proofs.Common.{rules, ◌≡◌, ℕ, suc, List, ◌+◌, ◌-◌, ◌<◌, max, get_or, subst, sym, ap, ◌∙◌, arith, add-one}
use Rattle.std.proofs.lemmas.Grind.{common_steps}
use Rattle.fidl_wire.specs.Figure.{figure}
use Rattle.fidl_table_format.specs.declared.record.Header.{Header}
use Rattle.fidl_table_format.specs.declared.record.Row.{Row}
use Rattle.fidl_table_format.specs.declared.record.Entry.{Entry}
use Rattle.fidl_table_format.specs.Section.{row_at, entry_at}
use Rattle.fidl_table_format.specs.Terms.{stated_figure}
use Rattle.fidl_table_format.specs.Entry.{figures_of}
use Rattle.fidl_verify.proofs.Ranges.{of_range}
use Rattle.fidl_verify.proofs.Stated.{stated_at}
use Rattle.fidl_verify.proofs.Laying.{Left, begin, more, wrong, renamed}
use Rattle.fidl_verify.proofs.figure.struct_measure.Goals as goal

-- what the entry of a row states, in the list of figures
stated : (bytes : List ℕ) (h : Header) (row : ℕ) (r : Row) (e : Entry) → r ≡ row_at bytes h row → e ≡ entry_at bytes r.entry → r.entry < h.entries
    → get_or (figures_of bytes h) (row_at bytes h row).entry (figure 1 1 0) ≡ stated_figure e
stated bytes h row r e a b p =
    let same : (row_at bytes h row).entry ≡ r.entry = ap (λ (r : Row). r.entry) (sym a) in
    ap (λ i. get_or (figures_of bytes h) i (figure 1 1 0)) same ∙ stated_at bytes h r.entry (figure 1 1 0) p ∙ ap stated_figure (sym b)

pub loop-index-init : goal.loop-index-init
loop-index-init c = record {
  left = begin c.args.table.now.bytes.now c.args.table.now.header c.args.first c.args.count (c.rows_end-index-end.result - c.args.first) (omega (arith, c.rows_end-index-end.ensures));
  small = omega arith;
  narrow = omega arith;
}

pub entry-member-requires : goal.entry-member-requires
entry-member-requires c =
    let P : ℕ → Type 0 = λ row. (row_at c.args.table.now.bytes.now c.args.table.now.header row).entry < c.args.table.now.header.entries in
    let here : P c.loop-index.index = of_range P c.args.first c.args.count c.loop-index.index (omega arith) (omega arith) c.requires.members in
    subst (λ (r : Row). r.entry < c.args.table.now.header.entries) (sym c.row-row.ensures) here

pub returns-then-from-offset-clause-none : goal.returns-then-from-offset-clause-none
returns-then-from-offset-clause-none c =
    let P : ℕ → Type 0 = λ row. (row_at c.args.table.now.bytes.now c.args.table.now.header row).entry < c.args.table.now.header.entries in
    let here : P c.loop-index.index = of_range P c.args.first c.args.count c.loop-index.index (omega arith) (omega arith) c.requires.members in
    let p = subst (λ (r : Row). r.entry < c.args.table.now.header.entries) (sym c.row-row.ensures) here in
    let rest : c.rows_end-index-end.result - c.loop-index.index ≡ suc (c.rows_end-index-end.result - (c.loop-index.index + 1)) = omega arith in
    let l = subst (λ n. Left c.args.table.now.bytes.now c.args.table.now.header c.args.first c.args.count c.loop-index.index n c.loop-index.end c.loop-index.alignment c.loop-index.nest) rest c.loop-index.invariant.left in
    wrong c.args.table.now.bytes.now c.args.table.now.header c.args.first c.args.count c.loop-index.index (c.rows_end-index-end.result - (c.loop-index.index + 1)) c.loop-index.end c.loop-index.alignment c.loop-index.nest
    (stated_figure c.entry-member.result) (stated c.args.table.now.bytes.now c.args.table.now.header c.loop-index.index c.row-row.result c.entry-member.result c.row-row.ensures c.entry-member.ensures p)
    c.round_up-offset.result c.round_up-offset.ensures.value (λ k. c.if-from-offset.true (c.from.ensures ∙ ap (λ (r : Row). r.key) c.row-row.ensures ∙ k)) l

pub loop-index-preserved : goal.loop-index-preserved
loop-index-preserved c =
    let P : ℕ → Type 0 = λ row. (row_at c.args.table.now.bytes.now c.args.table.now.header row).entry < c.args.table.now.header.entries in
    let here : P c.loop-index.index = of_range P c.args.first c.args.count c.loop-index.index (omega arith) (omega arith) c.requires.members in
    let p = subst (λ (r : Row). r.entry < c.args.table.now.header.entries) (sym c.row-row.ensures) here in
    let rest : c.rows_end-index-end.result - c.loop-index.index ≡ suc (c.rows_end-index-end.result - (c.loop-index.index + 1)) = omega arith in
    let l = subst (λ n. Left c.args.table.now.bytes.now c.args.table.now.header c.args.first c.args.count c.loop-index.index n c.loop-index.end c.loop-index.alignment c.loop-index.nest) rest c.loop-index.invariant.left in
    let next = more c.args.table.now.bytes.now c.args.table.now.header c.args.first c.args.count c.loop-index.index (c.rows_end-index-end.result - (c.loop-index.index + 1)) c.loop-index.end c.loop-index.alignment c.loop-index.nest
    (stated_figure c.entry-member.result) (stated c.args.table.now.bytes.now c.args.table.now.header c.loop-index.index c.row-row.result c.entry-member.result c.row-row.ensures c.entry-member.ensures p)
    c.round_up-offset.result c.round_up-offset.ensures.value (ap (λ (r : Row). r.key) (sym c.row-row.ensures) ∙ sym c.from.ensures ∙ c.if-from-offset.false) l in
    record {
      left = renamed c.args.table.now.bytes.now c.args.table.now.header c.args.first c.args.count (suc c.loop-index.index) (c.rows_end-index-end.result - (c.loop-index.index + 1))
          (c.round_up-offset.result + c.entry-member.result.size) (max c.entry-member.result.alignment c.loop-index.alignment) (max c.entry-member.result.nest c.loop-index.nest)
          (c.loop-index.index + 1) (c.round_up-offset.result + c.from-in-loop-index.result) c.max-alignment.result c.max-nest.result
          (sym (add-one c.loop-index.index)) (ap (λ n. c.round_up-offset.result + n) (sym c.from-in-loop-index.ensures)) (sym c.max-alignment.ensures) (sym c.max-nest.ensures) next;
      small = first_of (omega arith, search rules, grind (arith, common_steps));
      narrow = c.max-nest.type_inv;
    }
