use Rattle.std.proofs.Common.{◌≡◌, ◌+◌, ℕ, List, ap, sym, subst, ◌∙◌, below_more, arith}
use Rattle.fidl_table_format.specs.declared.record.Row.{Row}
use Rattle.std.specs.Cmp.Lexicographic.{same_text}
use Rattle.fidl_table_format.specs.Section.{header_of, row_at, name_at}
use Rattle.fidl_reading.specs.Keys.{name_of_row}
use Rattle.fidl_reading.proofs.Keyed.{differ}
use Rattle.fidl_reading.proofs.indexed_table.IndexedTable.row_named.Goals as goal

pub loop-k-preserved : goal.loop-k-preserved
loop-k-preserved c =
    let t = c.self.inside.table.now in
    let row = c.args.first + c.loop-k.k in
    let own : c.row_name.result.now ≡ name_of_row t row = c.row_name.ensures ∙ ap (λ (r : Row). name_at t (header_of t) r.name_place r.name_length) c.row-row.ensures.value in
    let same = subst (λ (u : List ℕ). c.row_name.result.now ≡ name_of_row u row) c.self.view_is own in
    below_more _ _ c.loop-k.invariant (λ e. differ c.row_name.result.now c.args.name.now (sym c.eq.ensures ∙ c.if-eq.false) (same ∙ e))

pub returns-clause-none : goal.returns-clause-none
returns-clause-none c = λ k less. c.loop-k.invariant k (omega (arith, less, c.loop-k-test.false))

pub returns-then-eq-clause-some : goal.returns-then-eq-clause-some
returns-then-eq-clause-some c =
    let t = c.self.inside.table.now in
    let row = c.args.first + c.loop-k.k in
    let own : c.row_name.result.now ≡ name_of_row t row = c.row_name.ensures ∙ ap (λ (r : Row). name_at t (header_of t) r.name_place r.name_length) c.row-row.ensures.value in
    let same = subst (λ (u : List ℕ). c.row_name.result.now ≡ name_of_row u row) c.self.view_is own in
    let is = subst (λ (u : List ℕ). c.row-row.result ≡ row_at u (header_of u) row) c.self.view_is c.row-row.ensures.value in
    (c.loop-k.k, c.loop-k-test.true, is, sym same ∙ same_text c.row_name.result.now c.args.name.now (sym (sym c.eq.ensures ∙ c.if-eq.true)), c.loop-k.invariant)
