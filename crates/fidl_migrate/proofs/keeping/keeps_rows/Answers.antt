use Rattle.std.proofs.Common.{◌≡◌, ◌∙◌, ℕ, inl, inr, subst, sym, arith}
use Rattle.fidl_verify.proofs.Stated.{or_last}
use Rattle.fidl_table_format.specs.Section.{header_of, row_at}
use Rattle.fidl_migrate.proofs.keeping.keeps_rows.Goals as goal

pub loop-index-preserved : goal.loop-index-preserved
loop-index-preserved c = λ k p. elim (or_last k c.loop-index.index (omega (arith, p))) [
  | inl less ↦ c.loop-index.invariant k less
  | inr e ↦
      let P : ℕ → Type 0 = λ i. row_at c.args.new.now (header_of c.args.new.now) i ≡ row_at c.args.old.now (header_of c.args.old.now) i in
      subst P (sym e) (sym c.row-after.ensures.value ∙ c.is_same_row.ensures c.if-not-is_same_row.false ∙ c.row-before.ensures.value)
]

pub returns : goal.returns
returns c = λ is k p. c.loop-index.invariant k (omega (arith, p))
