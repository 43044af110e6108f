use Rattle.std.proofs.Common.{ℕ, inl, inr, subst, sym, arith}
use Rattle.fidl_verify.proofs.Stated.{or_last}
use Rattle.fidl_table_format.specs.Section.{entry_at}
use Rattle.fidl_migrate.specs.Kept.{KeepsEntry}
use Rattle.fidl_migrate.proofs.keeping.keeps_entries.Goals as goal

pub loop-index-preserved : goal.loop-index-preserved
loop-index-preserved c = λ k p. elim (or_last k c.loop-index.index (omega (arith, p))) [
  | inl less ↦ c.loop-index.invariant k less
  | inr e ↦
      let P : ℕ → Type 0 = λ i. KeepsEntry c.args.old.now c.args.new.now (entry_at c.args.old.now i) (entry_at c.args.new.now i) in
      subst P (sym e) (c.keeps_entry.ensures c.if-not-keeps_entry.false)
]

pub returns : goal.returns
returns c = λ is k p. c.loop-index.invariant k (omega (arith, p))
