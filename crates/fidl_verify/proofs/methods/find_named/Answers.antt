use Rattle.std.proofs.Common.{◌≡◌, ◌∙◌, sym, subst, inl, inr, arith, false, true}
use Rattle.std.specs.Cmp.Lexicographic.{bytes_decides}
use Rattle.fidl_table_format.specs.Method.{method_name}
use Rattle.fidl_verify.proofs.Stated.{or_last}
use Rattle.fidl_verify.proofs.methods.find_named.Goals as goal

pub loop-index-preserved : goal.loop-index-preserved
loop-index-preserved c = λ k from p e.
    elim (or_last k c.loop-index.index (omega (arith, p))) [
      | inl less ↦ c.loop-index.invariant k from less e
      | inr here ↦
          let there = subst (λ i. method_name c.args.table.now.bytes.now c.args.table.now.header i ≡ c.args.name.now) here e in
          let same = (bytes_decides c.method_name.result.now c.args.name.now).1 (c.method_name.ensures ∙ there) in
          let never : false ≡ true = sym c.if-eq.false ∙ c.eq.ensures ∙ same in
          cc
    ]
