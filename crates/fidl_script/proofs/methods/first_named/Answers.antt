use Rattle.std.proofs.Common.{sym, ◌∙◌, below_more, arith}
use Rattle.std.specs.Cmp.Lexicographic.{bytes_decides}
use Rattle.fidl_reading.proofs.Keyed.{differ}
use Rattle.fidl_script.proofs.methods.first_named.Goals as goal

pub returns-then-eq-clause-found : goal.returns-then-eq-clause-found
returns-then-eq-clause-found c = record {
  within = omega arith;
  named = sym c.name_at.ensures ∙ (bytes_decides c.name_at.result.now c.args.name.now).0 (sym c.eq.ensures ∙ c.if-eq.true);
  first = c.loop-place.invariant;
}

pub loop-place-preserved : goal.loop-place-preserved
loop-place-preserved c = below_more _ _ c.loop-place.invariant (λ e. differ c.name_at.result.now c.args.name.now (sym c.eq.ensures ∙ c.if-eq.false) (c.name_at.ensures ∙ e))

pub returns-clause-none : goal.returns-clause-none
returns-clause-none c = λ k less. c.loop-place.invariant k (omega (arith, less))
