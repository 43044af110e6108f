use Rattle.std.proofs.Common.{List, ℕ, subst}
use Rattle.fidl_expected.specs.Expected.{GoesOn}
use Rattle.fidl_expected.proofs.trying.expected.Goals as goal

pub returns-then-branch : goal.returns-then-branch
returns-then-branch c = subst (λ (w : List ℕ). GoesOn c.args.src.now c.args.at w) c.word.ensures (c.in_ok-goes_on.ensures c.if-branch.true)
