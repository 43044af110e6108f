use Rattle.fidl_verify.proofs.laws.figures_are_small.Goals as goal

pub returns : goal.returns
returns c = λ bytes w index p. let e = w.entries index p in (e.size.limit, e.nest.limit)
