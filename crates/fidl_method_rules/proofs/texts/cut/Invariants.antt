use Rattle.fidl_method_rules.proofs.Cuts.{NoneBefore}
use Rattle.fidl_method_rules.proofs.texts.cut.Given as goal

-- none of the bytes so far is such
abbrev pub invariant-loop-at : goal.invariant-loop-at
invariant-loop-at l = NoneBefore l.byte l.text l.at
