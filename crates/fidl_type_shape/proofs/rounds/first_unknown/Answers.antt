use Rattle.std.proofs.Common.{inl, inr, true, length, arith}
use Rattle.std.proofs.lemmas.Bool.{cases_lt}
use Rattle.std.proofs.lemmas.List.{get_or_past}
use Rattle.fidl_type_shape.proofs.rounds.first_unknown.Goals as goal

pub returns-clause-none : goal.returns-clause-none
returns-clause-none c = λ none i. elim (cases_lt i (length c.args.known.now)) [
  | inl within ↦ c.loop-number.invariant i (omega (arith, within, c.loop-number-test.false))
  | inr past ↦ get_or_past c.args.known.now i true past
]
