use Rattle.std.proofs.Common.{[], ◌∷◌, refl, arith}
use Rattle.std.specs.Prelude.{pos, neg_ℤ}
use Rattle.std.proofs.lemmas.Int.{ints}
use Rattle.fidl_lower_layouts.proofs.Masks.{one_and_four, word_there}
use Rattle.fidl_lower_layouts.proofs.One.{one_mask}
use Rattle.fidl_lower_layouts.proofs.worked.masks_of_numbers.Goals as goal

pub returns-clause-two : goal.returns-clause-two
returns-clause-two c = one_and_four

pub returns-clause-twice : goal.returns-clause-twice
returns-clause-twice c = record { words = 4 ∷ 4 ∷ []; same = refl; low = (omega arith, (omega arith, tt)); is = refl }

pub returns-clause-other : goal.returns-clause-other
returns-clause-other c = λ h. let same = one_mask (pos 1 ∷ pos 4 ∷ []) 5 4 one_and_four h in omega (arith, same)

pub returns-clause-negative : goal.returns-clause-negative
returns-clause-negative c = λ mask h. let word = word_there (neg_ℤ (pos 1) ∷ []) 0 (neg_ℤ (pos 1)) (omega arith) refl mask h in let is = word.1.0 in omega (arith, ints, is)

pub returns-clause-too_high : goal.returns-clause-too_high
returns-clause-too_high c = λ mask h. let word = word_there (pos 18446744073709551616 ∷ []) 0 (pos 18446744073709551616) (omega arith) refl mask h in let is = word.1.0 in let low = word.1.1 in omega (arith, ints, is, low)
