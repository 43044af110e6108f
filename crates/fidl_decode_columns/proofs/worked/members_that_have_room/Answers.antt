use Rattle.std.proofs.Common.{◌≡◌, ◌/◌, [], ◌∷◌, get_or, ap, arith}
use Rattle.fidl_decode_columns.proofs.Examples.{zeros_read}
use Rattle.fidl_decode_columns.proofs.worked.members_that_have_room.Goals as goal

pub returns-clause-two : goal.returns-clause-two
returns-clause-two c = record {
  within = omega arith;
  free = λ k from to. (zeros_read 2 (k / 8), zeros_read 4 (k / 4));
  member = omega arith;
}

pub returns-clause-object : goal.returns-clause-object
returns-clause-object c = λ h. let free = h.free 8 (omega arith) (omega arith) in absurd (omega (arith, free.0))

pub returns-clause-record : goal.returns-clause-record
returns-clause-record c = λ h. let free = h.free 12 (omega arith) (omega arith) in absurd (omega (arith, free.1))

pub returns-clause-before : goal.returns-clause-before
returns-clause-before c = record {
  within = omega arith;
  free = λ k from to. (let first : k / 8 ≡ 0 = omega (arith, to) in ap (λ i. get_or (0 ∷ 8 ∷ []) i 0) first, zeros_read 4 (k / 4));
  member = omega arith;
}
