use Rattle.std.proofs.Common.{◌∷◌, [], refl, ◌∙◌, ◌+◌, arith, inl, inr}
use Rattle.fidl_table_format.specs.Terms.{declarations_of}
use Rattle.fidl_decode_model.specs.Faults.{message_of}
use Rattle.fidl_decode_model.proofs.Moving.{moves_none}
use Rattle.fidl_decode_columns.specs.Samples.{at_start}
use Rattle.fidl_decode_columns.proofs.Examples.{zeros_only, only_zeros, fine_start, not_five}
use Rattle.fidl_decode_columns.proofs.worked.structs.a_struct_that_is_read.Goals as goal

pub returns-clause-zero : goal.returns-clause-zero
returns-clause-zero c = λ s state.
    let m = message_of (0 ∷ 5 ∷ []) [] in
    record {
      same = λ to. (
        (λ x. (s, refl, (zeros_only (declarations_of []) m 1 0 0 s to x).0)),
        (λ y. (only_zeros (declarations_of []) m 1 0 0 s to (y.1 ∙ y.2) (omega arith, refl, tt) 0).0),
      );
      least = λ to mid a b y z. only_zeros (declarations_of []) m 1 0 0 s to (y ∙ z) (omega arith, refl, tt) (a + b + 0);
      breaks = λ fault b. elim b [ inl x ↦ absurd x | inr y ↦ absurd y.2 ];
      state = state;
      moves = λ ahead clear. moves_none [] m _ _ s ahead;
      below_fine = tt;
      rest_fine = tt;
      less = omega arith;
    }

pub returns-clause-five : goal.returns-clause-five
returns-clause-five c = λ h.
    let m = message_of (0 ∷ 5 ∷ []) [] in
    let turns = h at_start fine_start in
    not_five (zeros_only (declarations_of []) m 1 1 0 at_start at_start ((turns.same at_start).1 (at_start, refl, refl))).1.1
