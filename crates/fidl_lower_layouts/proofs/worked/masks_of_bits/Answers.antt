use Rattle.std.proofs.Common.{[], ◌∷◌, refl}
use Rattle.std.specs.Prelude.{pos}
use Rattle.fidl_lower_layouts.proofs.Masks.{no_mask, one_and_four}
use Rattle.fidl_lower_layouts.proofs.worked.masks_of_bits.Goals as goal

pub returns-clause-strict : goal.returns-clause-strict
returns-clause-strict c = λ files f ms h. record { numbers = pos 1 ∷ pos 4 ∷ []; mask = 5; are = h; masked = one_and_four; is = refl }

pub returns-clause-empty : goal.returns-clause-empty
returns-clause-empty c = λ files f. record { numbers = []; mask = 0; are = tt; masked = no_mask; is = refl }
