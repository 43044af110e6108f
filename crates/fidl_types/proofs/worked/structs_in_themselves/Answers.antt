use Rattle.std.proofs.Common.{[], ◌∷◌, List, refl, subst, arith}
use Rattle.fidl_wire.specs.Term as ty
use Rattle.fidl_wire.specs.Term.{Term}
use Rattle.fidl_cycles.specs.Cycles.{step}
use Rattle.fidl_lower_layouts.proofs.One.{one_definitions}
use Rattle.fidl_ir_rules.specs.Inline.{IsFirstInItself}
use Rattle.fidl_ir_rules.proofs.Targets.{stands_in_itself}
use Rattle.fidl_ir_rules.specs.Samples.{holding}
use Rattle.fidl_types.proofs.Small.{place_there, only_place, apart}
use Rattle.fidl_types.proofs.worked.structs_in_themselves.Goals as goal

pub returns-clause-there : goal.returns-clause-there
returns-clause-there c = λ files form one h. record {
  terms = holding (ty.named 0) ∷ [];
  definitions = h;
  number = 0;
  breaks = step 0 0 ((0, omega arith, refl), omega arith, omega arith);
  reported = place_there files form one;
}

pub returns-clause-elsewhere : goal.returns-clause-elsewhere
returns-clause-elsewhere c = λ files form place one other h. other (only_place files form one h.number place h.reported)

pub returns-clause-boxed : goal.returns-clause-boxed
returns-clause-boxed c = λ files place h breaks.
    let S = holding (ty.box (ty.named 0)) in
    let same = one_definitions files breaks.terms (S ∷ []) breaks.definitions h in
    let first = subst (λ (ts : List Term). IsFirstInItself ts breaks.number) same breaks.breaks in
    let stands = stands_in_itself (S ∷ []) breaks.number first in
    apart S (λ j held. absurd (omega (arith, held.1))) breaks.number breaks.number stands
