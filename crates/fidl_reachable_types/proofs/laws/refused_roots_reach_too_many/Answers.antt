use Rattle.std.proofs.Common.{◌≤◌, ℕ, List, length, refl, arith}
use Rattle.std.specs.Prelude.{◌≢◌}
use Rattle.fidl_wire.specs.Term.{Term}
use Rattle.fidl_reachable_types.specs.declared.fault.EntryFault.{EntryFault}
use Rattle.fidl_reachable_types.specs.declared.fault.EntryFault.TheVariants.{TooMany, Memory}
use Rattle.fidl_reachable_types.specs.Reached.{AreReached}
use Rattle.fidl_reachable_types.specs.Faults.{IsTrueOf}
use Rattle.fidl_reachable_types.proofs.Members.{at_most}
use Rattle.fidl_reachable_types.proofs.laws.refused_roots_reach_too_many.Goals as goal

never_both : (terms : List Term) (roots : List ℕ) (limit : ℕ) (fault : EntryFault) (types : List Term) → fault ≢ Memory → IsTrueOf terms roots limit fault → AreReached terms roots types → length types ≤ limit → ⊥
never_both terms roots limit TooMany types other h r within =
    let fewer = at_most h.types types h.distinct (λ t c. r.complete t (h.sound t c)) in
    let many = h.many in
    omega (arith, fewer, many, within)
never_both terms roots limit Memory types other h r within = other refl

pub returns : goal.returns
returns c = never_both
