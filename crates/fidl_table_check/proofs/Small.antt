-- A small table of one bool, for worked facts.
use Rattle.std.proofs.Common.{zero, suc, [], ◌∷◌, subst}
use Rattle.std.proofs.lemmas.Option.{none-some, same_Some}
use Rattle.fidl_wire.specs.Term.{Term, uint8, resolve}
use Rattle.fidl_wire.specs.Term as ty
use Rattle.fidl_wire.specs.Figure.{no_declarations}
use Rattle.fidl_equivalence.specs.Alike.{Alike, AreNumbered, IsNumbered}
use Rattle.fidl_equivalence.specs.Alike as like
use Rattle.fidl_table_format.specs.Terms.{declarations_of}
use Rattle.fidl_table_check.specs.Samples.{one_entry}

pub one_bool : AreNumbered no_declarations (declarations_of (one_entry 1)) (ty.bool ∷ [])
one_bool zero t at = subst (λ t. Alike (λ t u. IsNumbered (ty.bool ∷ []) t u) (resolve [] t) ty.bool) (same_Some ty.bool t at) like.bool
one_bool (suc n) t at = absurd (none-some t at)

pub no_number : {R : Term → Term → Type 0} → Alike R (ty.number uint8) ty.bool → ⊥
no_number h = elim h [ ]
