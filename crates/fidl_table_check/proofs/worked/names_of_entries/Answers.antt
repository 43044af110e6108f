use Rattle.std.proofs.Common.{◌≡◌, [], ◌∷◌, get_or, refl, ap, arith}
use Rattle.std.proofs.lemmas.Option.{none-some, same_Some}
use Rattle.fidl_table_check.specs.Numbered.{entry_name}
use Rattle.fidl_table_check.specs.Samples.{one_entry}
use Rattle.fidl_table_check.proofs.worked.names_of_entries.Goals as goal

pub returns-clause-other : goal.returns-clause-other
returns-clause-other c = λ h.
    let never : 98 ≡ 97 = ap (λ l. get_or l 0 0) (same_Some (98 ∷ []) (entry_name (one_entry 16) 0) (h 0 0 refl)) in
    absurd (omega (arith, never))

pub returns-clause-no_name : goal.returns-clause-no_name
returns-clause-no_name c = λ h. none-some (entry_name (one_entry 16) 0) (h 0 0 refl)
