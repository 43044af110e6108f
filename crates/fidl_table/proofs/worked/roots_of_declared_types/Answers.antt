use Rattle.std.proofs.Common.{◌≡◌, ◌∙◌, slice_get, get_or, codes, ap, sym, arith}
use Rattle.std.proofs.lemmas.Option.{same_Some}
use Rattle.fidl_table.proofs.Small.{a_struct}
use Rattle.fidl_table.proofs.worked.roots_of_declared_types.Goals as goal

pub returns-clause-same : goal.returns-clause-same
returns-clause-same c = λ files names declared. record {
  declared = declared;
  name = ap (λ ns. slice_get ns 2) names;
  entry = a_struct files names;
}

pub returns-clause-other_name : goal.returns-clause-other_name
returns-clause-other_name c = λ files names h.
    let never : 97 ≡ 98 = ap (λ l. get_or l 2 0) (same_Some (codes "l/a") (codes "l/b") (sym (ap (λ ns. slice_get ns 2) names) ∙ h.name)) in
    omega (arith, never)

pub returns-clause-other_entry : goal.returns-clause-other_entry
returns-clause-other_entry c = λ files names h.
    let never : 97 ≡ 98 = ap (λ l. get_or l 2 0) (same_Some (codes "l/a") (codes "l/b") (sym (ap (λ ns. slice_get ns 2) names) ∙ h.entry.name)) in
    omega (arith, never)
