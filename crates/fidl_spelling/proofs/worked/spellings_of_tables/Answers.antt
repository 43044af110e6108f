use Rattle.std.proofs.Common.{[], ◌∷◌, codes, refl, arith, inl, inr, rules, ◌^◌}
use Rattle.fidl_wire.specs.Term.{Rows, no_rows, row, uint8}
use Rattle.fidl_wire.specs.Term as ty
use Rattle.fidl_spelling.specs.Spells.{Means, IsNumberBelow, AreHex}
use Rattle.fidl_spelling.proofs.worked.spellings_of_tables.Goals as goal

pub returns : goal.returns
returns c =
    let rows : Rows = row 1 (codes "a") ty.bool (row 2 (codes "a") (ty.number uint8) no_rows) in
    let means : Means rows 1 (codes "a") = record { bears = inl (refl, refl); lowest = λ k h. elim h [ inl x ↦ omega (arith, x.0) | inr y ↦ elim y [ inl x ↦ omega (arith, x.0) | inr z ↦ absurd z ] ] } in
    let five : IsNumberBelow (2 ^ 64) 5 (codes "5") = search rules in
    let again : IsNumberBelow (2 ^ 64) 5 (codes "05") = search rules in
    let nine : IsNumberBelow (2 ^ 32) 9 (codes "9") = search rules in
    let three : IsNumberBelow (2 ^ 32) 3 (codes "3") = search rules in
    let one : IsNumberBelow (2 ^ 32) 1 (codes "1") = search rules in
    let hex : AreHex (10 ∷ 255 ∷ 0 ∷ 0 ∷ []) (codes "0aFf0000") = search rules in
    (_, refl, (_, refl, (_, (_, five, refl), (_, refl, (_, refl, (_, (omega arith, (_, refl, (_, (_, (_, means, refl), (_, refl, refl)), (omega arith, (_, refl, (_, (_, (_, again, refl), (_, refl, (_, refl, (_, refl, (_, (_, hex, refl), (_, refl, (_, (_, refl, (_, (_, refl, (_, refl, (_, (_, nine, refl), (_, refl, (_, (_, three, refl), (_, refl, (_, (_, one, refl), refl))))))), refl)), refl))))))), refl)))))), refl))))))
