use Rattle.std.proofs.Common.{◌≡◌, ◌<◌, ℕ, zero, suc, true, false, refl, sym, subst, ◌∙◌, arith}
use Rattle.std.specs.Prelude.{Option, Some, IfSome}
use Rattle.fidl_table_format.specs.declared.kind.EntryKind.{EntryKind}
use Rattle.fidl_table_format.specs.declared.kind.EntryKind.TheVariants.{Uint8, Box}
use Rattle.fidl_table_format.specs.Samples.{struct_and_box, table_and_union}
use Rattle.fidl_table_format.specs.Section.{header_of, entry_at, row_at}
use Rattle.fidl_decode_model.specs.Invariants.{IsLeafAt, is_leaf}
use Rattle.fidl_decode.proofs.worked.rows_of_leaves.Goals as goal

two_numbers : (i : ℕ) → i < 2 → IsLeafAt (table_and_union 1 2 1 2) (row_at (table_and_union 1 2 1 2) (header_of (table_and_union 1 2 1 2)) i).entry
two_numbers zero lt = (Uint8, refl, refl)
two_numbers (suc zero) lt = (Uint8, refl, refl)
two_numbers (suc (suc i)) lt = absurd (omega (arith, lt))

no_leaf : (k : EntryKind) → Some Box ≡ Some k → is_leaf (struct_and_box 0 0) (entry_at (struct_and_box 0 0) 1) k ≡ true → ⊥
no_leaf k is leaf =
    let of_box : is_leaf (struct_and_box 0 0) (entry_at (struct_and_box 0 0) 1) k ≡ false =
    subst (λ (o : Option EntryKind). IfSome o (λ k. is_leaf (struct_and_box 0 0) (entry_at (struct_and_box 0 0) 1) k ≡ false)) is refl in
    let never : false ≡ true = sym of_box ∙ leaf in cc

pub returns-clause-numbers : goal.returns-clause-numbers
returns-clause-numbers c = λ i from lt. two_numbers i (omega (arith, lt))

pub returns-clause-holder : goal.returns-clause-holder
returns-clause-holder c = λ all. let x = all 0 (omega arith) (omega arith) in no_leaf x.0 x.1 x.2
