-- The types of the members of a struct that an entry declares, and of the elements of a run.
use Rattle.std.proofs.Common.{◌≡◌, ℕ, zero, suc, ◌+◌, ◌<◌, List, ap, ◌∙◌, arith}
use Rattle.std.specs.List.{AllByRecursion}
use Rattle.std.specs.Prelude.{Some}
use Rattle.fidl_wire.specs.Term as ty
use Rattle.fidl_table_format.specs.declared.record.Header.{Header}
use Rattle.fidl_table_format.specs.Section.{row_at}
use Rattle.fidl_table_format.specs.Terms.{fields_from}
use Rattle.fidl_wire.specs.Term.{Term}
use Rattle.fidl_decode_model.specs.Model.{Shown}
use Rattle.fidl_view.specs.Shows.{type_of}
use Rattle.fidl_view.specs.Elements.{Part, parts_from}
use Rattle.fidl_view.specs.Members.{field_at}

pub field_of_row : (t : List ℕ) (h : Header) (first n at : ℕ) → at < n → field_at (fields_from t h first n) at ≡ Some (ty.named (row_at t h (first + at)).entry)
field_of_row t h first zero at less = absurd (omega (arith, less))
field_of_row t h first (suc n) zero less =
    let here : first ≡ first + 0 = omega arith in
    ap (λ k. Some (ty.named (row_at t h k).entry)) here
field_of_row t h first (suc n) (suc at) less =
    let there : suc first + at ≡ first + suc at = omega arith in
    field_of_row t h (suc first) n at (omega (arith, less)) ∙ ap (λ k. Some (ty.named (row_at t h k).entry)) there

pub each_typed : (d : Shown) (index size place n : ℕ) (t : Term) → type_of d index ≡ t → AllByRecursion (λ (p : Part). type_of p.message p.index ≡ t) (parts_from d index size place n)
each_typed d index size place zero t e = tt
each_typed d index size place (suc n) t e = (e, each_typed d index size (place + size) n t e)
