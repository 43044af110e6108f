-- The members of structs.
use Rattle.std.proofs.Common.{◌≡◌, ℕ, suc, ◌+◌, List, [], ◌∷◌, length, Some, slice_get, refl, sym}
use Rattle.fidl_wire.specs.Term.{Term}
use Rattle.fidl_equivalence.specs.Alike.{AlikeFields, IsNumbered}
use Rattle.fidl_equivalence.specs.Alike as like
use Rattle.fidl_ir.specs.declared.term.Field.{Field}
use Rattle.fidl_ir.specs.Terms.{term_view, fields_view}
use Rattle.fidl_table_format.specs.Section.{header_of, row_at}
use Rattle.fidl_table_format.specs.Terms.{fields_from}
use Rattle.fidl_table_check.specs.Members.{IsMember}
use Rattle.fidl_table_check.proofs.Places.{next, here}

pub alike_fields : (types : List Term) (bytes : List ℕ) (fs : List Field) (first : ℕ)
    → ((k : ℕ) (f : Field) → slice_get fs k ≡ Some f → IsMember types bytes (row_at bytes (header_of bytes) (first + k)) f.name.items (term_view f.of))
    → AlikeFields (λ t u. IsNumbered types t u) (fields_view fs) (fields_from bytes (header_of bytes) first (length fs))
alike_fields types bytes [] first each = like.no_fields
alike_fields types bytes (f ∷ fs) first each =
    let h = header_of bytes in
    let m = here (λ i. IsMember types bytes (row_at bytes h i) f.name.items (term_view f.of)) first (each 0 f refl) in
    like.field (sym m.named) m.numbered
    (alike_fields types bytes fs (suc first) (λ k g at. next (λ i. IsMember types bytes (row_at bytes h i) g.name.items (term_view g.of)) first k (each (suc k) g at)))
