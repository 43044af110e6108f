-- The members of tables and unions.
use Rattle.std.proofs.Common.{◌≡◌, ℕ, suc, ◌+◌, List, [], ◌∷◌, length, if◌then◌else◌, Bool, true, false, Option, Some, slice_get, refl, sym, ap, ◌∙◌, subst}
use Rattle.std.specs.Prelude.{◌==◌}
use Rattle.fidl_wire.specs.Term.{Term, Rows, find}
use Rattle.fidl_wire.specs.Term as ty
use Rattle.fidl_wire.specs.Text.{name_at}
use Rattle.fidl_equivalence.specs.Alike.{AlikeMember, AlikeRows, IsNumbered, missing, there}
use Rattle.fidl_ir.specs.declared.term.Row.{Row}
use Rattle.fidl_ir.specs.Terms.{term_view, rows_view}
use Rattle.fidl_table_format.specs.Section.{header_of, row_at}
use Rattle.fidl_table_format.specs.Section.{name_at as bytes_of_name}
use Rattle.fidl_table_format.specs.Terms.{rows_from}
use Rattle.fidl_table_check.specs.Members.{IsMember}
use Rattle.fidl_table_check.proofs.Places.{next, here}

-- the row of a table at this place is a member
pub record IsRowAt (types : List Term) (bytes : List ℕ) (r : Row) (i : ℕ) : Type 0 where
  pub key : (row_at bytes (header_of bytes) i).key ≡ r.ordinal
  pub member : IsMember types bytes (row_at bytes (header_of bytes) i) r.name.items (term_view r.of)

-- its name, and its type as a number
abbrev name_of : List ℕ → ℕ → List ℕ
name_of bytes i = bytes_of_name bytes (header_of bytes) (row_at bytes (header_of bytes) i).name_place (row_at bytes (header_of bytes) i).name_length

abbrev type_of : List ℕ → ℕ → Term
type_of bytes i = ty.named (row_at bytes (header_of bytes) i).entry

same_or : {X : Type 0} (b : Bool) (x y u v : X) → x ≡ y → u ≡ v → (if b then x else u) ≡ (if b then y else v)
same_or true x y u v e f = e
same_or false x y u v e f = f

alike_or : (R : Term → Term → Type 0) (b : Bool) (t u : Term) (o p : Option Term) → R t u → AlikeMember R o p → AlikeMember R (if b then Some t else o) (if b then Some u else p)
alike_or R true t u o p h k = there h
alike_or R false t u o p h k = k

pub alike_rows : (types : List Term) (bytes : List ℕ) (rs : List Row) (first : ℕ) → ((k : ℕ) (r : Row) → slice_get rs k ≡ Some r → IsRowAt types bytes r (first + k))
    → AlikeRows (λ t u. IsNumbered types t u) (rows_view rs) (rows_from bytes (header_of bytes) first (length rs))
alike_rows types bytes [] first each = record { names = λ ordinal. refl; members = λ ordinal. missing }
alike_rows types bytes (r ∷ rs) first each =
    let h = header_of bytes in
    let R : Term → Term → Type 0 = λ t u. IsNumbered types t u in
    let one = here (IsRowAt types bytes r) first (each 0 r refl) in
    let rest = alike_rows types bytes rs (suc first) (λ k s at. next (IsRowAt types bytes s) first k (each (suc k) s at)) in
    let others : Rows = rows_from bytes h (suc first) (length rs) in
    record {
      names = λ ordinal.
          same_or (r.ordinal == ordinal) r.name.items (name_of bytes first) (name_at (rows_view rs) ordinal) (name_at others ordinal) (sym one.member.named) (rest.names ordinal)
          ∙ ap (λ n. if n == ordinal then name_of bytes first else name_at others ordinal) (sym one.key);
      members = λ ordinal.
          subst (λ n. AlikeMember R (find (rows_view (r ∷ rs)) ordinal) (if n == ordinal then Some (type_of bytes first) else find others ordinal)) (sym one.key)
          (alike_or R (r.ordinal == ordinal) (term_view r.of) (type_of bytes first) (find (rows_view rs) ordinal) (find others ordinal) one.member.numbered (rest.members ordinal));
    }
