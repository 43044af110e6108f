-- Each row of a well-formed table is a member of a struct, table or union.
use Rattle.std.proofs.Common.{◌≡◌, ℕ, zero, suc, ◌+◌, ◌<◌, ◌≤◌, ◌⊎◌, inl, inr, List, Bool, true, false, IsTrue, if◌then◌else◌, refl, ap, sym, ◌∙◌, subst, arith}
use Rattle.std.proofs.lemmas.Bool.{cases_order}
use Rattle.fidl_table_format.specs.declared.record.Header.{Header}
use Rattle.fidl_table_format.specs.declared.record.Row.{Row}
use Rattle.fidl_table_format.specs.declared.record.Entry.{Entry}
use Rattle.fidl_table_format.specs.Section.{header_of, entry_at, row_at}
use Rattle.fidl_table_format.specs.Uses.{uses_rows}
use Rattle.fidl_table_format.specs.Name.{IsMemberName}
use Rattle.fidl_table_format.specs.Entry.{kind_is, IsEntry, IsRowOf, rows_of, rows_before}
use Rattle.fidl_table_format.specs.WellFormed.{WellFormed}
use Rattle.fidl_verify.proofs.Known.{parts_used}
use Rattle.fidl_verify.proofs.Ranges.{of_range}

-- an entry that has a row uses rows
some_rows : (uses : Bool) (count : ℕ) → 0 < (if uses then count else 0) → IsTrue uses
some_rows true count some = refl
some_rows false count some = absurd (omega (arith, some))

below_or_not : (a b : ℕ) → (a < b) ⊎ (b ≤ a)
below_or_not a b = elim (cases_order a b) [ inl e ↦ inr (omega (arith, e)) | inr (inl q) ↦ inl q | inr (inr q) ↦ inr (omega (arith, q)) ]

-- the entry whose rows have this one
owner : (bytes : List ℕ) (h : Header) → ((index : ℕ) → index < h.entries → IsEntry bytes h index) → (n : ℕ) → n ≤ h.entries → (row : ℕ) → row < rows_before bytes n
    → (index : ℕ) × (index < h.entries) × IsRowOf (entry_at bytes index) row
owner bytes h es zero p row q = absurd (omega (arith, q))
owner bytes h es (suc n) p row q =
    elim (below_or_not row (rows_before bytes n)) [
      | inl below ↦ owner bytes h es n (omega (arith, p)) row below
      | inr above ↦
          let here : n < h.entries = omega (arith, p) in
          let e = es n here in
          let some : 0 < rows_of (entry_at bytes n) = omega (arith, q, above) in
          let uses = some_rows (kind_is uses_rows (entry_at bytes n)) (entry_at bytes n).count some in
          let first : (entry_at bytes n).first ≡ rows_before bytes n = e.rows uses in
          let count : rows_of (entry_at bytes n) ≡ (entry_at bytes n).count = parts_used uses_rows (entry_at bytes n) uses in
          (n, here, record { has_rows = uses; from = omega (arith, first, above); to = omega (arith, first, count, q) })
    ]

pub owned : (bytes : List ℕ) → WellFormed bytes → (row : ℕ) → row < (header_of bytes).rows
    → (index : ℕ) × (index < (header_of bytes).entries) × IsRowOf (entry_at bytes index) row
owned bytes w row p = owner bytes (header_of bytes) w.entries (header_of bytes).entries (omega arith) row (subst (λ n. row < n) (sym w.covered) p)

-- the row's type is an entry
pub row_entry : (bytes : List ℕ) → WellFormed bytes → (row : ℕ) → row < (header_of bytes).rows → (row_at bytes (header_of bytes) row).entry < (header_of bytes).entries
row_entry bytes w row p =
    let o = owned bytes w row p in
    of_range (λ n. (row_at bytes (header_of bytes) n).entry < (header_of bytes).entries) (entry_at bytes o.0).first (entry_at bytes o.0).count row o.2.from o.2.to
    ((w.entries o.0 o.1).children.members o.2.has_rows)

-- the row's name is a member's name
pub row_named : (bytes : List ℕ) → WellFormed bytes → (row : ℕ) → row < (header_of bytes).rows
    → IsMemberName bytes (header_of bytes) (row_at bytes (header_of bytes) row).name_place (row_at bytes (header_of bytes) row).name_length
row_named bytes w row p =
    let o = owned bytes w row p in
    of_range (λ n. IsMemberName bytes (header_of bytes) (row_at bytes (header_of bytes) n).name_place (row_at bytes (header_of bytes) n).name_length) (entry_at bytes o.0).first (entry_at bytes o.0).count row o.2.from o.2.to
    ((w.entries o.0 o.1).names.members o.2.has_rows)

-- what a row that was read from the table keeps
pub row_kept : (bytes self : List ℕ) (h : Header) (r : Row) (index : ℕ) → h ≡ header_of bytes → bytes ≡ self → WellFormed bytes → index < (header_of self).rows → r ≡ row_at bytes h index
    → (r.entry < (header_of self).entries) × (r.name_place + r.name_length ≤ (header_of self).names)
row_kept bytes self h r index same view well p read =
    let w = subst WellFormed view well in
    let is : r ≡ row_at self (header_of self) index = read ∙ ap (λ h. row_at bytes h index) same ∙ ap (λ b. row_at b (header_of b) index) view in (
      subst (λ (r : Row). r.entry < (header_of self).entries) (sym is) (row_entry self w index p),
      subst (λ (r : Row). r.name_place + r.name_length ≤ (header_of self).names) (sym is) (row_named self w index p).within,
    )

-- the name of an entry that was read from the table lies within the names
pub entry_named : (bytes self : List ℕ) (e : Entry) (index : ℕ) → bytes ≡ self → WellFormed bytes → index < (header_of self).entries → e ≡ entry_at bytes index
    → e.name_place + e.name_length ≤ (header_of self).names
entry_named bytes self e index view well p read =
    let is : e ≡ entry_at self index = read ∙ ap (λ b. entry_at b index) view in
    subst (λ (e : Entry). e.name_place + e.name_length ≤ (header_of self).names) (sym is) ((subst WellFormed view well).entries index p).names.own.within
