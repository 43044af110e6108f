-- What a search among the rows of a table or union entry says of its members.
use Rattle.std.proofs.Common.{◌≡◌, ◌≢◌, ℕ, suc, ◌+◌, ◌^◌, ◌<◌, ◌≤◌, List, true, false, IsTrue, Option, None, Some, IfNone, IfSome, refl, ap, subst, sym, ◌∙◌, arith}
use Rattle.std.specs.Option.{option_map_or}
use Rattle.fidl_wire.specs.Term as ty
use Rattle.fidl_wire.specs.Term.{find}
use Rattle.fidl_table_format.specs.declared.record.Entry.{Entry}
use Rattle.fidl_table_format.specs.declared.record.Row.{Row}
use Rattle.fidl_table_format.specs.declared.kind.EntryKind.{EntryKind}
use Rattle.fidl_table_format.specs.declared.kind.EntryKind.TheVariants.{Table, Union}
use Rattle.fidl_table_format.specs.Kind.{kind_of}
use Rattle.fidl_table_format.specs.Section.{header_of, entry_at, row_at}
use Rattle.fidl_table_format.specs.Terms.{members_of}
use Rattle.fidl_table_format.specs.Uses.{uses_ordinals, uses_rows}
use Rattle.fidl_table_format.specs.Entry.{kind_is, row_key}
use Rattle.fidl_table_format.specs.WellFormed.{WellFormed}
use Rattle.fidl_verify.proofs.Ordered.{rising_keys, find_none, find_at, rows_declared}

-- what has ordinals has rows
rows_too : (k : EntryKind) → uses_ordinals k ≡ true → uses_rows k ≡ true
rows_too Table is = refl
rows_too Union is = refl
rows_too _ is = absurd (let never : false ≡ true = is in cc)

pub has_rows : (o : Option EntryKind) → option_map_or uses_ordinals o false ≡ true → option_map_or uses_rows o false ≡ true
has_rows None is = is
has_rows (Some k) is = rows_too k is

module _ (t : List ℕ) (w : WellFormed t) (index : ℕ) (p : index < (header_of t).entries) (is : IsTrue (kind_is uses_ordinals (entry_at t index))) where
  -- its rows lie in their section, are at most 65,535, and their keys rise
  pub lies_within : (e : Entry) → e ≡ entry_at t index → e.first + e.count ≤ (header_of t).rows
  lies_within e same = subst (λ (e : Entry). e.first + e.count ≤ (header_of t).rows) (sym same) ((w.entries index p).children.within (has_rows (kind_of (entry_at t index).kind) is))

  pub is_small : (e : Entry) → e ≡ entry_at t index → e.count < 2 ^ 16
  is_small e same =
      let few = (w.entries index p).shape.few_rows (has_rows (kind_of (entry_at t index).kind) is) in
      let own : (entry_at t index).count < 2 ^ 16 = omega (arith, few) in
      subst (λ (e : Entry). e.count < 2 ^ 16) (sym same) own

  rises_at : (k : ℕ) → suc k < (entry_at t index).count → row_key t (header_of t) (entry_at t index) k < row_key t (header_of t) (entry_at t index) (suc k)
  rises_at k q = ((w.entries index p).sorted.ordinals is k (omega (arith, q))).rises q

  pub rises : (e : Entry) → e ≡ entry_at t index → (k : ℕ) → suc k < e.count → row_key t (header_of t) e k < row_key t (header_of t) e (suc k)
  rises e same = subst (λ (e : Entry). (k : ℕ) → suc k < e.count → row_key t (header_of t) e k < row_key t (header_of t) e (suc k)) (sym same) rises_at

  -- what a search says of a row's key, it says of the members
  missing : (ordinal : ℕ) → ((k : ℕ) → k < (entry_at t index).count → row_key t (header_of t) (entry_at t index) k ≢ ordinal) → find (members_of t index) ordinal ≡ None
  missing ordinal none =
      let e = entry_at t index in
      ap (λ rows. find rows ordinal) (rows_declared t (header_of t) e is) ∙ find_none t (header_of t) ordinal e.first e.count none

  pub if_none : (e : Entry) → e ≡ entry_at t index → (ordinal : ℕ) (r : Option Row) → IfNone r ((k : ℕ) → k < e.count → row_key t (header_of t) e k ≢ ordinal)
      → IfNone r (find (members_of t index) ordinal ≡ None)
  if_none e same ordinal None none = missing ordinal (subst (λ (e : Entry). (k : ℕ) → k < e.count → row_key t (header_of t) e k ≢ ordinal) same none)
  if_none e same ordinal (Some row) none = tt

  found : (ordinal : ℕ) (row : Row) (k : ℕ) → k < (entry_at t index).count → row ≡ row_at t (header_of t) ((entry_at t index).first + k) → row.key ≡ ordinal
      → find (members_of t index) ordinal ≡ Some (ty.named row.entry)
  found ordinal row k q here key =
      let e = entry_at t index in
      let own : row_key t (header_of t) e k ≡ ordinal = ap (λ (r : Row). r.key) (sym here) ∙ key in
      ap (λ rows. find rows ordinal) (rows_declared t (header_of t) e is)
      ∙ find_at t (header_of t) ordinal e.first e.count k q own (λ i less other. differs (row_key t (header_of t) e i) (row_key t (header_of t) e k) ordinal (rising_keys (row_key t (header_of t) e) e.count rises_at i k less q) own other)
      ∙ ap (λ (r : Row). Some (ty.named r.entry)) (sym here)
    where
      differs : (a b o : ℕ) → a < b → b ≡ o → a ≡ o → ⊥
      differs a b o less x y = omega (arith, less, x, y)

  pub if_some : (e : Entry) → e ≡ entry_at t index → (ordinal : ℕ) (r : Option Row)
      → IfSome r (λ row. (k : ℕ) × (k < e.count) × (row ≡ row_at t (header_of t) (e.first + k)) × (row.key ≡ ordinal)) → IfSome r (λ row. find (members_of t index) ordinal ≡ Some (ty.named row.entry))
  if_some e same ordinal None h = tt
  if_some e same ordinal (Some row) h =
      let x = subst (λ (e : Entry). (k : ℕ) × (k < e.count) × (row ≡ row_at t (header_of t) (e.first + k)) × (row.key ≡ ordinal)) same h in
      found ordinal row x.0 x.1 x.2 x.3
