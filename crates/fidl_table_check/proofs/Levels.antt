-- The types of a list and a table's entries, one level deep.
use Rattle.std.proofs.Common.{◌≡◌, ℕ, ◌+◌, ◌<◌, ◌≤◌, IsTrue, List, length, get_or, Some, slice_get, refl, ap, sym, ◌∙◌, subst, arith}
use Rattle.std.proofs.lemmas.List.{get_or-map}
use Rattle.std.proofs.lemmas.Option.{slice_get_within}
use Rattle.fidl_wire.specs.Term.{Term, nothing, resolve}
use Rattle.fidl_wire.specs.Figure.{Declarations}
use Rattle.fidl_equivalence.specs.Alike.{Alike, IsNumbered}
use Rattle.fidl_table_format.specs.declared.record.Entry.{Entry}
use Rattle.fidl_table_format.specs.declared.kind.EntryKind.{EntryKind}
use Rattle.fidl_table_format.specs.declared.kind.EntryKind.TheVariants as kinds
use Rattle.fidl_table_format.specs.Section.{header_of, entry_at}
use Rattle.fidl_table_format.specs.Terms.{below, term_of, declarations_of}
use Rattle.fidl_table_format.specs.Uses.{uses_rows, uses_values}
use Rattle.fidl_table_format.specs.Entry.{IsOf, IsEntry}
use Rattle.fidl_table_format.specs.WellFormed.{WellFormed}
use Rattle.fidl_verify.proofs.Known.{test_of}
use Rattle.fidl_verify.proofs.Stated.{length-below, get_or-below}
use Rattle.fidl_table_check.specs.Numbered.{AreEntries}
use Rattle.fidl_table_check.specs.Members.{IsEntryOf}

-- the declaration of an entry's number is the type that the entry declares
declared_at : (bytes : List ℕ) (i : ℕ) → i < (header_of bytes).entries → get_or (declarations_of bytes).terms i nothing ≡ term_of bytes (header_of bytes) (entry_at bytes i)
declared_at bytes i p =
    let h = header_of bytes in
    get_or-map (λ i. term_of bytes h (entry_at bytes i)) (below h.entries) i 0 nothing (omega (arith, length-below h.entries, p))
    ∙ ap (λ i. term_of bytes h (entry_at bytes i)) (get_or-below h.entries i p)

pub are_entries : (ds : Declarations) (types : List Term) (bytes : List ℕ) → (header_of bytes).entries ≡ length types
    → ((k : ℕ) (t : Term) → k < (header_of bytes).entries → slice_get types k ≡ Some t → Alike (λ t u. IsNumbered types t u) (resolve ds.terms t) (term_of bytes (header_of bytes) (entry_at bytes k)))
    → AreEntries ds types bytes
are_entries ds types bytes long each = record {
  count = long;
  levels = λ number t at.
      let p : number < (header_of bytes).entries = omega (arith, slice_get_within types number t at, long) in
      subst (λ u. Alike (λ t u. IsNumbered types t u) (resolve ds.terms t) u) (sym (declared_at bytes number p)) (each number t p at);
}

-- what a verified table's entry of a kind has
module _ (bytes : List ℕ) (well : WellFormed bytes) (e : Entry) (one : IsEntryOf bytes e) where
  rules : IsEntry bytes (header_of bytes) one.index
  rules = well.entries one.index one.within

  pub rows_within : (k : EntryKind) → IsOf k e → IsTrue (uses_rows k) → e.first + e.count ≤ (header_of bytes).rows
  rows_within k of uses =
      let own : IsOf k (entry_at bytes one.index) = subst (IsOf k) one.is of in
      subst (λ e. e.first + e.count ≤ (header_of bytes).rows) (sym one.is) (rules.children.within (subst IsTrue (sym (test_of uses_rows k (entry_at bytes one.index) own)) uses))

  pub values_within : IsOf kinds.Enum e → e.first + e.count ≤ (header_of bytes).values
  values_within of =
      let own : IsOf kinds.Enum (entry_at bytes one.index) = subst (IsOf kinds.Enum) one.is of in
      subst (λ e. e.first + e.count ≤ (header_of bytes).values) (sym one.is) (rules.children.values (subst IsTrue (sym (test_of uses_values kinds.Enum (entry_at bytes one.index) own)) refl))

-- alike by what two terms are
pub level : (R : Term → Term → Type 0) (t u a b : Term) → t ≡ a → u ≡ b → Alike R a b → Alike R t u
level R t u a b p q alike = subst (λ x. Alike R x u) (sym p) (subst (λ x. Alike R a x) (sym q) alike)
