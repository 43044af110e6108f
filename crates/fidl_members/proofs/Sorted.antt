-- The kind that the values of an entry are read as.
use Rattle.std.proofs.Common.{◌≡◌, ℕ, ◌<◌, List, refl, sym, ap, ◌∙◌, inl, inr}
use Rattle.std.specs.Prelude.{◌⊎◌, Some, [], IsTrue, false, true}
use Rattle.fidl_wire.specs.Term.{Kind}
use Rattle.fidl_table_format.specs.declared.kind.EntryKind.{EntryKind}
use Rattle.fidl_table_format.specs.declared.kind.EntryKind.TheVariants.{Bits, Enum}
use Rattle.fidl_table_format.specs.Section.{header_of, entry_at}
use Rattle.fidl_table_format.specs.Terms.{term_as, as_number, underlying}
use Rattle.fidl_table_format.specs.Uses.{is_number}
use Rattle.fidl_table_format.specs.Entry.{IsOf}
use Rattle.fidl_table_format.specs.WellFormed.{WellFormed}
use Rattle.fidl_decode_model.specs.Model.{Shown}
use Rattle.fidl_view.proofs.Sorts.{by_sort}
use Rattle.fidl_view.proofs.Viewing as viewing
use Rattle.fidl_members.specs.Scalars.{number_kind, scalar_of, scalar_as, type_in}

module _ (t : List ℕ) (w : WellFormed t) (entry : ℕ) (lt : entry < (header_of t).entries) where
  -- no message, of this table
  abbrev pub none : Shown
  none = record { table = t; entry = 0; bytes = []; handles = []; steps = 0; links = record { objects = []; records = [] } }

  sort_as : (k : EntryKind) → (k ≡ Bits → ⊥) → (k ≡ Enum → ⊥) → scalar_as k ≡ scalar_of (term_as k t (header_of t) (entry_at t entry))
  sort_as k b e = by_sort (λ k. (k ≡ Bits → ⊥) → (k ≡ Enum → ⊥) → scalar_as k ≡ scalar_of (term_as k t (header_of t) (entry_at t entry)))
      (λ b e. refl) (λ b e. refl) (λ b e. refl) (λ b e. absurd (b refl)) (λ b e. absurd (e refl))
      (λ b e. refl) (λ b e. refl) (λ b e. refl) (λ b e. refl) (λ b e. refl) (λ b e. refl) (λ b e. refl) (λ b e. refl) (λ b e. refl) (λ b e. refl) (λ b e. refl) (λ b e. refl) (λ b e. refl) (λ b e. refl) k b e

  pub sort_else : (k : EntryKind) → IsOf k (entry_at t entry) → (k ≡ Bits → ⊥) → (k ≡ Enum → ⊥) → scalar_as k ≡ scalar_of (type_in t entry)
  sort_else k is b e = sort_as k b e ∙ sym (ap scalar_of (viewing.own_type none w entry 0 lt k is))

  -- a kind of numbers is read as its numbers
  of_number : (k : EntryKind) → IsTrue (is_number k) → scalar_as k ≡ Some (number_kind (as_number k))
  of_number k = by_sort (λ k. IsTrue (is_number k) → scalar_as k ≡ Some (number_kind (as_number k)))
      no no no no no (λ h. refl) (λ h. refl) (λ h. refl) (λ h. refl) (λ h. refl) (λ h. refl) (λ h. refl) (λ h. refl) no no no no no no k
    where
      no : {A : Type 0} → false ≡ true → A
      no e = cc

  pub sort_there : (IsOf Bits (entry_at t entry) ⊎ IsOf Enum (entry_at t entry)) → (k : EntryKind) → as_number k ≡ underlying (entry_at t entry) → IsTrue (is_number k) → scalar_as k ≡ scalar_of (type_in t entry)
  sort_there (inl is) k same number = of_number k number ∙ ap (λ (n : Kind). Some (number_kind n)) same ∙ sym (ap scalar_of (viewing.own_type none w entry 0 lt Bits is))
  sort_there (inr is) k same number = of_number k number ∙ ap (λ (n : Kind). Some (number_kind n)) same ∙ sym (ap scalar_of (viewing.own_type none w entry 0 lt Enum is))
