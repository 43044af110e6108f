use Rattle.std.proofs.Common.{◌≡◌, ◌<◌, ◌⊎◌, ℕ, List, false, inl, inr, sym, ap, subst, ◌∙◌}
use Rattle.std.specs.Prelude.{Some}
use Rattle.fidl_table_format.specs.declared.record.Entry.{Entry}
use Rattle.fidl_table_format.specs.declared.kind.EntryKind.{EntryKind}
use Rattle.fidl_table_format.specs.declared.kind.EntryKind.TheVariants.{Vector, Array, Box, Struct, Table, Union}
use Rattle.fidl_table_format.specs.Section.{header_of, entry_at}
use Rattle.fidl_decode_model.specs.Invariants.{is_free_at, is_leaf}
use Rattle.fidl_decode_model.proofs.Visiting.{fine_as}
use Rattle.fidl_decode_values.proofs.decoder.Decoder.is_leaf.Goals as goal

pub is_free_at-requires : goal.is_free_at-requires
is_free_at-requires c =
    let t = c.args.self.now.table.now in
    let is = λ (k : EntryKind) (e : c.args.kind ≡ k). fine_as t c.args.self.now.fine c.args.entry k c.requires.entry (c.requires.kind ∙ ap (λ (k : EntryKind). Some k) e) in
    subst (λ (d : Entry). d.first < (header_of t).entries) (sym c.entry.ensures.value) (elim c.in-Vector-kind.is [
      | inl e ↦ (is Vector e).content.0
      | inr e ↦ (is Array e).content.0
    ])

pub returns-in-Vector-kind : goal.returns-in-Vector-kind
returns-in-Vector-kind c =
    let t = c.args.self.now.table.now in
    let leaf = is_leaf t (entry_at t c.args.entry) in
    c.is_free_at.ensures ∙ ap (λ (d : Entry). is_free_at t d.first) c.entry.ensures.value ∙ elim c.in-Vector-kind.is [
      | inl e ↦ sym (ap leaf e)
      | inr e ↦ sym (ap leaf e)
    ]

-- of the six kinds that hold others, the four that are neither vectors nor arrays
no_leaf : (t : List ℕ) (e : Entry) (k : EntryKind) → (k ≡ Vector → ⊥) → (k ≡ Array → ⊥)
    → (k ≡ Vector) ⊎ (k ≡ Array) ⊎ (k ≡ Box) ⊎ (k ≡ Struct) ⊎ (k ≡ Table) ⊎ (k ≡ Union) → false ≡ is_leaf t e k
no_leaf t e k v a (inl x) = absurd (v x)
no_leaf t e k v a (inr (inl x)) = absurd (a x)
no_leaf t e k v a (inr (inr (inl x))) = sym (ap (is_leaf t e) x)
no_leaf t e k v a (inr (inr (inr (inl x)))) = sym (ap (is_leaf t e) x)
no_leaf t e k v a (inr (inr (inr (inr (inl x))))) = sym (ap (is_leaf t e) x)
no_leaf t e k v a (inr (inr (inr (inr (inr x))))) = sym (ap (is_leaf t e) x)

pub returns-in_default-kind : goal.returns-in_default-kind
returns-in_default-kind c = no_leaf c.args.self.now.table.now (entry_at c.args.self.now.table.now c.args.entry) c.args.kind c.in_default-kind.not-Vector c.in_default-kind.not-Array c.in-Vector.is
