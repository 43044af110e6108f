-- Markers and handles of shown values in a message with links: where they stand, and whether they are blank.
use Rattle.std.proofs.Common.{◌≡◌, ℕ, ◌/◌, ◌%◌, ◌<◌, Bool, true, false, slice_index, inl, inr, refl, sym, ◌∙◌}
use Rattle.std.specs.Prelude.{◌↔◌, IsTrue, IsFalse, replicate}
use Rattle.std.proofs.Math.Logic.{∥∥₁_elim}
use denote.Struct.Props.{props}
use Rattle.fidl_wire.specs.Value.{Value}
use Rattle.fidl_wire.specs.Encoding.{zeros, present}
use Rattle.fidl_wire.specs.Standing.{Stands}
use Rattle.fidl_links.specs.Links.{Written, IsFree, IsFreeWord}
use Rattle.fidl_table_format.specs.declared.kind.EntryKind.TheVariants.{Handle}
use Rattle.fidl_table_format.specs.Section.{header_of, entry_at}
use Rattle.fidl_table_format.specs.Entry.{IsOf}
use Rattle.fidl_table_format.specs.Terms.{declarations_of}
use Rattle.fidl_table_format.specs.WellFormed.{WellFormed}
use Rattle.fidl_decode_model.specs.Links.{noted}
use Rattle.fidl_decode_model.specs.Model.{Shown}
use Rattle.fidl_decode_model.specs.Faults.{message_of}
use Rattle.fidl_view.specs.Parts.{absence_of}
use Rattle.fidl_view.specs.Shows.{Shows, HasValue}
use Rattle.fidl_view.proofs.Content.{not_both}
use Rattle.fidl_view.proofs.Unlinked as unlinked
use Rattle.fidl_view.proofs.Viewing as viewing

module _ (d : Shown) (w : WellFormed d.table) (index place : ℕ) (lt : index < (header_of d.table).entries) (l : Written) (came : l.came ≡ d.bytes) (same : noted l ≡ d.links) (q : ℕ) (marks : (v : Value) → Shows d index place v → viewing.Marks d w index place lt q v) where
  -- what is known of whether zeros stand in the marker
  abbrev Blank : Bool → Type 0
  Blank r = IsTrue r ↔ IsFreeWord l q × Stands l.came q (zeros 8)

  pub says : (r : Bool) → Blank r → (v : Value) → Shows d index place v → r ≡ absence_of v
  says r e v s = unlinked.blank_says l d.bytes d.links came same (declarations_of d.table) (message_of d.bytes d.handles) place refl q v r (marks v s) e

  pub absent : (r : Bool) → Blank r → r ≡ true → (v : Value) → Shows d index place v → true ≡ absence_of v
  absent r e tells v s = sym tells ∙ says r e v s

  pub there : (r : Bool) → Blank r → r ≡ false → (v : Value) → Shows d index place v → false ≡ absence_of v
  there r e tells v s = sym tells ∙ says r e v s

  module _ (shown : ∥ HasValue d index place ∥₁) where
    pub aligned : q % 8 ≡ 0
    aligned = ∥∥₁_elim shown (hlevel props) (λ h. (marks h.0 h.1).aligned)

    -- the link of a marker of what is there
    pub linked : ((v : Value) → Shows d index place v → false ≡ absence_of v) → Stands l.came q present × (0 < slice_index l.objects (q / 8))
    linked some = ∥∥₁_elim shown (hlevel props) (λ h. elim (marks h.0 h.1).says [
      | inl a ↦ absurd (not_both (some h.0 h.1 ∙ sym a.0))
      | inr p ↦ (unlinked.stands l d.bytes d.links came same q present p.2, unlinked.linked l d.bytes d.links came same q p.1)
    ])

module _ (d : Shown) (w : WellFormed d.table) (index place : ℕ) (lt : index < (header_of d.table).entries) (l : Written) (came : l.came ≡ d.bytes) (same : noted l ≡ d.links) (is : IsOf Handle (entry_at d.table index)) where
  pub handle_says : (r : Bool) → (IsFree l place → Stands l.came place (zeros 4) → IsTrue r) → (Stands l.came place (replicate 4 255) → 0 < slice_index l.records (place / 4) → IsFalse r)
      → (v : Value) → Shows d index place v → r ≡ absence_of v
  handle_says r absent linked v s = unlinked.blank_handle_says l d.bytes d.links came same (declarations_of d.table) (message_of d.bytes d.handles) place refl v r (viewing.handle_shown d w index place lt is v s) absent linked

  module _ (shown : ∥ HasValue d index place ∥₁) where
    pub handle_aligned : place % 4 ≡ 0
    handle_aligned = ∥∥₁_elim shown (hlevel props) (λ h. (viewing.handle_shown d w index place lt is h.0 h.1).aligned)

    -- the link of one that is there
    pub handle_linked : ((v : Value) → Shows d index place v → false ≡ absence_of v) → Stands l.came place (replicate 4 255) × (0 < slice_index l.records (place / 4))
    handle_linked some = ∥∥₁_elim shown (hlevel props) (λ h. elim (viewing.handle_shown d w index place lt is h.0 h.1).says [
      | inl a ↦ absurd (not_both (some h.0 h.1 ∙ sym a.0))
      | inr p ↦ (unlinked.stands l d.bytes d.links came same place (replicate 4 255) p.2, unlinked.recorded l d.bytes d.links came same place p.1)
    ])
