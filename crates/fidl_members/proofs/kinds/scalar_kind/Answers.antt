use Rattle.std.proofs.Common.{ap, sym, subst, ◌∙◌, inl, inr}
use Rattle.std.specs.Prelude.{◌⊎◌, IsTrue}
use Rattle.fidl_table_format.specs.declared.record.Entry.{Entry}
use Rattle.fidl_table_format.specs.declared.kind.EntryKind.{EntryKind}
use Rattle.fidl_table_format.specs.declared.kind.EntryKind.TheVariants.{Bits, Enum}
use Rattle.fidl_table_format.specs.Section.{entry_at}
use Rattle.fidl_table_format.specs.Terms.{underlying}
use Rattle.fidl_table_format.specs.Uses.{is_number}
use Rattle.fidl_table_format.specs.Entry.{IsOf, subtype_is}
use Rattle.fidl_view.proofs.Viewing as viewing
use Rattle.fidl_members.proofs.Sorted as sorted
use Rattle.fidl_members.proofs.kinds.scalar_kind.Goals as goal

pub returns-in-Bits : goal.returns-in-Bits
returns-in-Bits c =
    let t = c.args.table.now in
    let i = c.args.entry in
    let w = c.entry_kind.ensures.well_formed in
    let either : IsOf Bits (entry_at t i) ⊎ IsOf Enum (entry_at t i) = (elim c.in-Bits.is [ inl b ↦ inl (subst (λ (k : EntryKind). IsOf k (entry_at t i)) b c.entry_kind.ensures.of) | inr e ↦ inr (subst (λ (k : EntryKind). IsOf k (entry_at t i)) e c.entry_kind.ensures.of) ]) in
    let number : IsTrue (is_number c.underlying.result) = c.underlying.ensures.kind (subst (λ (e : Entry). IsTrue (subtype_is is_number e)) (sym c.entry.ensures.value) (viewing.subtype_there (sorted.none t w i c.requires) w i 0 c.requires either)) in
    sorted.sort_there t w i c.requires either c.underlying.result (c.underlying.ensures.number ∙ ap (λ (e : Entry). underlying e) c.entry.ensures.value) number

pub returns-in_default : goal.returns-in_default
returns-in_default c = sorted.sort_else c.args.table.now c.entry_kind.ensures.well_formed c.args.entry c.requires c.entry_kind.result c.entry_kind.ensures.of c.in_default.not-Bits c.in_default.not-Enum
