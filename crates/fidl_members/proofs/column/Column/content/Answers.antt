use Rattle.std.proofs.Common.{◌≡◌, ◌<◌, sym, subst, inl, inr}
use Rattle.fidl_table_format.specs.declared.record.Entry.{Entry}
use Rattle.fidl_table_format.specs.declared.kind.EntryKind.{EntryKind}
use Rattle.fidl_table_format.specs.declared.kind.EntryKind.TheVariants.{Array, Vector, Box}
use Rattle.fidl_table_format.specs.Section.{header_of, entry_at}
use Rattle.fidl_table_format.specs.Entry.{IsOf}
use Rattle.fidl_decode_model.proofs.Bridge.{fine_of}
use Rattle.fidl_decode_model.proofs.Visiting.{fine_as}
use Rattle.fidl_members.proofs.column.Column.content.Goals as goal

pub returns-in-Array-clause-in_range : goal.returns-in-Array-clause-in_range
returns-in-Array-clause-in_range c =
    let s = c.args.self.now in
    let t = s.table.now in
    let w = c.entry_kind.ensures.well_formed in
    let of : (k : EntryKind) → c.entry_kind.result ≡ k → IsOf k (entry_at t s.row.entry) = λ k e. subst (λ (x : EntryKind). IsOf x (entry_at t s.row.entry)) e c.entry_kind.ensures.of in
    let fine = fine_as t (fine_of t w) s.row.entry in
    let own : (entry_at t s.row.entry).first < (header_of t).entries = elim c.in-Array.is [
      | inl a ↦ (fine Array s.below (of Array a)).content.0
      | inr x ↦ elim x [
        | inl v ↦ (fine Vector s.below (of Vector v)).content.0
        | inr b ↦ (fine Box s.below (of Box b)).content.0
      ]
    ] in
    subst (λ (e : Entry). e.first < (header_of t).entries) (sym c.entry.ensures.value) own
