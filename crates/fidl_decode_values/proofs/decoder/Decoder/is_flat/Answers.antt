use Rattle.std.proofs.Common.{◌+◌, ◌≤◌, ap, sym, subst, ◌∙◌, inr}
use Rattle.std.specs.Prelude.{Some}
use Rattle.fidl_table_format.specs.declared.record.Entry.{Entry}
use Rattle.fidl_table_format.specs.declared.kind.EntryKind.{EntryKind}
use Rattle.fidl_table_format.specs.declared.kind.EntryKind.TheVariants.{Struct}
use Rattle.fidl_table_format.specs.Section.{header_of}
use Rattle.fidl_decode_model.specs.Invariants.{AreLeaves}
use Rattle.fidl_decode_model.proofs.Visiting.{fine_as}
use Rattle.fidl_decode_values.proofs.decoder.Decoder.is_flat.Goals as goal

pub are_leaves-requires : goal.are_leaves-requires
are_leaves-requires c =
    let t = c.args.self.now.table.now in
    let is = c.requires.kind ∙ ap (λ (k : EntryKind). Some k) c.in-Struct.is in
    record { within = subst (λ (d : Entry). d.first + d.count ≤ (header_of t).rows) (sym c.entry-e.ensures.value) (fine_as t c.args.self.now.fine c.args.entry Struct c.requires.entry is).content.0 }

pub returns-in-Struct : goal.returns-in-Struct
returns-in-Struct c =
    λ so. inr (c.in-Struct.is, subst (λ (d : Entry). AreLeaves c.args.self.now.table.now d.first d.count) c.entry-e.ensures.value (c.are_leaves.ensures so))
