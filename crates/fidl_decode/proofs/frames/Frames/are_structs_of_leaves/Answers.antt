use Rattle.std.proofs.Common.{◌+◌, ◌≤◌, sym, subst}
use Rattle.fidl_table_format.specs.declared.record.Entry.{Entry}
use Rattle.fidl_table_format.specs.declared.kind.EntryKind.TheVariants.{Struct}
use Rattle.fidl_table_format.specs.Section.{header_of}
use Rattle.fidl_decode_model.specs.Invariants.{AreLeaves}
use Rattle.fidl_decode_model.proofs.Visiting.{fine_as}
use Rattle.fidl_decode.proofs.frames.Frames.are_structs_of_leaves.Goals as goal

pub are_leaves-requires : goal.are_leaves-requires
are_leaves-requires c =
    let t = c.args.self.now.decoder.table.now in
    let within = (fine_as t c.args.self.now.decoder.fine c.args.entry Struct c.requires.entry c.requires.kind).content.0 in
    record { within = subst (λ (d : Entry). d.first + d.count ≤ (header_of t).rows) (sym c.entry-e.ensures.value) within }

pub returns : goal.returns
returns c = λ so. subst (λ (d : Entry). AreLeaves c.args.self.now.decoder.table.now d.first d.count) c.entry-e.ensures.value (c.are_leaves.ensures so)
