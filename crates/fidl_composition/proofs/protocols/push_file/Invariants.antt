use Rattle.fidl_composition.specs.Tables.{at, AreProtocolsTo, Keeps, IsRowTo}
use Rattle.fidl_composition.proofs.protocols.push_file.Given as goal

-- the protocols of the declarations so far
abbrev pub invariant-loop-index : goal.invariant-loop-index
invariant-loop-index l = record {
  protocols : AreProtocolsTo l.named (at l.file_index l.index) l.ids.items;
  kept : Keeps l.fn.ids.items l.ids.items;
  row : IsRowTo l.named l.file_index l.index l.ids.items l.row.items;
}
