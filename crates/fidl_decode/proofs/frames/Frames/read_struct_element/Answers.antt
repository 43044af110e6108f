use Rattle.fidl_decode.proofs.Flags.{is_set}
use Rattle.fidl_decode.proofs.frames.Frames.read_struct_element.Goals as goal

pub read_struct_of_leaves-requires-clause-behind : goal.read_struct_of_leaves-requires-clause-behind
read_struct_of_leaves-requires-clause-behind g c = c.requires.behind (is_set g.row.FLAT c.if-this-ne0.true)
