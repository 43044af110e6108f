use Rattle.fidl_decode_values.specs.Reading.{message}
use Rattle.fidl_decode_model.specs.Machine.{at_of}
use Rattle.fidl_decode_columns.proofs.Leaves.{element_known}
use Rattle.fidl_decode.proofs.frames.Frames.take_elements.Goals as goal

pub entry-e-requires : goal.entry-e-requires
entry-e-requires c = element_known c.args.self.now.decoder.table.now c.args.self.now.decoder.fine (message c.args.self.now.decoder) c.args.frame (at_of c.args.state.now) c.requires.frame c.requires.state c.args.entry c.args.size c.args.count c.requires.left c.if-count-eq0.false

pub take_structs-requires-clause-entry : goal.take_structs-requires-clause-entry
take_structs-requires-clause-entry c = element_known c.args.self.now.decoder.table.now c.args.self.now.decoder.fine (message c.args.self.now.decoder) c.args.frame (at_of c.args.state.now) c.requires.frame c.requires.state c.args.entry c.args.size c.args.count c.requires.left
    c.if-count-eq0.false
