use Rattle.fidl_decode_values.specs.Reading.{message}
use Rattle.std.proofs.Common.{arith}
use Rattle.fidl_decode_model.specs.Machine.{at_of}
use Rattle.fidl_decode_columns.proofs.Leaves.{element_known, turns_stay}
use Rattle.fidl_decode.proofs.frames.Frames.read_next_leaves.Goals as goal

pub leaf_kind-requires-else-count-eq0 : goal.leaf_kind-requires-else-count-eq0
leaf_kind-requires-else-count-eq0 c = record {
  entry = element_known c.args.self.now.decoder.table.now c.args.self.now.decoder.fine (message c.args.self.now.decoder) c.args.frame (at_of c.args.state.now) c.requires.frame c.requires.state c.in-Elements.entry c.in-Elements.size c.in-Elements.count
      c.in-Elements.is c.if-count-eq0.false;
}

pub returns-then-none-clause-ok : goal.returns-then-none-clause-ok
returns-then-none-clause-ok c =
    turns_stay c.args.self.now.decoder.table.now (message c.args.self.now.decoder) c.args.frame (at_of c.args.state.now) c.requires.frame c.requires.state _ (omega arith)
