use Rattle.fidl_decode_values.specs.Reading.{message}
use Rattle.std.proofs.Common.{subst, arith}
use Rattle.fidl_decode_model.specs.declared.frame.Remaining.{Remaining}
use Rattle.fidl_decode_model.specs.Machine.{LeftFine, at_of}
use Rattle.fidl_decode_columns.proofs.Leaves.{turns_stay}
use Rattle.fidl_decode.proofs.frames.Frames.read_boxed.Goals as goal

pub plain_below-known-requires : goal.plain_below-known-requires
plain_below-known-requires c =
    record { within = subst (λ (l : Remaining). LeftFine c.args.self.now.decoder.table.now l) c.in-Rows.is c.requires.frame.left }

pub returns-in_default : goal.returns-in_default
returns-in_default c = record {
  holds = c.requires.holds;
  ok = turns_stay c.args.self.now.decoder.table.now (message c.args.self.now.decoder) c.args.frame (at_of c.args.state.now) c.requires.frame c.requires.state _
      (omega arith);
  grows = omega arith;
  ended = tt;
  cost = omega arith;
  fault_is_true = tt;
}
