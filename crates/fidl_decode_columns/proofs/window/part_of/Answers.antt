use Rattle.std.proofs.Common.{◌*◌, ◌/◌, ◌^◌, arith}
use Rattle.fidl_decode_columns.proofs.Words.{low_bits}
use Rattle.fidl_decode_columns.proofs.window.part_of.Goals as goal

pub returns : goal.returns
returns c = low_bits (c.args.seen / 2 ^ (8 * c.args.skip)) c.args.width (omega (arith, c.requires.within))
