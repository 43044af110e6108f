use Rattle.fidl_encode.proofs.Whole.{no_message}
use Rattle.fidl_bench.proofs.encoding.encode_once.Goals as goal

pub unreachable-requires : goal.unreachable-requires
unreachable-requires c = no_message _ _ _ c.in-Err.fault c.in-Err.ensures.fault_is_true c.in_default.not-Memory _ _ c.requires.encoded.1
