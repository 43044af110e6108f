use Rattle.std.proofs.Common.{arith}
use Rattle.fidl_dump.proofs.Cutting.{short_head, short_frame, long_frame, whole}
use Rattle.fidl_dump.proofs.dump.whole_frame.Goals as goal

pub returns-then-bytes-lt-FRAME_HEAD-clause-none : goal.returns-then-bytes-lt-FRAME_HEAD-clause-none
returns-then-bytes-lt-FRAME_HEAD-clause-none c = short_head c.args.bytes.now c.requires c.if-bytes-lt-FRAME_HEAD.true

pub returns-in_default-clause-none : goal.returns-in_default-clause-none
returns-in_default-clause-none c = long_frame c.args.bytes.now (omega (arith, c.if-bytes-lt-FRAME_HEAD.false)) c.in_default.ensures.none

pub returns-then-end-bytes-clause-none : goal.returns-then-end-bytes-clause-none
returns-then-end-bytes-clause-none c = short_frame c.args.bytes.now c.in-Some.end c.requires c.in-Some.ensures.proper c.in-Some.ensures.long c.if-end-bytes.true

pub returns-clause-frame : goal.returns-clause-frame
returns-clause-frame c = whole c.args.bytes.now c.in-Some.end c.in-Some.ensures.low (omega (arith, c.if-end-bytes.false)) c.in-Some.ensures.proper c.in-Some.ensures.long
