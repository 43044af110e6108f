use Rattle.fidl_frames.proofs.Fills.{fills, whole_frame, part_inside, part_failed, part_unread}
use Rattle.fidl_frames.proofs.incoming.read_frame.Goals as goal

pub returns-in-Full-cause-clause-bytes : goal.returns-in-Full-cause-clause-bytes
returns-in-Full-cause-clause-bytes g c =
    let f = fills _ _ _ _ _ _ _ _ _ c.requires c.fill-head.auto.buffer (c.fill-head.ensures.full c.in-Full.is) c.fill-head.ensures.bytes
    (c.in-Some.ensures.proper, c.in-Some.ensures.long, c.in-Some.ensures.low, c.in-Some.ensures.within) c.fill.auto.buffer c.fill.ensures.bytes in
    whole_frame _ _ _ _ _ _ _ _ _ _ f (c.fill.ensures.full c.in-Full-cause.is)

pub returns-in-End-cause-clause-bytes : goal.returns-in-End-cause-clause-bytes
returns-in-End-cause-clause-bytes g c =
    let f = fills _ _ _ _ _ _ _ _ _ c.requires c.fill-head.auto.buffer (c.fill-head.ensures.full c.in-Full.is) c.fill-head.ensures.bytes
    (c.in-Some.ensures.proper, c.in-Some.ensures.long, c.in-Some.ensures.low, c.in-Some.ensures.within) c.fill.auto.buffer c.fill.ensures.bytes in
    part_inside _ _ _ _ _ _ _ _ _ _ f (c.fill.ensures.short (λ e. cc (e, c.in-End-cause.is))) (c.fill.ensures.end c.in-End-cause.is)

pub returns-in-Failure-cause-clause-bytes : goal.returns-in-Failure-cause-clause-bytes
returns-in-Failure-cause-clause-bytes g c =
    let f = fills _ _ _ _ _ _ _ _ _ c.requires c.fill-head.auto.buffer (c.fill-head.ensures.full c.in-Full.is) c.fill-head.ensures.bytes
    (c.in-Some.ensures.proper, c.in-Some.ensures.long, c.in-Some.ensures.low, c.in-Some.ensures.within) c.fill.auto.buffer c.fill.ensures.bytes in
    part_failed _ _ _ _ _ _ _ _ _ _ f (c.fill.ensures.short (λ e. cc (e, c.in-Failure-cause.is)))

pub returns-in-NoReads-cause-clause-bytes : goal.returns-in-NoReads-cause-clause-bytes
returns-in-NoReads-cause-clause-bytes g c =
    let f = fills _ _ _ _ _ _ _ _ _ c.requires c.fill-head.auto.buffer (c.fill-head.ensures.full c.in-Full.is) c.fill-head.ensures.bytes
    (c.in-Some.ensures.proper, c.in-Some.ensures.long, c.in-Some.ensures.low, c.in-Some.ensures.within) c.fill.auto.buffer c.fill.ensures.bytes in
    part_unread _ _ _ _ _ _ _ _ _ _ f (c.fill.ensures.short (λ e. cc (e, c.in-NoReads-cause.is)))
