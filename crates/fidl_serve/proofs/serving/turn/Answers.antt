use Rattle.std.proofs.Common.{refl, arith}
use Rattle.fidl_serve.proofs.Exits.{ends_between, ends_inside, ends_past_limit, fails_reading, fails_unread, ends_by_answer, fails_unflushed, fails_cut}
use Rattle.fidl_serve.proofs.Going.{goes_silent, goes_replied}
use Rattle.fidl_serve.proofs.serving.turn.Goals as goal

pub returns-in-Between-clause-turns : goal.returns-in-Between-clause-turns
returns-in-Between-clause-turns g c = ends_between _ _ _ _ _ _ _ c.in-Between.ensures.bytes

pub returns-in-Inside-clause-turns : goal.returns-in-Inside-clause-turns
returns-in-Inside-clause-turns g c = ends_inside _ _ _ _ _ _ _ c.in-Inside.ensures.bytes

pub returns-in-PastLimit-clause-turns : goal.returns-in-PastLimit-clause-turns
returns-in-PastLimit-clause-turns g c = ends_past_limit _ _ _ _ _ _ _ c.in-PastLimit.ensures.bytes

pub returns-in-Failure-clause-turns : goal.returns-in-Failure-clause-turns
returns-in-Failure-clause-turns g c = fails_reading _ _ _ _ _ _ _ c.in-Failure.ensures.bytes

pub returns-in-NoReads-clause-turns : goal.returns-in-NoReads-clause-turns
returns-in-NoReads-clause-turns g c = fails_unread _ _ _ _ _ _ _ c.in-NoReads.ensures.bytes

pub returns-in-Silence-clause-turns : goal.returns-in-Silence-clause-turns
returns-in-Silence-clause-turns g c = goes_silent _ _ _ _ _ _ _ _ _ _ c.in-Frame.ensures.bytes c.in-Silence.ensures.reacts

pub returns-in-End-clause-turns : goal.returns-in-End-clause-turns
returns-in-End-clause-turns g c = ends_by_answer _ _ _ _ _ _ _ _ _ _ _ c.in-Frame.ensures.bytes c.in-End.ensures.reacts

pub returns-in-Done-clause-turns : goal.returns-in-Done-clause-turns
returns-in-Done-clause-turns g c = goes_replied _ _ _ _ _ _ _ _ _ _ _ _ _ c.in-Frame.ensures.bytes c.in-Reply.ensures.reacts c.in-Done.ensures refl

pub returns-in-Unflushed-clause-turns : goal.returns-in-Unflushed-clause-turns
returns-in-Unflushed-clause-turns g c = fails_unflushed _ _ _ _ _ _ _ _ _ _ _ _ c.in-Frame.ensures.bytes c.in-Reply.ensures.reacts c.in-Unflushed.ensures

pub returns-in-Cut-clause-turns : goal.returns-in-Cut-clause-turns
returns-in-Cut-clause-turns g c = fails_cut _ _ _ _ _ _ _ _ _ _ _ _ c.in-Frame.ensures.bytes c.in-Reply.ensures.reacts c.in-Cut.ensures

pub overflow_add-counts : goal.overflow_add-counts
overflow_add-counts g c =
    let used = c.in-Frame.ensures.used _ refl in
    record { fits = omega (arith, used, c.args.counts) }

pub overflow_add-frames : goal.overflow_add-frames
overflow_add-frames g c =
    let used = c.in-Frame.ensures.used _ refl in
    record { fits = omega (arith, used, c.args.counts) }

pub returns-in-Silence-clause-used : goal.returns-in-Silence-clause-used
returns-in-Silence-clause-used g c _ = c.in-Frame.ensures.used _ refl

pub returns-in-Done-clause-used : goal.returns-in-Done-clause-used
returns-in-Done-clause-used g c _ = c.in-Frame.ensures.used _ refl

pub returns-in-Done-clause-counts : goal.returns-in-Done-clause-counts
returns-in-Done-clause-counts g c =
    let used = c.in-Frame.ensures.used _ refl in
    omega (arith, used)
