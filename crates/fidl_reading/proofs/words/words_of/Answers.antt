use Rattle.std.proofs.Common.{sym, subst}
use Rattle.fidl_spelling.specs.Words.{IsWithinLimit}
use Rattle.fidl_reading.specs.Cuts.{texts_of}
use Rattle.fidl_reading.proofs.Limits.{front_beyond}
use Rattle.fidl_reading.proofs.words.words_of.Goals as goal

pub returns-in-Some-clause-fault_is_true : goal.returns-in-Some-clause-fault_is_true
returns-in-Some-clause-fault_is_true c = λ utf8 ws h.
    front_beyond c.args.text.now (texts_of c.in_ok-cut.cut.words.items) c.in_ok-cut.cut.end c.in_ok-cut.ensures.front (λ l. c.in-Some.ensures.some (subst (λ v. IsWithinLimit (texts_of v)) (sym c.deref.ensures.value) l)) ws h
