use Rattle.std.proofs.lemmas.Result.{IfErr-weaker}
use Rattle.fidl_span.specs.Faults.{Refutes, HasNoWords}
use Rattle.fidl_span.proofs.FaultLaws.{refuted}
use Rattle.fidl_span.proofs.lexer.lex.Goals as goal

pub returns-clause-none : goal.returns-clause-none
returns-clause-none c =
    IfErr-weaker c.read_words.result (Refutes c.args.src.now) (HasNoWords c.args.src.now) (refuted c.args.src.now) c.read_words.ensures.fault_is_true
