use Rattle.std.proofs.Common.{◌≢◌, ℕ, ◌++◌, List, drop}
use Rattle.fidl_spelling.specs.Words.{IsQuoted, quoted}
use Rattle.fidl_reading.specs.Cuts.{BeginsNoWord}
use Rattle.fidl_reading.proofs.Escaping.{if_some_weaker, if_none_weaker}
use Rattle.fidl_reading.proofs.Cutting.{no_word_at_quote}
use Rattle.fidl_reading.proofs.lexer.word_end.Goals as goal

pub returns-then-text-at-eq34-clause-found : goal.returns-then-text-at-eq34-clause-found
returns-then-text-at-eq34-clause-found c = if_some_weaker c.quoted_end.result _ _ (λ to h. (h.0, h.1, quoted h.2.1)) c.quoted_end.ensures.found

pub returns-then-text-at-eq34-clause-none : goal.returns-then-text-at-eq34-clause-none
returns-then-text-at-eq34-clause-none c = if_none_weaker c.quoted_end.result
    ((w rest bytes : List ℕ) → IsQuoted w bytes → drop c.args.at c.args.text.now ≢ w ++ rest)
    (BeginsNoWord (drop c.args.at c.args.text.now))
    (no_word_at_quote c.args.text.now c.args.at c.requires c.if-text-at-eq34.true) c.quoted_end.ensures.none
