use Rattle.fidl_text.specs.Words.{word_text}
use Rattle.fidl_text.proofs.Written.{writes_then, more_left, failed_as}
use Rattle.fidl_text.proofs.words.write_next.Goals as goal

pub returns-in_err-write_all-clause-text : goal.returns-in_err-write_all-clause-text
returns-in_err-write_all-clause-text g c = failed_as _ _ _ c.from_residual.result c.from_residual.ensures.0 (more_left _ _ _ (word_text c.args.word) c.in_err-write_all.ensures.bytes)

pub returns-clause-text : goal.returns-clause-text
returns-clause-text g c = writes_then _ _ _ _ _ c.write_word.result c.in_ok-write_all.ensures.bytes c.write_word.ensures.text
