use Rattle.std.proofs.Common.{refl, codes}
use Rattle.std.proofs.lemmas.Bool.{false≢true}
use Rattle.fidl_span.specs.declared.words.WordKind.TheVariants as kind
use Rattle.fidl_parse.proofs.Stops.{stops}
use Rattle.fidl_tree.specs.File.{import_alias_leaves}
use Rattle.fidl_parse.proofs.Options.{option_none, option_some}
use Rattle.fidl_parse.proofs.Words.{text_ahead, no_text}
use Rattle.fidl_parse.proofs.Joins.{reads_join}
use Rattle.fidl_parse.proofs.parser.Parser.import_alias.Goals as goal

pub returns-then-not-is_next_word-clause-complete : goal.returns-then-not-is_next_word-clause-complete
returns-then-not-is_next_word-clause-complete c x rest m a =
    option_none import_alias_leaves _ _ x rest (λ y ls b. false≢true (c.if-not-is_next_word.ensures.next.1 (text_ahead _ _ (codes "as") y.keyword _ b))) a

pub returns-in_err-keyword-clause-complete : goal.returns-in_err-keyword-clause-complete
returns-in_err-keyword-clause-complete c x rest m a =
    let y = option_some import_alias_leaves _ _ x rest (λ b. no_text _ _ (codes "as") kind.Semicolon rest m refl (c.is_next_word.ensures.next.0 c.if-not-is_next_word.false) b) a in
    let h = c.in_err-keyword.ensures.complete y.0.keyword _ tt y.1 in
    stops _ _ _ _ c.from_residual.ensures (λ x g. g) h

pub returns-in_err-name-clause-complete : goal.returns-in_err-name-clause-complete
returns-in_err-name-clause-complete c x rest m a =
    let y = option_some import_alias_leaves _ _ x rest (λ b. no_text _ _ (codes "as") kind.Semicolon rest m refl (c.is_next_word.ensures.next.0 c.if-not-is_next_word.false) b) a in
    let b1 = c.in_ok-keyword.ensures.complete y.0.keyword _ tt y.1 in
    let h = c.in_err-name.ensures.complete y.0.name _ tt b1 in
    stops _ _ _ _ c.from_residual-in_err-name.ensures (λ x g. g) h

pub returns-clause-complete : goal.returns-clause-complete
returns-clause-complete c x rest m a =
    let y = option_some import_alias_leaves _ _ x rest (λ b. no_text _ _ (codes "as") kind.Semicolon rest m refl (c.is_next_word.ensures.next.0 c.if-not-is_next_word.false) b) a in
    let b1 = c.in_ok-keyword.ensures.complete y.0.keyword _ tt y.1 in
    c.in_ok-name.ensures.complete y.0.name _ tt b1

pub returns-clause-reads : goal.returns-clause-reads
returns-clause-reads c =
    let r1 = reads_join _ _ _ _ _ _ c.in_ok-keyword.ensures.reads c.in_ok-name.ensures.reads in
    r1
