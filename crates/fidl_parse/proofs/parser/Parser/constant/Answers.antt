use Rattle.std.proofs.Common.{refl}
use Rattle.fidl_span.specs.declared.words.WordKind.TheVariants as kind
use Rattle.fidl_parse.specs.FollowSets.{extends_value}
use Rattle.fidl_parse.proofs.Ahead.{begins_not}
use Rattle.fidl_parse.proofs.Declarations.{const_ahead}
use Rattle.fidl_parse.proofs.Stops.{stops}
use Rattle.fidl_parse.proofs.Joins.{reads_join}
use Rattle.fidl_parse.proofs.parser.Parser.constant.Goals as goal

pub returns-in_err-keyword-clause-complete : goal.returns-in_err-keyword-clause-complete
returns-in_err-keyword-clause-complete c x rest m a =
    let a0 = const_ahead _ _ x rest a in
    let h = c.in_err-keyword.ensures.complete x.keyword _ tt a0 in
    stops _ _ _ _ c.from_residual.ensures (λ x g. g) h

pub returns-in_err-name-clause-complete : goal.returns-in_err-name-clause-complete
returns-in_err-name-clause-complete c x rest m a =
    let a0 = const_ahead _ _ x rest a in
    let b1 = c.in_ok-keyword.ensures.complete x.keyword _ tt a0 in
    let h = c.in_err-name.ensures.complete x.name _ tt b1 in
    stops _ _ _ _ c.from_residual-in_err-name.ensures (λ x g. g) h

pub returns-in_err-constructor-clause-complete : goal.returns-in_err-constructor-clause-complete
returns-in_err-constructor-clause-complete c x rest m a =
    let a0 = const_ahead _ _ x rest a in
    let b1 = c.in_ok-keyword.ensures.complete x.keyword _ tt a0 in
    let b2 = c.in_ok-name.ensures.complete x.name _ tt b1 in
    let h = c.in_err-constructor.ensures.complete x.constructor _ refl b2 in
    stops _ _ _ _ c.from_residual-in_err-constructor.ensures (λ x g. g) h

pub returns-in_err-equals-clause-complete : goal.returns-in_err-equals-clause-complete
returns-in_err-equals-clause-complete c x rest m a =
    let a0 = const_ahead _ _ x rest a in
    let b1 = c.in_ok-keyword.ensures.complete x.keyword _ tt a0 in
    let b2 = c.in_ok-name.ensures.complete x.name _ tt b1 in
    let b3 = c.in_ok-constructor.ensures.complete x.constructor _ refl b2 in
    let h = c.in_err-equals.ensures.complete x.equals _ tt b3 in
    stops _ _ _ _ c.from_residual-in_err-equals.ensures (λ x g. g) h

pub returns-in_err-value-clause-complete : goal.returns-in_err-value-clause-complete
returns-in_err-value-clause-complete c x rest m a =
    let a0 = const_ahead _ _ x rest a in
    let b1 = c.in_ok-keyword.ensures.complete x.keyword _ tt a0 in
    let b2 = c.in_ok-name.ensures.complete x.name _ tt b1 in
    let b3 = c.in_ok-constructor.ensures.complete x.constructor _ refl b2 in
    let b4 = c.in_ok-equals.ensures.complete x.equals _ tt b3 in
    let h = c.in_err-value.ensures.complete x.value _ (begins_not extends_value kind.Semicolon rest refl m) b4 in
    stops _ _ _ _ c.from_residual-in_err-value.ensures (λ x g. g) h

pub returns-clause-complete : goal.returns-clause-complete
returns-clause-complete c x rest m a =
    let a0 = const_ahead _ _ x rest a in
    let b1 = c.in_ok-keyword.ensures.complete x.keyword _ tt a0 in
    let b2 = c.in_ok-name.ensures.complete x.name _ tt b1 in
    let b3 = c.in_ok-constructor.ensures.complete x.constructor _ refl b2 in
    let b4 = c.in_ok-equals.ensures.complete x.equals _ tt b3 in
    c.in_ok-value.ensures.complete x.value _ (begins_not extends_value kind.Semicolon rest refl m) b4

pub returns-clause-reads : goal.returns-clause-reads
returns-clause-reads c =
    let r1 = reads_join _ _ _ _ _ _ c.in_ok-keyword.ensures.reads c.in_ok-name.ensures.reads in
    let r2 = reads_join _ _ _ _ _ _ r1 c.in_ok-constructor.ensures.reads in
    let r3 = reads_join _ _ _ _ _ _ r2 c.in_ok-equals.ensures.reads in
    let r4 = reads_join _ _ _ _ _ _ r3 c.in_ok-value.ensures.reads in
    r4
