use Rattle.std.proofs.Common.{refl}
use Rattle.std.proofs.lemmas.Bool.{false≢true}
use Rattle.fidl_span.specs.declared.words.WordKind.TheVariants as kind
use Rattle.fidl_tree.specs.Constraint.{constraints_leaves}
use Rattle.fidl_parse.specs.FollowSets.{extends_type}
use Rattle.fidl_parse.proofs.Ahead.{not_begins}
use Rattle.fidl_parse.proofs.Options.{kind_none, kind_some}
use Rattle.fidl_parse.proofs.Follow.{value_of_type}
use Rattle.fidl_parse.proofs.Constraints.{constraints_begin, single_ahead, single_reads}
use Rattle.fidl_parse.proofs.Stops.{stops}
use Rattle.fidl_parse.proofs.parser.Parser.constraints.Goals as goal

pub returns-then-not-is_next-clause-complete : goal.returns-then-not-is_next-clause-complete
returns-then-not-is_next-clause-complete c x rest m a =
    kind_none constraints_leaves kind.Colon _ _ x rest constraints_begin (λ e. false≢true (c.if-not-is_next.ensures.next.1 e)) a

pub returns-in_err-constraint_list-clause-complete : goal.returns-in_err-constraint_list-clause-complete
returns-in_err-constraint_list-clause-complete c x rest m a =
    let y = kind_some constraints_leaves kind.Colon _ _ x rest (not_begins extends_type kind.Colon rest refl m) (c.is_next.ensures.next.0 c.if-not-is_next.false) a in
    let h = c.in_err-constraint_list.ensures.complete (c.is_second.ensures.0 c.if-is_second.true) y.0 _ tt y.1 in
    stops _ _ _ _ c.from_residual.ensures (λ x g. g) h

pub returns-then-is_second-clause-complete : goal.returns-then-is_second-clause-complete
returns-then-is_second-clause-complete c x rest m a =
    let y = kind_some constraints_leaves kind.Colon _ _ x rest (not_begins extends_type kind.Colon rest refl m) (c.is_next.ensures.next.0 c.if-not-is_next.false) a in
    c.in_ok-constraint_list.ensures.complete (c.is_second.ensures.0 c.if-is_second.true) y.0 _ tt y.1

pub returns-in_err-colon-clause-complete : goal.returns-in_err-colon-clause-complete
returns-in_err-colon-clause-complete c x rest m a =
    let y = kind_some constraints_leaves kind.Colon _ _ x rest (not_begins extends_type kind.Colon rest refl m) (c.is_next.ensures.next.0 c.if-not-is_next.false) a in
    let s = single_ahead _ _ y.0 rest (λ e. false≢true (c.if-is_second.ensures.1 e)) y.1 in
    let h = c.in_err-colon.ensures.complete s.0 _ tt s.2 in
    stops _ _ _ _ c.from_residual-in_err-colon.ensures (λ x g. g) h

pub returns-in_err-value-clause-complete : goal.returns-in_err-value-clause-complete
returns-in_err-value-clause-complete c x rest m a =
    let y = kind_some constraints_leaves kind.Colon _ _ x rest (not_begins extends_type kind.Colon rest refl m) (c.is_next.ensures.next.0 c.if-not-is_next.false) a in
    let s = single_ahead _ _ y.0 rest (λ e. false≢true (c.if-is_second.ensures.1 e)) y.1 in
    let b1 = c.in_ok-colon.ensures.complete s.0 _ tt s.2 in
    let h = c.in_err-value.ensures.complete s.1 _ (value_of_type rest m) b1 in
    stops _ _ _ _ c.from_residual-in_err-value.ensures (λ x g. g) h

pub returns-clause-complete : goal.returns-clause-complete
returns-clause-complete c x rest m a =
    let y = kind_some constraints_leaves kind.Colon _ _ x rest (not_begins extends_type kind.Colon rest refl m) (c.is_next.ensures.next.0 c.if-not-is_next.false) a in
    let s = single_ahead _ _ y.0 rest (λ e. false≢true (c.if-is_second.ensures.1 e)) y.1 in
    let b1 = c.in_ok-colon.ensures.complete s.0 _ tt s.2 in
    c.in_ok-value.ensures.complete s.1 _ (value_of_type rest m) b1

pub returns-clause-reads : goal.returns-clause-reads
returns-clause-reads c = single_reads _ _ _ _ c.in_ok-colon.colon c.in_ok-value.field-0 c.in_ok-value-2.value c.in_ok-value-2.ensures.ok c.in_ok-colon.ensures.reads c.in_ok-value.ensures.reads
