use Rattle.std.proofs.Common.{refl}
use Rattle.fidl_span.specs.declared.words.WordKind.TheVariants as kind
use Rattle.fidl_tree.specs.Constraint.{next_constraint_leaves}
use Rattle.fidl_parse.specs.FollowSets.{extends_value}
use Rattle.fidl_parse.proofs.Follow.{not_row}
use Rattle.fidl_parse.proofs.Constraints.{next_constraint_begins, list_ahead, list_reads}
use Rattle.fidl_parse.proofs.Stops.{stops}
use Rattle.fidl_parse.proofs.parser.Parser.constraint_list.Goals as goal

pub returns-in_err-colon-clause-complete : goal.returns-in_err-colon-clause-complete
returns-in_err-colon-clause-complete c i x rest m a =
    let l = list_ahead _ _ x rest i a in
    let h = c.in_err-colon.ensures.complete l.0 _ tt l.5 in
    stops _ _ _ _ c.from_residual.ensures (λ x g. g) h

pub returns-in_err-less-clause-complete : goal.returns-in_err-less-clause-complete
returns-in_err-less-clause-complete c i x rest m a =
    let l = list_ahead _ _ x rest i a in
    let b1 = c.in_ok-colon.ensures.complete l.0 _ tt l.5 in
    let h = c.in_err-less.ensures.complete l.1 _ tt b1 in
    stops _ _ _ _ c.from_residual-in_err-less.ensures (λ x g. g) h

pub returns-in_err-value-clause-complete : goal.returns-in_err-value-clause-complete
returns-in_err-value-clause-complete c i x rest m a =
    let l = list_ahead _ _ x rest i a in
    let b1 = c.in_ok-colon.ensures.complete l.0 _ tt l.5 in
    let b2 = c.in_ok-less.ensures.complete l.1 _ tt b1 in
    let h = c.in_err-value.ensures.complete l.2 _ (not_row extends_value next_constraint_leaves kind.Comma refl next_constraint_begins l.3 _ refl) b2 in
    stops _ _ _ _ c.from_residual-in_err-value.ensures (λ x g. g) h

pub returns-in_err-rest-clause-complete : goal.returns-in_err-rest-clause-complete
returns-in_err-rest-clause-complete c i x rest m a =
    let l = list_ahead _ _ x rest i a in
    let b1 = c.in_ok-colon.ensures.complete l.0 _ tt l.5 in
    let b2 = c.in_ok-less.ensures.complete l.1 _ tt b1 in
    let b3 = c.in_ok-value.ensures.complete l.2 _ (not_row extends_value next_constraint_leaves kind.Comma refl next_constraint_begins l.3 _ refl) b2 in
    let h = c.in_err-rest.ensures.complete l.3 _ refl b3 in
    stops _ _ _ _ c.from_residual-in_err-rest.ensures (λ x g. g) h

pub returns-in_err-greater-clause-complete : goal.returns-in_err-greater-clause-complete
returns-in_err-greater-clause-complete c i x rest m a =
    let l = list_ahead _ _ x rest i a in
    let b1 = c.in_ok-colon.ensures.complete l.0 _ tt l.5 in
    let b2 = c.in_ok-less.ensures.complete l.1 _ tt b1 in
    let b3 = c.in_ok-value.ensures.complete l.2 _ (not_row extends_value next_constraint_leaves kind.Comma refl next_constraint_begins l.3 _ refl) b2 in
    let b4 = c.in_ok-rest.ensures.complete l.3 _ refl b3 in
    let h = c.in_err-greater.ensures.complete l.4 _ tt b4 in
    stops _ _ _ _ c.from_residual-in_err-greater.ensures (λ x g. g) h

pub returns-clause-complete : goal.returns-clause-complete
returns-clause-complete c i x rest m a =
    let l = list_ahead _ _ x rest i a in
    let b1 = c.in_ok-colon.ensures.complete l.0 _ tt l.5 in
    let b2 = c.in_ok-less.ensures.complete l.1 _ tt b1 in
    let b3 = c.in_ok-value.ensures.complete l.2 _ (not_row extends_value next_constraint_leaves kind.Comma refl next_constraint_begins l.3 _ refl) b2 in
    let b4 = c.in_ok-rest.ensures.complete l.3 _ refl b3 in
    c.in_ok-greater.ensures.complete l.4 _ tt b4

pub returns-clause-reads : goal.returns-clause-reads
returns-clause-reads c =
    list_reads _ _ _ _ _ _ _ c.in_ok-colon.colon c.in_ok-less.less c.in_ok-value.field-0 c.in_ok-first.first c.in_ok-rest.rest c.in_ok-greater.greater c.in_ok-first.ensures.ok
    c.in_ok-colon.ensures.reads c.in_ok-less.ensures.reads c.in_ok-value.ensures.reads c.in_ok-rest.ensures.reads c.in_ok-greater.ensures.reads
