use Rattle.std.proofs.Common.{refl}
use Rattle.fidl_parse.specs.FollowSets.{extends_value}
use Rattle.fidl_parse.proofs.Ahead.{group}
use Rattle.fidl_parse.proofs.Follow.{argument_end}
use Rattle.fidl_parse.proofs.Values.{value_unnamed}
use Rattle.fidl_parse.proofs.Stops.{stops}
use Rattle.fidl_parse.proofs.Joins.{reads_join}
use Rattle.fidl_parse.proofs.parser.Parser.argument.Goals as goal

pub returns-in_err-name-clause-complete : goal.returns-in_err-name-clause-complete
returns-in_err-name-clause-complete c x rest m a =
    let a0 = group _ _ _ _ rest a in
    let h = c.in_err-name.ensures.complete x.name _ (value_unnamed x.value rest m) a0 in
    stops _ _ _ _ c.from_residual.ensures (λ x g. g) h

pub returns-in_err-value-clause-complete : goal.returns-in_err-value-clause-complete
returns-in_err-value-clause-complete c x rest m a =
    let a0 = group _ _ _ _ rest a in
    let b1 = c.in_ok-name.ensures.complete x.name _ (value_unnamed x.value rest m) a0 in
    let h = c.in_err-value.ensures.complete x.value _ (argument_end extends_value refl refl rest m) b1 in
    stops _ _ _ _ c.from_residual-in_err-value.ensures (λ x g. g) h

pub returns-clause-complete : goal.returns-clause-complete
returns-clause-complete c x rest m a =
    let a0 = group _ _ _ _ rest a in
    let b1 = c.in_ok-name.ensures.complete x.name _ (value_unnamed x.value rest m) a0 in
    c.in_ok-value.ensures.complete x.value _ (argument_end extends_value refl refl rest m) b1

pub returns-clause-reads : goal.returns-clause-reads
returns-clause-reads c =
    let r1 = reads_join _ _ _ _ _ _ c.in_ok-name.ensures.reads c.in_ok-value.ensures.reads in
    r1
