use Rattle.std.proofs.Common.{List, sym, subst, ◌∙◌, inl, inr, true≢false}
use Rattle.std.specs.Prelude.{flat_map}
use Rattle.std.specs.List.{Contains}
use Rattle.fidl_tree.specs.Syntax.{Value}
use Rattle.fidl_named.specs.declared.meaning.Wanted.TheVariants as wanted
use Rattle.fidl_named.specs.Constraints.{ordinary}
use Rattle.fidl_named.specs.Places.{value_paths}
use Rattle.fidl_consts.specs.Dependencies.{TypeUses, constraint_paths}
use Rattle.fidl_consts.specs.Tables.{AreLimits}
use Rattle.fidl_const.specs.Columns.{IsOwnConstraint}
use Rattle.fidl_const.proofs.AliasLimits.{own_constraint, inherited_constraint, constraint_cases}
use Rattle.fidl_const.proofs.LimitLaws.{both_limits}
use Rattle.fidl_const.proofs.bounds.limits.Goals as goal

pub own_limits-requires-clause-settled : goal.own_limits-requires-clause-settled
own_limits-requires-clause-settled c =
    let f = c.args.scope.now.file.tree.now in
    let t = c.args.constructor.now in
    λ path m h means known.
    let among : Contains (constraint_paths f t) path = subst (λ (cs : List Value). Contains (flat_map value_paths (ordinary f cs)) path) c.type_constraints.ensures h in
    c.requires.settled wanted.Value path m (TypeUses.bound path c.requires.string among) means known

pub returns-then-own-clause-ok : goal.returns-then-own-clause-ok
returns-then-own-clause-ok c =
    let files = c.args.scope.now.file.named.now in
    let f = c.args.scope.now.file.tree.now in
    let t = c.args.constructor.now in
    let own = subst (λ (cs : List Value). AreLimits files (IsOwnConstraint c.args.scope.now.file.file_index f cs) c.in_ok-own.own) c.type_constraints.ensures c.in_ok-own.ensures.ok in
    both_limits files _ _ _ (own_constraint files c.args.scope.now.file.file_index f t) (inherited_constraint files c.args.scope.now.file.file_index f t) c.in_ok-own.own c.in_ok-inherited.inherited _ (constraint_cases files c.args.scope.now.file.file_index f t)
    c.lesser.ensures (λ off. absurd (true≢false (sym c.if-own.true ∙ off))) (λ on. inl on) own c.in_ok-inherited.ensures

pub returns-else-own-clause-ok : goal.returns-else-own-clause-ok
returns-else-own-clause-ok c =
    let files = c.args.scope.now.file.named.now in
    let f = c.args.scope.now.file.tree.now in
    let t = c.args.constructor.now in
    let own = subst (λ (cs : List Value). AreLimits files (IsOwnConstraint c.args.scope.now.file.file_index f cs) c.in_ok-own.own) c.type_constraints.ensures c.in_ok-own.ensures.ok in
    both_limits files _ _ _ (own_constraint files c.args.scope.now.file.file_index f t) (inherited_constraint files c.args.scope.now.file.file_index f t) c.in_ok-own.own c.in_ok-inherited.inherited _ (constraint_cases files c.args.scope.now.file.file_index f t)
    c.lesser.ensures (λ off. (c.if-own.false, off)) (λ on. inr on) own c.in_ok-inherited.ensures
