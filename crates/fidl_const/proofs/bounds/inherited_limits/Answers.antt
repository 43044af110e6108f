use Rattle.std.proofs.Common.{◌≡◌, Option, Some, refl, sym, subst, ap, ◌∙◌, true≢false}
use Rattle.std.specs.Prelude.{IsSome}
use Rattle.fidl_tree.specs.Views.{path_view}
use Rattle.fidl_consts.specs.Dependencies.{TypeUses}
use Rattle.fidl_named.specs.declared.meaning.Wanted.TheVariants as wanted
use Rattle.fidl_named.specs.declared.meaning.Meaning.{Meaning}
use Rattle.fidl_named.specs.declared.meaning.Meaning.TheVariants as meaning
use Rattle.fidl_named.specs.Meanings.{Means}
use Rattle.fidl_named.specs.Paths.{texts}
use Rattle.fidl_consts.specs.Types.{own_path}
use Rattle.fidl_consts.specs.declared.consts.Limits.{Limits}
use Rattle.fidl_named.proofs.Justs.{the_just, just_one, no_just}
use Rattle.fidl_const.proofs.AliasLimits.{known_alias, none_after, string_alias, limits_ahead}
use Rattle.fidl_const.proofs.LimitLaws.{no_limits}
use Rattle.fidl_const.proofs.bounds.inherited_limits.Goals as goal

pub returns-in_default-2 : goal.returns-in_default-2
returns-in_default-2 c =
    let files = c.args.scope.now.file.named.now in
    let f = c.args.scope.now.file.tree.now in
    let path = path_view c.in-Some.path.now in
    let P = λ (m : Meaning). Means files f wanted.«Type» (texts f.src.now path) m in
    let none = no_just P _ (c.in_ok-meaning.ensures f c.args.scope.now.file.in_set) c.in_default-2.not-Some in
    no_limits files _ (none_after files c.args.scope.now.file.file_index f c.args.constructor.now path (sym c.in-Some.ensures) (λ p means. none (meaning.Declared p) means))

pub returns-in_default-meaning : goal.returns-in_default-meaning
returns-in_default-meaning c =
    let files = c.args.scope.now.file.named.now in
    let f = c.args.scope.now.file.tree.now in
    let path = path_view c.in-Some.path.now in
    let P = λ (m : Meaning). Means files f wanted.«Type» (texts f.src.now path) m in
    let only = just_one P _ (c.in_ok-meaning.ensures f c.args.scope.now.file.in_set) c.in-Some-2.meaning c.in-Some-2.is in
    no_limits files _ (none_after files c.args.scope.now.file.file_index f c.args.constructor.now path (sym c.in-Some.ensures) (λ p means. c.in_default-meaning.not-Declared p (sym (only (meaning.Declared p) means))))

pub returns-in-None : goal.returns-in-None
returns-in-None c =
    let files = c.args.scope.now.file.named.now in
    let f = c.args.scope.now.file.tree.now in
    let t = c.args.constructor.now in
    let path = path_view c.in-Some.path.now in
    let id = c.in-Declared.id in
    let P = λ (m : Meaning). Means files f wanted.«Type» (texts f.src.now path) m in
    let means = the_just P _ (c.in_ok-meaning.ensures f c.args.scope.now.file.in_set) (meaning.Declared id) (c.in-Some-2.is ∙ ap Some c.in-Declared.is) in
    let path_is : own_path t ≡ Some path = sym c.in-Some.ensures in
    let alias = string_alias files c.args.scope.now.file.file_index f t path path_is id means c.requires.string in
    let known = known_alias files id alias.file alias.alias alias.alias_at in
    let done = c.requires.settled wanted.«Type» path (meaning.Declared id) (TypeUses.by_name path path_is) means known in
    let there = done.limits id alias.file alias.alias refl alias.alias_at alias.string in
    let bad = subst (λ (o : Option Limits). IsSome o) (sym c.limits.ensures ∙ c.in-None.is) there in
    absurd (true≢false (sym bad))

pub returns-in-Some-limits : goal.returns-in-Some-limits
returns-in-Some-limits c =
    let files = c.args.scope.now.file.named.now in
    let f = c.args.scope.now.file.tree.now in
    let t = c.args.constructor.now in
    let path = path_view c.in-Some.path.now in
    let id = c.in-Declared.id in
    let P = λ (m : Meaning). Means files f wanted.«Type» (texts f.src.now path) m in
    let means = the_just P _ (c.in_ok-meaning.ensures f c.args.scope.now.file.in_set) (meaning.Declared id) (c.in-Some-2.is ∙ ap Some c.in-Declared.is) in
    let path_is : own_path t ≡ Some path = sym c.in-Some.ensures in
    let alias = string_alias files c.args.scope.now.file.file_index f t path path_is id means c.requires.string in
    limits_ahead files c.args.scope.now.file.file_index f t path path_is id means alias.file alias.alias alias.alias_at c.in-Some-limits.limits
    (c.requires.known.limits id alias.file alias.alias c.in-Some-limits.limits alias.alias_at (sym c.limits.ensures ∙ c.in-Some-limits.is))
