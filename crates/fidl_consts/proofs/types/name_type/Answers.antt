use Rattle.std.proofs.Common.{Option, subst}
use Rattle.fidl_named.specs.declared.meaning.Wanted.TheVariants as wanted
use Rattle.fidl_named.specs.declared.meaning.Meaning.{Meaning}
use Rattle.fidl_named.specs.Meanings.{Means, IsJust}
use Rattle.fidl_named.specs.Paths.{texts}
use Rattle.fidl_tree.specs.Views.{path_view}
use Rattle.fidl_consts.specs.Types.{NameIs}
use Rattle.fidl_consts.proofs.types.name_type.Goals as goal

pub returns-in-None : goal.returns-in-None
returns-in-None c =
    let f = c.args.file.now.tree.now in
    NameIs.unmeant (subst (λ (o : Option Meaning). IsJust (Means c.args.file.now.named.now f wanted.«Type» (texts f.src.now (path_view c.args.path.now))) o) c.in-None.is (c.in_ok-find.ensures f c.args.file.now.in_set))

pub returns-in-Some : goal.returns-in-Some
returns-in-Some c =
    let f = c.args.file.now.tree.now in
    let just = subst (λ (o : Option Meaning). IsJust (Means c.args.file.now.named.now f wanted.«Type» (texts f.src.now (path_view c.args.path.now))) o) c.in-Some.is (c.in_ok-find.ensures f c.args.file.now.in_set) in
    NameIs.meant c.in-Some.meaning c.resolved.result c.end_type.result just.0 c.resolved.ensures c.end_type.ensures
