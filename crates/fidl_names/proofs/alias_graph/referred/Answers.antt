use Rattle.std.proofs.Common.{refl, sym, subst}
use Rattle.std.proofs.lemmas.Result.{IfOk-weaker}
use Rattle.fidl_names.specs.AliasGraph.{AreReferred}
use Rattle.fidl_names.proofs.AliasEdges.{alias_refers, no_alias_refers}
use Rattle.fidl_names.proofs.alias_graph.referred.Goals as goal

pub returns-in-None : goal.returns-in-None
returns-in-None c =
    let ss = c.args.numbers.now.starts.items in
    subst (AreReferred c.args.names.now.set.now ss c.args.id) (sym c.new.ensures.items) (no_alias_refers c.args.names.now.set.now ss c.args.id (c.in-None.ensures.none refl))

pub returns-in-Some : goal.returns-in-Some
returns-in-Some c =
    let found = c.in-Some.ensures.found in
    IfOk-weaker c.targets.result _ _
    (λ targets h. alias_refers c.args.names.now.set.now c.args.numbers.now.starts.items c.args.id c.in-Some.found.file.now c.in-Some.found.alias.now targets.items found h)
    c.targets.ensures
