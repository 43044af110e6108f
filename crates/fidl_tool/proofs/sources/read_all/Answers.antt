use Rattle.std.proofs.Common.{◌≡◌, ◌+◌, List, [], ◌∷◌, ◌++◌, map, take, sym, subst, ap, ◌∙◌}
use Rattle.std.proofs.lemmas.List.{map-append}
use Rattle.fidl_tool.specs.Compiling.{Named}
use Rattle.fidl_tool.specs.Running.{IsRead, AreRead, stored_as}
use Rattle.fidl_tool.proofs.Pushed.{zip_more, made_at}
use Rattle.fidl_tool.proofs.sources.read_all.Goals as goal

pub loop-name-preserved : goal.loop-name-preserved
loop-name-preserved g c =
    let known = g.F.Files.bytes_of c.args.files.now in
    let names = map (λ n. n.now) c.args.names.now in
    let i = c.loop-name.name-index in
    let sources = c.loop-name.sources.items in
    let source = c.in_ok-source.source in
    let at = made_at (λ n. n.now) c.args.names.now i _ c.loop-name-test.true in
    let items : map stored_as c.push.new.self.items ≡ map stored_as sources ++ stored_as source ∷ [] = ap (map stored_as) c.in-Ok.ensures.items ∙ map-append stored_as sources (source ∷ []) in
    let more = zip_more (IsRead known) names (map stored_as sources) i _ (stored_as source) c.loop-name.invariant.0 at c.in_ok-source.ensures.read in (
      subst (λ (files : List Named). AreRead known (take (i + 1) names) files) (sym items) more,
      c.in_ok-source.ensures.kept ∙ c.loop-name.invariant.1,
    )
