use Rattle.std.proofs.Common.{sym, subst}
use Rattle.std.specs.List.{Contains}
use Rattle.fidl_cycles.proofs.Trails.{edge_to, target_of}
use Rattle.fidl_composition.proofs.points.add_targets.Goals as goal

pub returns : goal.returns
returns c =
    let graph = c.args.graph.now in
    let row = c.index-graph-point.result in
    let value = c.deref.ensures.value in
    record {
      targets = c.deref.result.now;
      edges = λ t. (
        (λ e. subst (λ l. Contains l t) (sym value) (target_of graph c.args.point row c.requires c.index-graph-point.is t e)),
        (λ h. edge_to graph c.args.point row c.requires c.index-graph-point.is t (subst (λ l. Contains l t) value h)),
      );
      grows = c.in_ok-add_all.ensures;
    }
