use Rattle.std.proofs.Common.{◌≡◌, subst}
use Rattle.fidl_ir.specs.Terms.{definitions_view}
use Rattle.fidl_lower_layouts.proofs.One.{one_definitions}
use Rattle.fidl_reachable_types.specs.Reached.{AreReached}
use Rattle.fidl_reachable_types.specs.Growing.{types_of}
use Rattle.fidl_layout.proofs.laying.check_types.Goals as goal

pub returns-in-Ok-clause-ok : goal.returns-in-Ok-clause-ok
returns-in-Ok-clause-ok c = λ ts checked.
    let files = c.args.types.now in
    let found = definitions_view c.definitions.result.now in
    let same : found ≡ ts = one_definitions files found ts c.definitions.ensures.definitions checked.definitions in
    let reached = subst (λ roots. AreReached found roots (types_of c.in-Ok.field-0)) c.deref.ensures.value c.in-Ok.ensures.ok in
    record {
      roots = c.in_ok-roots.roots.items;
      are = c.in_ok-roots.ensures.ok;
      types = types_of c.in-Ok.field-0;
      reached = subst (λ us. AreReached us c.in_ok-roots.roots.items (types_of c.in-Ok.field-0)) same reached;
      few = c.in-Ok.ensures.within;
    }
