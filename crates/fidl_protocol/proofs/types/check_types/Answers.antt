use Rattle.std.proofs.Common.{◌≡◌, ℕ, List, subst}
use Rattle.fidl_wire.specs.Term.{Term}
use Rattle.fidl_tree.specs.declared.file.File.{File}
use Rattle.fidl_ir.specs.Terms.{definitions_view}
use Rattle.fidl_lower_layouts.specs.Definitions.{DefinitionsAre}
use Rattle.fidl_lower_layouts.proofs.One.{one_definitions}
use Rattle.fidl_reachable_types.specs.Reached.{AreReached}
use Rattle.fidl_reachable_types.specs.Growing.{types_of}
use Rattle.fidl_protocol.specs.Starts.{AreStarts}
use Rattle.fidl_protocol.proofs.types.check_types.Goals as goal

pub returns-in-Ok-clause-ok : goal.returns-in-Ok-clause-ok
returns-in-Ok-clause-ok c = λ ts checked.
    let files = c.args.laid.now in
    let found = definitions_view c.definitions.result.now in
    let starts = c.in_ok-starts.starts.items in
    let definitions = subst (λ (fs : List File). DefinitionsAre fs found) c.types-types.ensures c.definitions.ensures.definitions in
    let same : found ≡ ts = one_definitions files found ts definitions checked.definitions in
    let reached = subst (λ (l : List ℕ). AreReached found l (types_of c.in-Ok.field-0)) c.deref.ensures.value c.in-Ok.ensures.ok in
    record {
      starts = starts;
      are = subst (λ (fs : List File). AreStarts fs starts) c.types-types.ensures c.in_ok-starts.ensures.ok;
      types = types_of c.in-Ok.field-0;
      reached = subst (λ (us : List Term). AreReached us starts (types_of c.in-Ok.field-0)) same reached;
      few = c.in-Ok.ensures.within;
    }
