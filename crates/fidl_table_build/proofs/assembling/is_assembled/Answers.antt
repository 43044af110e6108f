use Rattle.std.proofs.Common.{map, subst}
use Rattle.fidl_reachable_types.specs.Growing.{reference_view}
use Rattle.fidl_table_build.specs.Roots.{ShowsRoots}
use Rattle.fidl_table_build.specs.Methods.{ShowsProtocols}
use Rattle.fidl_table_build.proofs.assembling.is_assembled.Goals as goal

pub returns-then-are_roots : goal.returns-then-are_roots
returns-then-are_roots c = λ is. record {
  types = map reference_view c.args.types.now;
  reached = c.requires;
  entries = c.entries_are.ensures c.if-not-entries_are.false;
  names = c.names_are.ensures c.if-not-names_are.false;
  roots = subst (ShowsRoots _ _ _) c.of-records.ensures (c.are_roots.ensures c.if-are_roots.true);
  protocols = subst (ShowsProtocols _ _) c.of-records.ensures (c.are_protocols.ensures is);
}
