use Rattle.std.proofs.Common.{List}
use Rattle.std.specs.List.{Contains}
use Rattle.fidl_named.specs.declared.place.DeclarationId.{DeclarationId}
use Rattle.fidl_constraints.specs.BehindViews.{use_view}
use Rattle.fidl_lower_types.specs.declared.node.Shape.{Shape}
use Rattle.fidl_lower_types.proofs.Descending.{IsReached}
use Rattle.fidl_type_rules.specs.Made.{HasTerm}
use Rattle.fidl_type_rules.specs.Known.{IsKnownAlias, AreKnownAliases}
use Rattle.fidl_type_rules.proofs.known.follow.Given as goal

-- the current type was reached from the first; where it has a term, all aliases on the way are known
abbrev pub invariant-elements : goal.invariant-elements
invariant-elements l = record {
  reached : (ss : List Shape) × IsReached l.sources.named.now l.fn.file_index (use_view l.fn.of) ss l.at (use_view l.current);
  way : HasTerm l.sources.named.now l.at (use_view l.current) → (p : DeclarationId) → Contains l.way.items p → IsKnownAlias l.sources.named.now p;
  known : AreKnownAliases l.sources.named.now l.known.keys;
}
