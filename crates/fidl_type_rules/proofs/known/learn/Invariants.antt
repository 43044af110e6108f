use Rattle.std.proofs.Common.{◌<◌, ℕ, List, take}
use Rattle.std.specs.List.{Contains}
use Rattle.fidl_tree.specs.declared.file.File.{File}
use Rattle.fidl_named.specs.declared.place.DeclarationId.{DeclarationId}
use Rattle.fidl_type_rules.specs.Known.{IsKnownAlias, AreKnownAliases}
use Rattle.fidl_type_rules.proofs.known.learn.Given as goal

-- the aliases so far are added
abbrev pub invariant-loop-id : goal.invariant-loop-id
invariant-loop-id l = (files : List File) → AreKnownAliases files l.fn.known.keys → ((p : DeclarationId) → Contains l.way p → IsKnownAlias files p) → AreKnownAliases files l.known.keys
