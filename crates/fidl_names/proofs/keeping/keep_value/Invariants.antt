use Rattle.fidl_named.specs.KeptNames.{AreKept}
use Rattle.fidl_names.proofs.keeping.keep_value.Given as goal

-- the names that are kept so far mean that
abbrev pub invariant-loop-path : goal.invariant-loop-path
invariant-loop-path l = AreKept l.scope.names.set.now l.scope.file.now l.kept.names.items
