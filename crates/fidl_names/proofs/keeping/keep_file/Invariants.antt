use Rattle.fidl_named.specs.KeptNames.{AreKept}
use Rattle.fidl_names.proofs.keeping.keep_file.Given as goal

-- the names that are kept so far mean that
abbrev pub invariant-loop-declaration : goal.invariant-loop-declaration
invariant-loop-declaration l = AreKept l.scope.names.set.now l.scope.file.now l.kept.names.items
