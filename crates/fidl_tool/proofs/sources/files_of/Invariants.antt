use Rattle.std.proofs.Common.{◌≡◌, map, take}
use Rattle.fidl_tool.specs.Compiling.{named_of}
use Rattle.fidl_tool.specs.Running.{stored_as}
use Rattle.fidl_tool.proofs.sources.files_of.Given as goal

-- the files so far are the sources so far
abbrev pub invariant-loop-source : goal.invariant-loop-source
invariant-loop-source l = named_of l.files.items ≡ map stored_as (take l.source-index l.sources)
