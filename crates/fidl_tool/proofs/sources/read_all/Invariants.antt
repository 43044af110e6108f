use Rattle.std.proofs.Common.{◌≡◌, map, take}
use Rattle.fidl_tool.specs.Running.{AreRead, stored_as}
use Rattle.fidl_tool.proofs.sources.read_all.Given as goal

-- the sources so far are those of the names so far, and nothing was reported
abbrev pub invariant-loop-name : goal.invariant-loop-name
invariant-loop-name g l = AreRead (g.F.Files.bytes_of l.fn.files) (take l.name-index (map (λ n. n.now) l.names)) (map stored_as l.sources.items) × (l.errors ≡ l.fn.errors)
