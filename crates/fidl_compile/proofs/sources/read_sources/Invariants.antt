use Rattle.std.proofs.Common.{◌≡◌, length, map, take}
use Rattle.fidl_compile.specs.Sources.{ReadAs}
use Rattle.fidl_compile.proofs.sources.read_sources.Given as goal

-- the sources so far read as the files so far
abbrev pub invariant-loop-file : goal.invariant-loop-file
invariant-loop-file l = (length l.files.items ≡ l.file) × ReadAs (take l.file (map (λ s. s.now) l.fn.sources)) l.files.items
