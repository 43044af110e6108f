use Rattle.std.proofs.Common.{◌≡◌, map, take}
use Rattle.fidl_commands.specs.declared.files.File.{File}
use Rattle.fidl_tool.proofs.compiling.bytes_of.Given as goal

-- the texts so far are those of the files so far
abbrev pub invariant-loop-file : goal.invariant-loop-file
invariant-loop-file l = map (λ t. t.now) l.texts.items ≡ map (λ (file : File). file.bytes.now) (take l.file-index l.files)
