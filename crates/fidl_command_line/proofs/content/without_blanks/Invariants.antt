use Rattle.std.proofs.Common.{◌≡◌, take}
use Rattle.fidl_command_line.specs.Contents.{without_blanks}
use Rattle.fidl_command_line.proofs.content.without_blanks.Given as goal

abbrev pub invariant-loop-byte : goal.invariant-loop-byte
invariant-loop-byte l = l.kept.items ≡ without_blanks (take l.byte-index l.text)
