use Rattle.std.proofs.Common.{◌≡◌, ◌++◌, take, map}
use Rattle.fidl_hints.specs.Snippets.{shown}
use Rattle.fidl_hints.proofs.parts.push_shown.Given as goal

abbrev pub invariant-loop-byte : goal.invariant-loop-byte
invariant-loop-byte l = l.text.items ≡ l.fn.text.items ++ map shown (take l.byte-index l.bytes)
