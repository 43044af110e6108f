use Rattle.std.proofs.Common.{◌≡◌, ◌++◌, take}
use Rattle.std.specs.Prelude.{codes, string_bytes, flat_map}
use Rattle.hex.specs.Hex.{encode_lower}
use Rattle.fidl_commands.specs.Encoding.{handle_line}
use Rattle.fidl_commands.proofs.encoding.message_text.Given as goal

-- the bytes, and the lines of the handles so far
abbrev pub invariant-loop-handle : goal.invariant-loop-handle
invariant-loop-handle l = string_bytes l.text ≡ encode_lower l.message.bytes.items ++ codes "\n" ++ flat_map handle_line (take l.handle-index l.message.handles.items)
