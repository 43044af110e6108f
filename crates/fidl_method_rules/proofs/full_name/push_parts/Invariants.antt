use Rattle.std.proofs.Common.{◌≡◌, ◌++◌, take}
use Rattle.std.specs.Prelude.{flat_map}
use Rattle.fidl_named.specs.Names.{part_text}
use Rattle.fidl_method_rules.proofs.full_name.push_parts.Given as goal

-- the text of the parts so far
abbrev pub invariant-loop-part : goal.invariant-loop-part
invariant-loop-part l = l.text.items ≡ l.fn.text.items ++ flat_map (part_text l.file.src.now) (take l.part-index l.parts)
