use Rattle.std.proofs.Common.{◌≡◌, ◌++◌, take}
use Rattle.std.specs.Prelude.{flat_map}
use Rattle.fidl_tree.specs.Leaf.{text_at}
use Rattle.fidl_named.specs.Names.{part_text}
use Rattle.fidl_named.proofs.name_texts.dotted_text.Given as goal

-- the text of the components so far
abbrev pub invariant-loop-part : goal.invariant-loop-part
invariant-loop-part l = l.text.items ≡ text_at l.file.src.now l.fn.first ++ flat_map (part_text l.file.src.now) (take l.part-index l.parts)
