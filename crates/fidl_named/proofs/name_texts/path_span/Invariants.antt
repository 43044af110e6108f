use Rattle.std.proofs.Common.{◌≡◌, take}
use Rattle.fidl_named.specs.Imports.{last_span}
use Rattle.fidl_named.proofs.name_texts.path_span.Given as goal

-- where the last component so far stands
abbrev pub invariant-loop-part : goal.invariant-loop-part
invariant-loop-part l = l.last ≡ last_span l.path.first (take l.part-index l.path.rest.items)
