use Rattle.std.proofs.Common.{◌≡◌, ◌++◌}
use Rattle.fidl_names.specs.DeclarationNumbers.{ids_in}
use Rattle.fidl_names.proofs.declaration_numbers.push_ids.Given as goal

-- the ids so far
abbrev pub invariant-loop-index : goal.invariant-loop-index
invariant-loop-index l = l.ids.items ≡ l.fn.ids.items ++ ids_in l.file l.index
