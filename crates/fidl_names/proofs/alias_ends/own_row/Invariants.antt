use Rattle.std.proofs.Common.{◌≡◌}
use Rattle.fidl_names.specs.MeaningRows.{own_ends}
use Rattle.fidl_names.proofs.alias_ends.own_row.Given as goal

-- those so far
abbrev pub invariant-loop-index : goal.invariant-loop-index
invariant-loop-index l = l.row.items ≡ own_ends l.file l.index
