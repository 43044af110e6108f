use Rattle.std.proofs.Common.{take, map}
use Rattle.fidl_tree.specs.Views.{ordinal_member_view}
use Rattle.fidl_ir.specs.Terms.{rows_view}
use Rattle.fidl_lower_layouts.specs.Members.{WrittenRowsAre}
use Rattle.fidl_lower_layouts.proofs.members.written_rows.Given as goal

-- the rows so far are those of the members so far
abbrev pub invariant-loop-member : goal.invariant-loop-member
invariant-loop-member l = WrittenRowsAre l.scope.sources.now.named.now l.scope.file_index l.scope.file.now (take l.member-index (map ordinal_member_view l.members)) (rows_view l.found.items)
