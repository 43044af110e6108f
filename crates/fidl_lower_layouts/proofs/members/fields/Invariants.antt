use Rattle.std.proofs.Common.{take, map}
use Rattle.fidl_tree.specs.Views.{member_view}
use Rattle.fidl_ir.specs.Terms.{fields_view}
use Rattle.fidl_lower_layouts.specs.Members.{FieldsAre}
use Rattle.fidl_lower_layouts.proofs.members.fields.Given as goal

-- the fields so far are those of the members so far
abbrev pub invariant-loop-member : goal.invariant-loop-member
invariant-loop-member l = FieldsAre l.scope.sources.now.named.now l.scope.file_index l.scope.file.now (take l.member-index (map member_view l.members)) (fields_view l.found.items)
