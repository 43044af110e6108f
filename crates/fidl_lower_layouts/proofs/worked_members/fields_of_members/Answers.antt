use Rattle.std.proofs.Common.{refl}
use Rattle.fidl_tree.specs.Syntax.{named_member, ordinal_member}
use Rattle.fidl_lower_layouts.specs.Members.{FieldIs}
use Rattle.fidl_lower_layouts.proofs.WorkedMembers.{field_name, no_field}
use Rattle.fidl_lower_layouts.proofs.worked_members.fields_of_members.Goals as goal

pub returns-clause-named : goal.returns-clause-named
returns-clause-named c = λ files n f attributes name t e h. FieldIs.named attributes name t e h

pub returns-clause-other_name : goal.returns-clause-other_name
returns-clause-other_name c = λ files n f attributes name t e text other h. other (field_name files n f (named_member attributes name t) attributes name t text e refl h)

pub returns-clause-with_ordinal : goal.returns-clause-with_ordinal
returns-clause-with_ordinal c = λ files n f attributes ordinal name t e text h. no_field files n f (ordinal_member attributes ordinal name t) attributes ordinal name t text e refl h
