-- Where the names of members stand.
use Rattle.std.specs.Prelude.{List, [], ◌∷◌, ◌++◌, map}
use Rattle.fidl_span.specs.declared.words.Span.{Span}
use Rattle.fidl_tree.specs.Syntax.{ValueMember}
use Rattle.fidl_tree.specs.Syntax.{Layout, values_layout, struct_layout, table_layout, union_layout}
use Rattle.fidl_tree.specs.Syntax.{Members, no_members, next_member}
use Rattle.fidl_tree.specs.Syntax.{Member, named_member, ordinal_member, reserved_member}

-- the names of members, in order: a reserved ordinal has none
abbrev pub own_name : Member → List Span
own_name (named_member attributes name t) = name ∷ []
own_name (ordinal_member attributes ordinal name t) = name ∷ []
own_name (reserved_member attributes ordinal) = []

abbrev pub own_names : Members → List Span
own_names no_members = []
own_names (next_member m ms) = own_name m ++ own_names ms

abbrev pub value_names : List ValueMember → List Span
value_names members = map (λ (m : ValueMember). m.name) members

-- the names of the members of a layout
abbrev pub layout_names : Layout → List Span
layout_names (values_layout kind strict keyword u members) = value_names members
layout_names (struct_layout is_resource keyword ms) = own_names ms
layout_names (table_layout is_resource keyword ms) = own_names ms
layout_names (union_layout strict is_resource keyword ms) = own_names ms
