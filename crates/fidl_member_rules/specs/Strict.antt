-- Strict layouts without members (docs/language.md, "Rules of layouts").
use Rattle.std.specs.Prelude.{◌≡◌, Bool, true, false, []}
use Rattle.fidl_tree.specs.Syntax.{Layout, values_layout, struct_layout, table_layout, union_layout}
use Rattle.fidl_tree.specs.Syntax.{bits_kind, enum_kind}
use Rattle.fidl_named.specs.MemberNames.{layout_names}

-- a strict enum and a strict union have a member; strict bits need none
abbrev pub must_have_members : Layout → Bool
must_have_members (values_layout bits_kind strict keyword u members) = false
must_have_members (values_layout enum_kind strict keyword u members) = strict
must_have_members (struct_layout is_resource keyword ms) = false
must_have_members (table_layout is_resource keyword ms) = false
must_have_members (union_layout strict is_resource keyword ms) = strict

-- it must have members, and has none: a reserved ordinal is no member
abbrev pub IsEmptyStrict : Layout → Type 0
IsEmptyStrict l = (must_have_members l ≡ true) × (layout_names l ≡ [])
