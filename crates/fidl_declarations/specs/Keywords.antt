-- The keywords of layouts, which tell the layouts of a file apart.
use Rattle.fidl_span.specs.declared.words.Span.{Span}
use Rattle.fidl_tree.specs.Syntax.{Layout, values_layout, struct_layout, table_layout, union_layout}

-- where the keyword of a layout stands
abbrev pub layout_keyword : Layout → Span
layout_keyword (values_layout kind strict keyword u members) = keyword
layout_keyword (struct_layout is_resource keyword ms) = keyword
layout_keyword (table_layout is_resource keyword ms) = keyword
layout_keyword (union_layout strict is_resource keyword ms) = keyword
