use Rattle.std.proofs.Common.{◌≡◌, ◌++◌, drop, nat_lt}
use Rattle.std.specs.Prelude.{filter}
use Rattle.std.specs.List.{filter_map}
use Rattle.fidl_ir.specs.Terms.{fields_view}
use Rattle.fidl_ir.specs.Members.{field_types}
use Rattle.fidl_ir_rules.specs.Inline.{inline_name}
use Rattle.fidl_ir_rules.proofs.inline.field_targets.Given as goal

-- the targets so far and those to come are all
abbrev pub invariant-loop-field : goal.invariant-loop-field
invariant-loop-field l = l.found.items ++ filter (λ i. nat_lt i l.count) (filter_map inline_name (field_types (fields_view (drop l.field-index l.fields)))) ≡ filter (λ i. nat_lt i l.count) (filter_map inline_name (field_types (fields_view l.fields)))
