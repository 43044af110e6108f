use Rattle.std.proofs.Common.{◌≡◌, List, ℕ, take}
use Rattle.std.specs.Prelude.{codes}
use Rattle.std.specs.List.{AllByRecursion}
use Rattle.fidl_named.specs.Constraints.{property_names}
use Rattle.fidl_resource_rules.proofs.properties.has_subtype.Given as goal

-- none of the properties so far is the subtype
abbrev pub invariant-loop-property : goal.invariant-loop-property
invariant-loop-property l = AllByRecursion (λ (n : List ℕ). n ≡ codes "subtype" → ⊥) (take l.property-index (property_names l.file l.properties))
