use Rattle.std.proofs.Common.{take}
use Rattle.std.specs.List.{AllByRecursion}
use Rattle.fidl_tree.specs.Views.{attributes_view}
use Rattle.fidl_member_rules.specs.Profile.{IsOtherTransport}
use Rattle.fidl_member_rules.proofs.profile.other_transport.Given as goal

-- none of the attributes so far is such
abbrev pub invariant-loop-attribute : goal.invariant-loop-attribute
invariant-loop-attribute l = AllByRecursion (λ a. IsOtherTransport l.file.src.now a → ⊥) (take l.attribute-index (attributes_view l.attributes))
