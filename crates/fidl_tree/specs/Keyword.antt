-- The words of the grammar that there is a choice of (docs/language.md, "Grammar").
use Rattle.std.specs.Prelude.{List, ◌++◌, codes}
use Rattle.fidl_tree.specs.Leaf.{Leaf, keyword, optional}
use Rattle.fidl_tree.specs.declared.keyword.Strictness.{Strictness}
use Rattle.fidl_tree.specs.declared.keyword.Strictness.TheVariants.{Strict, Flexible}
use Rattle.fidl_tree.specs.declared.keyword.Resource.{Resource}
use Rattle.fidl_tree.specs.declared.keyword.Openness.{Openness}
use Rattle.fidl_tree.specs.declared.keyword.Openness.TheVariants.{Open, Ajar, Closed}
use Rattle.fidl_tree.specs.declared.keyword.ValuesKeyword.{ValuesKeyword}
use Rattle.fidl_tree.specs.declared.keyword.ValuesKeyword.TheVariants.{Bits, Enum}
use Rattle.fidl_tree.specs.declared.keyword.UnionModifiers.{UnionModifiers}
use Rattle.fidl_tree.specs.declared.keyword.UnionModifiers.TheVariants.{StrictnessFirst}
use Rattle.fidl_tree.specs.declared.keyword.UnionModifiers.TheVariants.{ResourceFirst}

-- strictness = "strict" | "flexible"
abbrev pub strictness_leaves : Strictness → List Leaf
strictness_leaves (Strict s) = keyword (codes "strict") s
strictness_leaves (Flexible s) = keyword (codes "flexible") s

-- resource = "resource"
abbrev pub resource_leaves : Resource → List Leaf
resource_leaves r = keyword (codes "resource") r.keyword

-- openness = "open" | "ajar" | "closed"
abbrev pub openness_leaves : Openness → List Leaf
openness_leaves (Open s) = keyword (codes "open") s
openness_leaves (Ajar s) = keyword (codes "ajar") s
openness_leaves (Closed s) = keyword (codes "closed") s

-- values_keyword = "bits" | "enum"
abbrev pub values_keyword_leaves : ValuesKeyword → List Leaf
values_keyword_leaves (Bits s) = keyword (codes "bits") s
values_keyword_leaves (Enum s) = keyword (codes "enum") s

-- union_modifiers = [strictness] [resource] | resource strictness
abbrev pub union_modifiers_leaves : UnionModifiers → List Leaf
union_modifiers_leaves (StrictnessFirst strictness resource) =
    optional strictness_leaves strictness ++ optional resource_leaves resource
union_modifiers_leaves (ResourceFirst resource strictness) = resource_leaves resource
    ++ strictness_leaves strictness
