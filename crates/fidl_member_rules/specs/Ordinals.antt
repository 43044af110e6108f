-- Ordinals of tables and unions (docs/language.md, "Rules of layouts").
use Rattle.std.specs.Prelude.{ℕ, ◌≡◌, ◌≢◌, ◌≤◌, List, [], ◌∷◌, ◌++◌, Some, slice_get}
use Rattle.std.specs.Prelude.{take, map}
use Rattle.std.specs.List.{Contains, AllByRecursion, AllPairs}
use Rattle.fidl_span.specs.declared.words.Span.{Span}
use Rattle.fidl_tree.specs.Leaf.{text_at}
use Rattle.fidl_tree.specs.Syntax.{Layout, values_layout, struct_layout, table_layout, union_layout}
use Rattle.fidl_tree.specs.Syntax.{Members, no_members, next_member}
use Rattle.fidl_tree.specs.Syntax.{Member, named_member, ordinal_member, reserved_member}
use Rattle.fidl_consts.specs.Literals.{number_of}

-- the ordinal of a member, where it has one: a reserved ordinal counts
abbrev pub own_ordinal : Member → List Span
own_ordinal (named_member attributes name t) = []
own_ordinal (ordinal_member attributes ordinal name t) = ordinal ∷ []
own_ordinal (reserved_member attributes ordinal) = ordinal ∷ []

-- those of members, in order
abbrev pub member_ordinals : Members → List Span
member_ordinals no_members = []
member_ordinals (next_member m ms) = own_ordinal m ++ member_ordinals ms

-- those of a layout
abbrev pub layout_ordinals : Layout → List Span
layout_ordinals (values_layout kind strict keyword u members) = []
layout_ordinals (struct_layout is_resource keyword ms) = []
layout_ordinals (table_layout is_resource keyword ms) = member_ordinals ms
layout_ordinals (union_layout strict is_resource keyword ms) = member_ordinals ms

-- the last ordinal that a layout may have: 64 in a table, and 4,294,967,295 in a union
abbrev pub last_ordinal : Layout → ℕ
last_ordinal (values_layout kind strict keyword u members) = 0
last_ordinal (struct_layout is_resource keyword ms) = 0
last_ordinal (table_layout is_resource keyword ms) = 64
last_ordinal (union_layout strict is_resource keyword ms) = 4294967295

-- the numbers that ordinals write
abbrev pub ordinal_numbers : (src : List ℕ) → List Span → List ℕ
ordinal_numbers src ordinals = map (λ s. number_of (text_at src s)) ordinals

-- an ordinal is at least 1, and at most the last
abbrev pub IsOrdinal : (last : ℕ) → ℕ → Type 0
IsOrdinal last n = (1 ≤ n) × (n ≤ last)

-- all ordinals are such, and no two are the same
pub record OrdinalsHold (src : List ℕ) (last : ℕ) (ordinals : List Span) : Type 0 where
  pub within : AllByRecursion (IsOrdinal last) (ordinal_numbers src ordinals)
  pub differ : AllPairs (λ m n. m ≢ n) (ordinal_numbers src ordinals)

-- the ordinal at this span is 0, or past the last
pub record IsOutside (src : List ℕ) (last : ℕ) (ordinals : List Span) (span : Span) : Type 0 where
  pub among : Contains ordinals span
  pub outside : IsOrdinal last (number_of (text_at src span)) → ⊥

-- the ordinal at this span is that of a member before its own
pub record IsRepeated (src : List ℕ) (ordinals : List Span) (span : Span) : Type 0 where
  pub rank : ℕ
  pub stands : slice_get ordinals rank ≡ Some span
  pub earlier : Contains (take rank (ordinal_numbers src ordinals)) (number_of (text_at src span))
