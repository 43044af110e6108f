-- Bits and enums of uint32, as the code has them.
use Rattle.std.proofs.Common.{rules, ◌≡◌, ℕ, List, Option, None, Some, refl, ap, sym, subst, ◌∙◌, map}
use Rattle.fidl_tree.specs.Syntax as plain
use Rattle.fidl_tree.specs.Syntax.{TypeUse, Layout, ValuesKind, values_layout, no_underlying, underlying_type}
use Rattle.fidl_tree.specs.Views.{kind_view, is_strict, keyword_span, value_member_view, named_view, values_view}
use Rattle.fidl_tree.specs.declared.file.File.{File}
use Rattle.fidl_tree.specs.declared.type_constructor.ValuesLayout as values
use Rattle.fidl_tree.specs.declared.type_constructor.ValuesLayout.{ValuesLayout, out-ValuesLayout}
use Rattle.fidl_tree.specs.declared.type_constructor.Underlying as underlying
use Rattle.fidl_tree.specs.declared.type_constructor.Underlying.{Underlying, out-Underlying}
use Rattle.fidl_constraints.specs.Behind.{Core, layout_head, Behind}
use Rattle.fidl_constraints.proofs.OneBehind.{one_behind}
use Rattle.fidl_resource_rules.specs.Kinds.{IsUint32, LayoutSuits, AreOfUint32}

-- the underlying type that is written
abbrev its_underlying : Option Underlying → plain.Underlying
its_underlying None = no_underlying
its_underlying (Some u) = underlying_type (named_view (out-Underlying u).named)

module _ (l : ValuesLayout) where
  abbrev its_kind : ValuesKind
  its_kind = kind_view (out-ValuesLayout l).keyword

  abbrev its_layout : Option Underlying → Layout
  its_layout u = values_layout its_kind (is_strict (out-ValuesLayout l).strictness) (keyword_span (out-ValuesLayout l).keyword) (its_underlying u) (map value_member_view (out-ValuesLayout l).members.items)

  values_are : (u : Option Underlying) → (out-ValuesLayout l).underlying ≡ u → values_view l ≡ its_layout u
  values_are None is = search (rules, values.the_lemmas, is)
  values_are (Some u) is = search (rules, values.the_lemmas, underlying.the_lemmas, is)

  module _ (files : List File) (number : ℕ) where
    pub suits_without : (out-ValuesLayout l).underlying ≡ None → LayoutSuits files number its_kind (values_view l)
    suits_without is = subst (LayoutSuits files number its_kind) (sym (values_are None is)) (refl, tt)

    pub suits_written : (u : Underlying) → (out-ValuesLayout l).underlying ≡ Some u → IsUint32 files number (named_view (out-Underlying u).named) → LayoutSuits files number its_kind (values_view l)
    suits_written u is h = subst (LayoutSuits files number its_kind) (sym (values_are (Some u) is)) (refl, h)

    pub written_suits : (u : Underlying) → (out-ValuesLayout l).underlying ≡ Some u → LayoutSuits files number its_kind (values_view l) → IsUint32 files number (named_view (out-Underlying u).named)
    written_suits u is h = (subst (LayoutSuits files number its_kind) (values_are (Some u) is) h).1

    -- a layout of this kind is of no other
    pub kind_suits : (kind : ValuesKind) → LayoutSuits files number kind (values_view l) → its_kind ≡ kind
    kind_suits kind h = (subst (LayoutSuits files number kind) (values_are (out-ValuesLayout l).underlying refl) h).0

module _ (files : List File) (number : ℕ) (t : TypeUse) where
  -- what such a type is behind its aliases
  pub suits_behind : (kind : ValuesKind) (core : Core) (l : Layout) → Behind files number t core → core.head ≡ layout_head l → AreOfUint32 files number kind t → LayoutSuits files core.file kind l
  suits_behind kind core l behind is h =
      let cores : h.core ≡ core = one_behind files number t h.core core h.behind behind in
      let heads : layout_head h.layout ≡ layout_head l = sym h.is ∙ (ap (λ (c : Core). c.head) cores ∙ is) in
      let layouts : h.layout ≡ l = cc in
      subst (λ (c : Core). LayoutSuits files c.file kind l) cores (subst (LayoutSuits files h.core.file kind) layouts h.suits)
