-- A type of constants is one: what a name resolves to, what a type or a layout is written as.
use Rattle.std.proofs.Common.{◌≡◌, List, Option, Some, None, refl, ap, sym, subst, ◌∙◌}
use Rattle.fidl_tree.specs.declared.file.File.{File}
use Rattle.fidl_tree.specs.Syntax.{ValuesKind, Path}
use Rattle.fidl_tree.specs.declared.type_constructor.TypeConstructor.{TypeConstructor}
use Rattle.fidl_tree.specs.declared.type_constructor.ValuesLayout.{ValuesLayout, out-ValuesLayout}
use Rattle.fidl_named.specs.declared.meaning.Meaning.{Meaning}
use Rattle.fidl_named.specs.Aliases.{ResolvesTo}
use Rattle.fidl_named.proofs.ResolvedMeanings.{one_resolved}
use Rattle.fidl_tree.specs.Views.{kind_view}
use Rattle.fidl_consts.specs.declared.const_type.ConstType.{ConstType}
use Rattle.fidl_consts.specs.declared.const_type.NumberKind.{NumberKind}
use Rattle.fidl_consts.specs.Types.{EndIs, NameIs, meant, unmeant, TypeIs, UnderlyingIs, unwritten, underlying_kind, LayoutIs, path_of}

module _ (files : List File) where
  one_end : (m : Meaning) (a b : Option ConstType) → EndIs files m a → EndIs files m b → a ≡ b
  one_end _ _ _ (EndIs.predeclared n) (EndIs.predeclared _) = refl
  one_end _ _ _ (EndIs.values p f l h) (EndIs.values _ g k i) = refl
  one_end _ _ _ (EndIs.values p f l h) (EndIs.no_values _ none) = absurd (none f l h)
  one_end _ _ _ (EndIs.no_values p none) (EndIs.values _ f l h) = absurd (none f l h)
  one_end _ _ _ (EndIs.no_values p none) (EndIs.no_values _ other) = refl
  one_end _ _ _ (EndIs.member p i) (EndIs.member _ _) = refl
  one_end _ _ _ (EndIs.property_member p n i) (EndIs.property_member _ _ _) = refl

  module _ (f : File) (path : Path) where
    one_name : (a b : Option ConstType) → NameIs files f path a → NameIs files f path b → a ≡ b
    one_name a b (meant m end _ means resolved is) (meant n other _ also stands has) =
        let same : n ≡ m = means.1 n also.0 in
        let ends : other ≡ end = one_resolved files m other end (subst (λ x. ResolvesTo files x other) same stands) resolved in
        one_end end a b is (subst (λ x. EndIs files x b) ends has)
    one_name a b (meant m end _ means resolved is) (unmeant none) = absurd (none m means)
    one_name a b (unmeant none) (meant m end _ means resolved is) = absurd (none m means)
    one_name a b (unmeant none) (unmeant other) = refl

  pub one_type : (f : File) (t : TypeConstructor) (a b : Option ConstType) → TypeIs files f t a → TypeIs files f t b → a ≡ b
  one_type f t a b (TypeIs.written no_path) (TypeIs.written other) = refl
  one_type f t a b (TypeIs.written no_path) (TypeIs.named path _ is h) = let both : None ≡ Some path = sym no_path ∙ is in absurd (cc)
  one_type f t a b (TypeIs.named path _ is h) (TypeIs.written no_path) = let both : None ≡ Some path = sym no_path ∙ is in absurd (cc)
  one_type f t a b (TypeIs.named path _ is h) (TypeIs.named other _ also k) =
      let both : Some other ≡ Some path = sym also ∙ is in
      let same : other ≡ path = cc in
      one_name f path a b h (subst (λ p. NameIs files f p b) same k)

  pub one_underlying : (f : File) (values : ValuesKind) (path : Option Path) (a b : Option NumberKind) → UnderlyingIs files f values path a → UnderlyingIs files f values path b → a ≡ b
  one_underlying f values _ _ _ unwritten unwritten = refl
  one_underlying f values _ _ _ (UnderlyingIs.written path t h) (UnderlyingIs.written _ s k) = ap (underlying_kind values) (one_name f path t s h k)

  pub one_kind : (f : File) (l : ValuesLayout) (a b : NumberKind) → LayoutIs files f l (Some a) → LayoutIs files f l (Some b) → a ≡ b
  one_kind f l a b h k =
      let both : Some a ≡ Some b = one_underlying f (kind_view (out-ValuesLayout l).keyword) (path_of (out-ValuesLayout l).underlying) (Some a) (Some b) h k in
      cc
