-- The constraints of a type of strings are its own, and those of the alias that its name means.
use Rattle.std.proofs.Common.{◌≡◌, ◌⊎◌, ℕ, List, Some, refl, sym, subst, ap, ◌∙◌, inl, inr}
use Rattle.std.specs.Prelude.{option_map}
use Rattle.std.proofs.lemmas.Option.{same_Some}
use Rattle.fidl_tree.specs.declared.file.File.{File}
use Rattle.fidl_tree.specs.Syntax.{Path, Value}
use Rattle.fidl_tree.specs.declared.declaration.AliasDeclaration.{AliasDeclaration}
use Rattle.fidl_tree.specs.declared.type_constructor.TypeConstructor.{TypeConstructor}
use Rattle.fidl_named.specs.declared.place.DeclarationId.{DeclarationId}
use Rattle.fidl_named.specs.declared.meaning.Wanted.TheVariants as wanted
use Rattle.fidl_named.specs.declared.meaning.Predeclared.TheVariants as name
use Rattle.fidl_named.specs.declared.meaning.Meaning.{Meaning}
use Rattle.fidl_named.specs.declared.meaning.Meaning.TheVariants as meaning
use Rattle.fidl_named.specs.Meanings.{Means}
use Rattle.fidl_named.specs.Paths.{texts}
use Rattle.fidl_named.specs.Aliases.{IsAliasAt, ResolvesTo}
use Rattle.fidl_tree.specs.Views.{path_view}
use Rattle.fidl_named.proofs.PathViews.{means_seen}
use Rattle.fidl_named.proofs.ResolvedMeanings.{one_alias, one_file as alias_file}
use Rattle.fidl_consts.specs.declared.consts.Limits.{Limits}
use Rattle.fidl_consts.specs.Types.{IsStringType, constraints_of, own_path}
use Rattle.fidl_consts.specs.Dependencies.{IsKnownNode, IsNode}
use Rattle.fidl_consts.specs.Strings.{IsConstraintOf, IsInheritedConstraint}
use Rattle.fidl_consts.specs.Tables.{AreLimits}
use Rattle.fidl_const.specs.Columns.{IsOwnConstraint}
use Rattle.fidl_const.proofs.LimitLaws.{same_limits}

module _ (files : List File) where
  pub known_alias : (p : DeclarationId) (f : File) (a : AliasDeclaration) → IsAliasAt files p f a → IsKnownNode files (meaning.Declared p)
  known_alias p f a h = record { file = f; place = _; is = IsNode.declaration p f h.declaration (record { file_at = h.file_at; stands = h.stands }) }

  -- an alias of the predeclared string
  pub record IsStringAlias (p : DeclarationId) : Type 0 where
    pub file : File
    pub alias : AliasDeclaration
    pub alias_at : IsAliasAt files p file alias
    pub string : IsStringType files file alias.constructor

  ahead : (m end : Meaning) → ResolvesTo files m end → (p : DeclarationId) → m ≡ meaning.Declared p → end ≡ meaning.Predeclared name.String → IsStringAlias p
  ahead m _ (ResolvesTo.itself _ none) p is end_is = let bad : meaning.Declared p ≡ meaning.Predeclared name.String = sym is ∙ end_is in cc
  ahead m end (ResolvesTo.further _ next _ follows resolved) p is end_is =
      let both : meaning.Declared follows.id ≡ meaning.Declared p = sym follows.is ∙ is in
      let same : follows.id ≡ p = cc in
      record {
        file = follows.file;
        alias = follows.alias;
        alias_at = subst (λ (q : DeclarationId). IsAliasAt files q follows.file follows.alias) same follows.alias_at;
        string = record { path = path_view follows.path; first = next; path_is = ap (option_map path_view) follows.type_is; means = means_seen files follows.file wanted.«Type» follows.path next follows.means; resolved = subst (ResolvesTo files next) end_is resolved };
      }

  module _ (number : ℕ) (f : File) (t : TypeConstructor) where
    pub own_constraint : (n : ℕ) (h : File) (v : Value) → IsOwnConstraint number f (constraints_of t) n h v → IsConstraintOf files number f t n h v
    own_constraint n h v own =
        let there : IsConstraintOf files number f t number f v = IsConstraintOf.own number f t v own.among in
        subst (λ (i : ℕ). IsConstraintOf files number f t i h v) (sym own.same_number) (subst (λ (g : File). IsConstraintOf files number f t number g v) (sym own.same_file) there)

    pub inherited_constraint : (n : ℕ) (h : File) (v : Value) → IsInheritedConstraint files number f t n h v → IsConstraintOf files number f t n h v
    inherited_constraint = IsConstraintOf.inherited number f t

    pub constraint_cases : (n : ℕ) (h : File) (v : Value) → IsConstraintOf files number f t n h v → IsOwnConstraint number f (constraints_of t) n h v ⊎ IsInheritedConstraint files number f t n h v
    constraint_cases _ _ _ (IsConstraintOf.own _ _ _ v among) = inl (record { same_number = refl; same_file = refl; among = among })
    constraint_cases _ _ _ (IsConstraintOf.inherited _ _ _ n h v from_alias) = inr from_alias

    module _ (path : Path) (path_is : own_path t ≡ Some path) where
      -- what the type's name means where the place of a type is
      abbrev Meant : Meaning → Type 0
      Meant m = Means files f wanted.«Type» (texts f.src.now path) m

      meant_there : (other : Path) (m : Meaning) → own_path t ≡ Some other → Means files f wanted.«Type» (texts f.src.now other) m → Meant m
      meant_there other m is means = subst (λ (q : Path). Means files f wanted.«Type» (texts f.src.now q) m) (same_Some other path (sym is ∙ path_is)) means

      -- where the name means no declaration there is no such constraint
      pub none_after : ((p : DeclarationId) → Meant (meaning.Declared p) → ⊥) → (n : ℕ) (h : File) (v : Value) → IsInheritedConstraint files number f t n h v → ⊥
      none_after none _ _ _ (IsInheritedConstraint.alias _ _ _ other p g a n h v is means alias_at of) = none p (meant_there other (meaning.Declared p) is means)

      module _ (id : DeclarationId) (means : Meant (meaning.Declared id)) where
        pub string_alias : IsStringType files f t → IsStringAlias id
        string_alias string = ahead string.first (meaning.Predeclared name.String) string.resolved id (means.1 string.first (meant_there string.path string.first string.path_is string.means).0) refl

        its_id : (p : DeclarationId) → Meant (meaning.Declared p) → p ≡ id
        its_id p other = let same : meaning.Declared p ≡ meaning.Declared id = means.1 (meaning.Declared p) other.0 in cc

        module _ (file : File) (alias : AliasDeclaration) (alias_at : IsAliasAt files id file alias) where
          to_after : (n : ℕ) (h : File) (v : Value) → IsConstraintOf files id.file file alias.constructor n h v → IsInheritedConstraint files number f t n h v
          to_after n h v of = IsInheritedConstraint.alias number f t path id file alias n h v path_is means alias_at of

          from_there : (p : DeclarationId) (g : File) (a : AliasDeclaration) (n : ℕ) (h : File) (v : Value) → p ≡ id → IsAliasAt files p g a → IsConstraintOf files p.file g a.constructor n h v
              → IsConstraintOf files id.file file alias.constructor n h v
          from_there p g a n h v same at of =
              let there = subst (λ (q : DeclarationId). IsAliasAt files q g a) same at in
              let of_id = subst (λ (q : DeclarationId). IsConstraintOf files q.file g a.constructor n h v) same of in
              let of_file = subst (λ (x : File). IsConstraintOf files id.file x a.constructor n h v) (alias_file files id id g file a alias there alias_at refl) of_id in
              subst (λ (b : AliasDeclaration). IsConstraintOf files id.file file b.constructor n h v) (one_alias files id id g file a alias there alias_at refl) of_file

          from_after : (n : ℕ) (h : File) (v : Value) → IsInheritedConstraint files number f t n h v → IsConstraintOf files id.file file alias.constructor n h v
          from_after _ _ _ (IsInheritedConstraint.alias _ _ _ other p g a n h v is meant at of) =
              from_there p g a n h v (its_id p (meant_there other (meaning.Declared p) is meant)) at of

          -- the limits of the alias are those of the inherited constraints of the type
          pub limits_ahead : (l : Limits) → AreLimits files (IsConstraintOf files id.file file alias.constructor) l → AreLimits files (IsInheritedConstraint files number f t) l
          limits_ahead l = same_limits files _ _ to_after l from_after
