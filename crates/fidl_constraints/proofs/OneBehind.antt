-- A type is just one thing behind its aliases.
use Rattle.std.proofs.Common.{◌≡◌, ℕ, List, Some, refl, ap, sym, subst, ◌∙◌}
use Rattle.std.specs.Prelude.{slice_get}
use Rattle.std.proofs.lemmas.Option.{same_Some}
use Rattle.fidl_tree.specs.Syntax.{Path, Arguments, TypeUse}
use Rattle.fidl_tree.specs.Views.{declared_view}
use Rattle.fidl_tree.specs.declared.file.File.{File}
use Rattle.fidl_tree.specs.declared.declaration.Declaration.{Declaration}
use Rattle.fidl_named.specs.declared.place.DeclarationId.{DeclarationId}
use Rattle.fidl_named.specs.declared.meaning.Wanted.TheVariants as wanted
use Rattle.fidl_named.specs.declared.meaning.Meaning.{Meaning}
use Rattle.fidl_named.specs.declared.meaning.Meaning.TheVariants as meaning
use Rattle.fidl_named.specs.Meanings.{Means}
use Rattle.fidl_named.specs.Paths.{texts}
use Rattle.fidl_named.specs.Constraints.{IsDeclarationAt}
use Rattle.fidl_constraints.specs.Behind.{Head, Core, Target, ends, follows, MeansType, body_target, IsDeclared, MeaningRefersTo, RefersTo, given_in, given_also, Behind}

module _ (files : List File) where
  pub one_declaration : (p : DeclarationId) (f g : File) (d e : Declaration) → IsDeclarationAt files p f d → IsDeclarationAt files p g e → d ≡ e
  one_declaration p f g d e h k =
      let same : g ≡ f = same_Some g f (sym k.file_at ∙ h.file_at) in
      let there : slice_get f.declarations.items p.index ≡ Some e = subst (λ (x : File). slice_get x.declarations.items p.index ≡ Some e) same k.stands in
      same_Some d e (sym h.stands ∙ there)

  pub one_meant : (number : ℕ) (path : Path) (m n : Meaning) → MeansType files number path m → MeansType files number path n → n ≡ m
  one_meant number path m n h k =
      let same : k.file ≡ h.file = same_Some k.file h.file (sym k.at ∙ h.at) in
      let means : Means files h.file wanted.«Type» (texts h.file.src.now path) n = subst (λ (f : File). Means files f wanted.«Type» (texts f.src.now path) n) same k.means in
      h.means.1 n means.0

  one_declared : (p : DeclarationId) (t u : Target) → IsDeclared files p t → IsDeclared files p u → t ≡ u
  one_declared p t u h k =
      let same : h.declaration ≡ k.declaration = one_declaration p h.file k.file h.declaration k.declaration h.at k.at in
      same_Some t u (sym h.is ∙ (ap (λ (d : Declaration). body_target p (declared_view d.body)) same ∙ k.is))

  one_of_meaning : (number : ℕ) (arguments : Arguments) (m : Meaning) (a b : Target) → MeaningRefersTo files number arguments m a → MeaningRefersTo files number arguments m b → a ≡ b
  one_of_meaning number _ (meaning.Predeclared w) a b h k = h ∙ sym k
  one_of_meaning number _ (meaning.Declared p) a b h k = one_declared p a b h k
  one_of_meaning number _ (meaning.Member p n) a b h k = absurd h
  one_of_meaning number _ (meaning.PropertyMember p n i) a b h k = absurd h

  pub one_target : (number : ℕ) (t : TypeUse) (a b : Target) → RefersTo files number t a → RefersTo files number t b → a ≡ b
  one_target number _ _ _ (RefersTo.by_layout attributes l cs) (RefersTo.by_layout _ _ _) = refl
  one_target number _ a b (RefersTo.by_name path arguments cs m _ h at) (RefersTo.by_name _ _ _ n _ k also) =
      let same : n ≡ m = one_meant number path m n h k in
      one_of_meaning number arguments m a b at (subst (λ (x : Meaning). MeaningRefersTo files number arguments x b) same also)

  pub one_behind : (number : ℕ) (t : TypeUse) (a b : Core) → Behind files number t a → Behind files number t b → a ≡ b
  one_behind _ _ _ _ (Behind.no_alias number t of head h) (Behind.no_alias _ _ also other k) =
      let is : ends of head ≡ ends also other = one_target number t (ends of head) (ends also other) h k in
      let file : of ≡ also = cc in
      let head_is : head ≡ other = cc in
      let gs = given_in number t in
      ap (λ (x : ℕ). record { file = x; head = head; given = gs }) file ∙ ap (λ (x : Head). record { file = also; head = x; given = gs }) head_is
  one_behind _ _ _ _ (Behind.no_alias number t of head h) (Behind.an_alias _ _ also next c k rest) =
      let is : ends of head ≡ follows also next = one_target number t (ends of head) (follows also next) h k in
      absurd (cc)
  one_behind _ _ _ _ (Behind.an_alias number t of next c h rest) (Behind.no_alias _ _ also head k) =
      let is : follows of next ≡ ends also head = one_target number t (follows of next) (ends also head) h k in
      absurd (cc)
  one_behind _ _ _ _ (Behind.an_alias number t of next c h rest) (Behind.an_alias _ _ also other d k more) =
      let is : follows of next ≡ follows also other = one_target number t (follows of next) (follows also other) h k in
      let file : also ≡ of = cc in
      let next_is : other ≡ next = cc in
      let there : Behind files of next d = subst (λ (x : TypeUse). Behind files of x d) next_is (subst (λ (n : ℕ). Behind files n other d) file more) in
      ap (given_also (given_in number t)) (one_behind of next c d rest there)
