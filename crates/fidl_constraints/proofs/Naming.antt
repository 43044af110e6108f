-- What the names of types refer to, as the code finds it.
use Rattle.std.proofs.Common.{◌≡◌, ◌<◌, ◌≤◌, ℕ, zero, suc, List, [], ◌∷◌, Option, Some, None, length, refl, sym, subst, arith}
use Rattle.std.specs.Prelude.{slice_get, IfSome, option_map}
use Rattle.std.proofs.lemmas.Option.{slice_get_within}
use Rattle.fidl_tree.specs.Syntax as plain
use Rattle.fidl_tree.specs.Syntax.{TypeUse, named_type, Arguments, Value}
use Rattle.fidl_tree.specs.Views.{path_view, named_view, constraints_view}
use Rattle.fidl_tree.specs.declared.path.Path.{Path}
use Rattle.fidl_tree.specs.declared.file.File.{File}
use Rattle.fidl_tree.specs.declared.type_constructor.NamedType.{NamedType, out-NamedType}
use Rattle.fidl_tree.specs.declared.type_constructor.LayoutBody.TheFolds.{fold_out-NamedType}
use Rattle.fidl_named.specs.declared.meaning.Wanted.TheVariants as wanted
use Rattle.fidl_named.specs.declared.meaning.Meaning.{Meaning}
use Rattle.fidl_named.specs.Meanings.{components, Means, IsJust}
use Rattle.fidl_named.specs.Scopes.{OfFile}
use Rattle.fidl_named.proofs.AliasFacts.{components_seen}
use Rattle.fidl_named.proofs.PathViews.{means_seen}
use Rattle.fidl_constraints.specs.declared.targets.Target.{Target as CodeTarget}
use Rattle.fidl_constraints.specs.Behind.{Target, MeansType, MeaningRefersTo, RefersTo, LeadsTo}
use Rattle.fidl_constraints.specs.BehindViews.{arguments_view, target_view}
use Rattle.fidl_constraints.proofs.OneBehind.{one_meant}

-- a named type in plain data
pub named_seen : (n : NamedType) → named_view n ≡ named_type (path_view (out-NamedType n).path) (arguments_view (out-NamedType n).arguments) (constraints_view (out-NamedType n).constraints)
named_seen n = elim ((out-NamedType n).arguments) as (λ o. o ≡ (out-NamedType n).arguments → named_view n ≡ named_type (path_view (out-NamedType n).path) (arguments_view o) (constraints_view (out-NamedType n).constraints)) [
  | None ↦ λ is. rw (fold_out-NamedType, ← is) refl
  | Some a ↦ λ is. rw (fold_out-NamedType, ← is) refl
] refl

-- what stands at a place of a list
pub there : {X : Type 0} (xs : List X) (i : ℕ) → i < length xs → (x : X) × (slice_get xs i ≡ Some x)
there [] i lt = absurd (omega (arith, lt))
there (x ∷ xs) zero lt = (x, refl)
there (x ∷ xs) (suc i) lt = there xs i (omega (arith, lt))

module _ (files : List File) (number : ℕ) where
  -- the code's meaning of a name is its only one
  pub just_meant : (p : Path) (o : Option Meaning) → number < length files → OfFile files number (λ f. IsJust (Means files f wanted.«Type» (components f.src.now p)) o) → IsJust (MeansType files number (path_view p)) o
  just_meant p None lt h = λ m k. h k.file k.at m (subst (λ n. Means files k.file wanted.«Type» n m) (sym (components_seen k.file.src.now p)) k.means)
  just_meant p (Some m) lt h =
      let f = there files number lt in
      let its : MeansType files number (path_view p) m = record { file = f.0; at = f.1; means = means_seen files f.0 wanted.«Type» p m (h f.0 f.1).0 } in
      (its, λ n k. one_meant files number (path_view p) m n its k)

  -- a name refers to what its meaning does
  pub name_refers : (path : plain.Path) (arguments : Arguments) (cs : List Value) (t : Target) → RefersTo files number (named_type path arguments cs) t → (m : Meaning) × MeansType files number path m × MeaningRefersTo files number arguments m t
  name_refers _ _ _ _ (RefersTo.by_name _ _ _ m _ h at) = (m, h, at)

  -- so it stands in one of the files
  pub name_within : (path : plain.Path) (arguments : Arguments) (cs : List Value) (t : Target) → length files ≤ number → RefersTo files number (named_type path arguments cs) t → ⊥
  name_within path arguments cs t past h =
      let its = name_refers path arguments cs t h in
      let lt = slice_get_within files number its.1.file its.1.at in
      omega (arith, lt, past)

  pub no_meaning : (path : plain.Path) (arguments : Arguments) (cs : List Value) (t : Target) → IsJust (MeansType files number path) None → RefersTo files number (named_type path arguments cs) t → ⊥
  no_meaning path arguments cs t none h = let its = name_refers path arguments cs t h in none its.0 its.1

  pub no_target : (path : plain.Path) (arguments : Arguments) (cs : List Value) (t : Target) (m : Meaning) → MeansType files number path m → ((x : Target) → MeaningRefersTo files number arguments m x → ⊥)
      → RefersTo files number (named_type path arguments cs) t → ⊥
  no_target path arguments cs t m means none h =
      let its = name_refers path arguments cs t h in
      let same : its.0 ≡ m = one_meant files number path m its.0 means its.1 in
      none t (subst (λ (x : Meaning). MeaningRefersTo files number arguments x t) same its.2)

-- what the code found is what there is
pub seen_found : (P : Target → Type 0) (o : Option CodeTarget) (b : Option Target) → option_map target_view o ≡ b → ((t : Target) → b ≡ Some t → P t) → IfSome o (λ t. P (target_view t))
seen_found P None b e h = tt
seen_found P (Some x) b e h = h (target_view x) (sym e)

pub some_refers : (files : List File) (number : ℕ) (P : Target → Type 0) (n : NamedType)
    → ((t : Target) → P t → RefersTo files number (named_type (path_view (out-NamedType n).path) (arguments_view (out-NamedType n).arguments) (constraints_view (out-NamedType n).constraints)) t)
    → (o : Option CodeTarget) → IfSome o (λ t. P (target_view t)) → IfSome o (λ t. RefersTo files number (named_view n) (target_view t))
some_refers files number P n by None h = tt
some_refers files number P n by (Some x) h = subst (λ (u : TypeUse). RefersTo files number u (target_view x)) (sym (named_seen n)) (by (target_view x) h)

pub some_leads : (files : List File) (number : ℕ) (P : Target → Type 0) (n : NamedType)
    → ((t : Target) → P t → LeadsTo files number (named_type (path_view (out-NamedType n).path) (arguments_view (out-NamedType n).arguments) (constraints_view (out-NamedType n).constraints)) t)
    → (o : Option CodeTarget) → IfSome o (λ t. P (target_view t)) → IfSome o (λ t. LeadsTo files number (named_view n) (target_view t))
some_leads files number P n by None h = tt
some_leads files number P n by (Some x) h = subst (λ (u : TypeUse). LeadsTo files number u (target_view x)) (sym (named_seen n)) (by (target_view x) h)
