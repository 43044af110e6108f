-- Written types whose terms fit down to their first vectors fit as a whole.
use Rattle.std.proofs.Common.{◌≡◌, ◌<◌, ◌*◌, ◌++◌, ◌∙◌, ℕ, suc, Bool, List, [], ◌∷◌, Option, Some, None, length, refl, ap, sym, subst}
use Rattle.std.specs.Prelude.{slice_get}
use Rattle.std.specs.List.{AllByRecursion, Contains}
use Rattle.std.proofs.lemmas.List.Elements.{All-from_recursion}
use Rattle.std.proofs.lemmas.Option.{same_Some, none-some}
use Rattle.fidl_tree.specs.Syntax.{TypeUse}
use Rattle.fidl_tree.specs.Views.{file_view}
use Rattle.fidl_tree.specs.declared.file.File.{File}
use Rattle.fidl_declarations.specs.Sites.{Role, any_type, aliased_type, bare_type, present_type, service_type, second_argument, Site, type_site, layout_site, result_site, empty_response_site, attributes_site, file_sites}
use Rattle.fidl_wire.specs.Term.{Term}
use Rattle.fidl_wire.specs.Term as ty
use Rattle.fidl_wire.specs.Figure.{Figure, figure, figure_of}
use Rattle.fidl_lower_types.specs.declared.node.Shape.{Shape}
use Rattle.fidl_lower_types.specs.declared.node.Shape.TheVariants as shape
use Rattle.fidl_lower_types.specs.Terms.{Node, leaf, holds, made_of, NodeIs, TermIs}
use Rattle.fidl_lower_types.specs.TermViews.{made_of_all}
use Rattle.fidl_lower_types.proofs.OneTerm.{one_node}
use Rattle.fidl_type_shape.specs.Limits.{IsWithin, parts, TypeFits}
use Rattle.fidl_type_rules.proofs.Held.{held_stands, held_within}
use Rattle.fidl_layout.specs.Uses.{wanted_type, written_type, StandsIn, IsWritten, UseFits, UsesFit}
use Rattle.fidl_layout.specs.Shallow.{IsShallow, UseFitsAtFirst, UsesFitAtFirst}

-- From array to array.

all_push : (ss : List Shape) (s : Shape) (e : Term) → made_of_all (ss ++ s ∷ []) e ≡ made_of_all ss (made_of s e)
all_push [] s e = refl
all_push (r ∷ rs) s e = ap (made_of r) (all_push rs s e)

pub record IsReached (files : List File) (start : ℕ) (first : TypeUse) (ss : List Shape) (at : ℕ) (t : TypeUse) : Type 0 where
  pub within : at < length files
  pub from : (e : Term) → IsShallow files at t e → IsShallow files start first (made_of_all ss e)

pub reached_first : (files : List File) (start : ℕ) (first : TypeUse) → start < length files → IsReached files start first [] start first
reached_first files start first lt = record { within = lt; from = λ e h. h }

pub reached_next : (files : List File) (start : ℕ) (first : TypeUse) (ss : List Shape) (at : ℕ) (t : TypeUse) → IsReached files start first ss at t → (of : ℕ) (u : TypeUse) (n : ℕ) → NodeIs files at t (holds of u (shape.Array n))
    → IsReached files start first (ss ++ shape.Array n ∷ []) of u
reached_next files start first ss at t h of u n node = record {
  within = held_within files at t of u (shape.Array n) node h.within;
  from = λ e rest. subst (IsShallow files start first) (sym (all_push ss (shape.Array n) e)) (h.from (made_of (shape.Array n) e) (IsShallow.of_array at t of u n e node rest));
}

-- What stands in the files.

module _ (files : List File) where
  -- what a written type holds is written
  site_held : (n : ℕ) (site : Site) (t : TypeUse) → StandsIn files n site → written_type site ≡ Some t → (of : ℕ) (u : TypeUse) (s : Shape) → NodeIs files n t (holds of u s) → IsWritten files of u
  site_held n (type_site (second_argument head) v) t at is of u s node = absurd (none-some t is)
  site_held n (type_site role v) t at is of u s node =
      let same : v ≡ t = role_type role v t is in
      let there = held_stands files n v of u s (subst (λ (x : TypeUse). NodeIs files n x (holds of u s)) (sym same) node) role (record { f = at.f; file_at = at.file_at; among = at.among }) in
      record { site = type_site any_type u; at = record { f = there.f; file_at = there.file_at; among = there.among }; is = refl }
    where
      role_type : (role : Role) (v t : TypeUse) → wanted_type role v ≡ Some t → v ≡ t
      role_type any_type v t is = same_Some v t is
      role_type aliased_type v t is = same_Some v t is
      role_type bare_type v t is = same_Some v t is
      role_type present_type v t is = same_Some v t is
      role_type service_type v t is = same_Some v t is
      role_type (second_argument head) v t is = absurd (none-some t is)
  site_held n (layout_site path l) t at is of u s node = absurd (none-some t is)
  site_held n (result_site path strict r) t at is of u s node = absurd (none-some t is)
  site_held n (empty_response_site path) t at is of u s node = absurd (none-some t is)
  site_held n (attributes_site attributes) t at is of u s node = absurd (none-some t is)

  written_held : (n : ℕ) (t : TypeUse) → IsWritten files n t → (of : ℕ) (u : TypeUse) (s : Shape) → NodeIs files n t (holds of u s) → IsWritten files of u
  written_held n t w of u s node = site_held n w.site t w.at w.is of u s node

module _ (files : List File) (figures : List Figure) (each : (n : ℕ) (t : TypeUse) → IsWritten files n t → UseFitsAtFirst files figures n t) where
  -- with a shallow term that fits, the term fits and has the same figure
  record Fits (e d : Term) : Type 0 where
    fits : TypeFits figures e
    figure_is : figure_of figures e ≡ figure_of figures d

  -- what is proved of a term, by the types that it is made of
  record Whole (n : ℕ) (t : TypeUse) (e : Term) : Type 0 where
    by_first : (d : Term) → IsShallow files n t d → TypeFits figures d → Fits e d
    all : TypeFits figures e

  judged : (n : ℕ) (t : TypeUse) (e : Term) → TermIs files n t e → ((d : Term) → IsShallow files n t d → TypeFits figures d → Fits e d) → UseFitsAtFirst files figures n t → TypeFits figures e
  judged n t e is by (UseFitsAtFirst.whole h) = h e is
  judged n t e is by (UseFitsAtFirst.first d shallow fits) = (by d shallow fits).fits

  leaf_fits : (n : ℕ) (t : TypeUse) (e : Term) → NodeIs files n t (leaf e) → (d : Term) → IsShallow files n t d → TypeFits figures d → Fits e d
  leaf_fits n t e node _ (IsShallow.alone _ _ d also) fits =
      let is : leaf d ≡ leaf e = one_node files n t (leaf d) (leaf e) also node in
      let same : d ≡ e = cc in
      record { fits = subst (TypeFits figures) same fits; figure_is = ap (figure_of figures) (sym same) }
  leaf_fits n t e node _ (IsShallow.of_vector _ _ of u o b also) fits = let is : holds of u (shape.Vector o b) ≡ leaf e = one_node files n t (holds of u (shape.Vector o b)) (leaf e) also node in absurd (cc)
  leaf_fits n t e node _ (IsShallow.of_array _ _ of u k d also rest) fits = let is : holds of u (shape.Array k) ≡ leaf e = one_node files n t (holds of u (shape.Array k)) (leaf e) also node in absurd (cc)

  array_fits : (k : ℕ) (e d : Term) → Fits e d → IsWithin (figure_of figures (ty.array d k)) → Fits (ty.array e k) (ty.array d k)
  array_fits k e d h within =
      let same : figure_of figures (ty.array e k) ≡ figure_of figures (ty.array d k) = ap (λ (f : Figure). figure (f.size * k) f.align (suc f.nest)) h.figure_is in
      record { fits = (subst IsWithin (sym same) within, h.fits); figure_is = same }

  held_fits : (n : ℕ) (t : TypeUse) (of : ℕ) (u : TypeUse) (s : Shape) (e : Term) → NodeIs files n t (holds of u s) → Whole of u e → (d : Term) → IsShallow files n t d → TypeFits figures d → Fits (made_of s e) d
  held_fits n t of u s e node h _ (IsShallow.alone _ _ d also) fits = let is : leaf d ≡ holds of u s = one_node files n t (leaf d) (holds of u s) also node in absurd (cc)
  held_fits n t of u s e node h _ (IsShallow.of_vector _ _ k v o b also) fits =
      let is : holds k v (shape.Vector o b) ≡ holds of u s = one_node files n t (holds k v (shape.Vector o b)) (holds of u s) also node in
      let shapes : shape.Vector o b ≡ s = cc in
      subst (λ (r : Shape). Fits (made_of r e) (ty.vector o b ty.bool)) shapes (record { fits = (fits.0, h.all); figure_is = refl })
  held_fits n t of u s e node h _ (IsShallow.of_array _ _ k v m d also rest) fits =
      let is : holds k v (shape.Array m) ≡ holds of u s = one_node files n t (holds k v (shape.Array m)) (holds of u s) also node in
      let shapes : shape.Array m ≡ s = cc in
      let file : k ≡ of = cc in
      let use_is : v ≡ u = cc in
      let there : IsShallow files of u d = subst (λ (x : TypeUse). IsShallow files of x d) use_is (subst (λ (i : ℕ). IsShallow files i v d) file rest) in
      subst (λ (r : Shape). Fits (made_of r e) (ty.array d m)) shapes (array_fits m e d (h.by_first d there fits.1) fits.0)

  whole : (n : ℕ) (t : TypeUse) (e : Term) → TermIs files n t e → IsWritten files n t → Whole n t e
  whole _ _ _ (TermIs.alone n t e node) w =
      let by = leaf_fits n t e node in
      record { by_first = by; all = judged n t e (TermIs.alone n t e node) by (each n t w) }
  whole _ _ _ (TermIs.of_elements n t of u s e node rest) w =
      let below = whole of u e rest (written_held files n t w of u s node) in
      let by = held_fits n t of u s e node below in
      record { by_first = by; all = judged n t (made_of s e) (TermIs.of_elements n t of u s e node rest) by (each n t w) }

  pub use_fits : (n : ℕ) (t : TypeUse) → IsWritten files n t → UseFits files figures n t
  use_fits n t w e is = (whole n t e is w).all
