-- Definitions of which a refusal is true have no figures within the limits.
use Rattle.std.proofs.Common.{◌≡◌, ◌≢◌, ℕ, zero, suc, ◌≤◌, ◌*◌, ◌+◌, max, Bool, IsTrue, List, map, get_or, Some, refl, ap, sym, ◌∙◌, subst, arith}
use Rattle.std.specs.Prelude.{slice_get, [], ◌∷◌}
use Rattle.std.specs.List.{Contains, AllByRecursion}
use Rattle.std.proofs.lemmas.Option.{slice_get_within, get_or_from_slice_get}
use Rattle.std.proofs.Math.ListN.{get_or-map}
use Rattle.std.specs.Int.{next_multiple_of}
use Rattle.fidl_limits.specs.declared.limits.TheConstants.{MAX_LAYOUT_MEMBERS, MAX_NEST}
use Rattle.fidl_wire.specs.Term.{Term, Fields, no_fields, field, nothing, IsNoName}
use Rattle.fidl_wire.specs.Term as ty
use Rattle.fidl_wire.specs.Figure.{Figure, Declarations, figure, struct_figure, figure_of, end_of, align_of, nest_of}
use Rattle.fidl_ir.specs.declared.term.Definition.{Definition}
use Rattle.fidl_ir.specs.Terms.{definitions_view}
use Rattle.fidl_type_shape.specs.declared.fault.FigureFault.{FigureFault}
use Rattle.fidl_type_shape.specs.declared.fault.FigureFault.TheVariants.{TooNested, TooLarge, TooManyMembers, Memory}
use Rattle.fidl_type_shape.specs.Limits.{IsWithin, KeepLimits, TypeFits, parts, member_count}
use Rattle.fidl_type_shape.specs.Nesting.{Nested, none, empty, in_struct, in_array, by_name}
use Rattle.fidl_ir.specs.Members.{field_types}
use Rattle.fidl_type_shape.specs.Solutions.{is_settled, are_settled, Solve}
use Rattle.fidl_type_shape.specs.Faults.{IsTrueOf, IsBeyond, HoldsExcess}
use Rattle.fidl_type_shape.specs.declared.fault.Excess.{Excess}
use Rattle.fidl_type_shape.specs.declared.fault.Excess.TheVariants as excess
use Rattle.fidl_type_shape.proofs.Agree.{settled_all}
use Rattle.fidl_type_shape.proofs.Lists.{all_at}
use Rattle.fidl_type_shape.proofs.Fields.{both_left, both_right}
use Rattle.fidl_type_shape.proofs.Nests.{no_name_at}

-- what holds of all holds of each element
all_among : {X : Type 0} (P : X → Type 0) (xs : List X) (x : X) → AllByRecursion P xs → Contains xs x → P x
all_among P xs x h (k, within, is) = subst P is (all_at P xs k x h within)

all_standing : {X : Type 0} (P : X → Type 0) (xs : List X) (i : ℕ) (x : X) → AllByRecursion P xs → slice_get xs i ≡ Some x → P x
all_standing P xs i x h at = subst P (get_or_from_slice_get xs i x x at) (all_at P xs i x h (slice_get_within xs i x at))

module _ (terms : List Term) (figures : List Figure) (laid : map (figure_of figures) terms ≡ figures) where
  -- a definition has the figure that is kept for it
  kept : (i : ℕ) → figure_of figures (get_or terms i nothing) ≡ get_or figures i (figure 1 1 0)
  kept i = sym (get_or-map (figure_of figures) terms i nothing) ∙ ap (λ (fs : List Figure). get_or fs i (figure 1 1 0)) laid

  -- a member's nest is at most that of all
  member_nest : (fs : Fields) (t : Term) → Contains (field_types fs) t → (figure_of figures t).nest ≤ nest_of figures fs
  member_nest no_fields t (k, within, is) = absurd (omega (arith, within))
  member_nest (field name u fs) t (zero, within, is) = let e : (figure_of figures u).nest ≡ (figure_of figures t).nest = ap (λ (v : Term). (figure_of figures v).nest) is in omega (arith, e)
  member_nest (field name u fs) t (suc k, within, is) = let h = member_nest fs t (k, omega (arith, within), is) in omega (arith, h)

  -- a solution has nests as great as is true
  pub as_nested : (n : ℕ) (t : Term) → Nested terms n t → n ≤ (figure_of figures t).nest
  as_nested n t (none u) = omega arith
  as_nested n t empty = omega arith
  as_nested n t (in_struct k fs u among h) = let below = as_nested k u h in let near = member_nest fs u among in omega (arith, below, near)
  as_nested n t (in_array k u c h) = let below = as_nested k u h in omega (arith, below)
  as_nested n t (by_name k i u at h) =
      let below = as_nested k u h in
      let is = ap (figure_of figures) (sym (get_or_from_slice_get terms i u nothing at)) ∙ kept i in
      subst (λ (f : Figure). k ≤ f.nest) is below

  module _ (none_named : (i : ℕ) → IsNoName (get_or terms i nothing)) (some : List Figure) (chosen : List Bool) (solve : Solve terms some chosen) where
    IsSame : ℕ → Type 0
    IsSame n = (t : Term) → IsTrue (is_settled chosen t) → (figure_of some t).nest ≤ n → figure_of figures t ≡ figure_of some t

    record AreSame (fs : Fields) : Type 0 where
      ends : (from : ℕ) → end_of figures from fs ≡ end_of some from fs
      aligns : align_of figures fs ≡ align_of some fs
      nests : nest_of figures fs ≡ nest_of some fs

    same_fields : (n : ℕ) → IsSame n → (fs : Fields) → IsTrue (are_settled chosen fs) → nest_of some fs ≤ n → AreSame fs
    unfolding IsSame
    same_fields n ih no_fields s h = record { ends = λ from. refl; aligns = refl; nests = refl }
    same_fields n ih (field name t fs) s h =
        let e = ih t (both_left (is_settled chosen t) (are_settled chosen fs) s) (omega (arith, h)) in
        let r = same_fields n ih fs (both_right (is_settled chosen t) (are_settled chosen fs) s) (omega (arith, h)) in
        record {
          ends = λ from. ap (λ (k : Figure). end_of figures (next_multiple_of from k.align + k.size) fs) e ∙ r.ends (next_multiple_of from (figure_of some t).align + (figure_of some t).size);
          aligns = λ i. max (e i).align (r.aligns i);
          nests = λ i. max (e i).nest (r.nests i);
        }

    step : (n : ℕ) → IsSame n → (t : Term) → IsNoName t → IsTrue (is_settled chosen t) → (figure_of some t).nest ≤ suc n → figure_of figures t ≡ figure_of some t
    unfolding IsSame
    step n ih (ty.array t c) k s h = ap (λ (e : Figure). figure (e.size * c) e.align (suc e.nest)) (ih t s (omega (arith, h)))
    step n ih (ty.struct fs) k s h = let r = same_fields n ih fs s (omega (arith, h)) in λ i. struct_figure (r.ends 0 i) (r.aligns i) (r.nests i)
    step n ih (ty.named i) k s h = absurd k
    step n ih _ k s h = refl

    leaf : (t : Term) → IsNoName t → (figure_of some t).nest ≤ 0 → figure_of figures t ≡ figure_of some t
    leaf (ty.array t c) k h = absurd (omega (arith, h))
    leaf (ty.struct fs) k h = absurd (omega (arith, h))
    leaf (ty.named i) k h = absurd k
    leaf _ k h = refl

    same_of : (n : ℕ) → ((t : Term) → IsNoName t → IsTrue (is_settled chosen t) → (figure_of some t).nest ≤ n → figure_of figures t ≡ figure_of some t) → IsSame n
    unfolding IsSame
    same_of n u (ty.named i) s h =
        let is = solve i s in
        sym (kept i) ∙ u (get_or terms i nothing) (none_named i) is.settled (subst (λ (e : Figure). e.nest ≤ n) (sym is.solves) h) ∙ is.solves
    same_of n u ty.bool s h = refl
    same_of n u t s h = u t tt s h

    unnamed : (n : ℕ) (t : Term) → IsNoName t → IsTrue (is_settled chosen t) → (figure_of some t).nest ≤ n → figure_of figures t ≡ figure_of some t
    unnamed zero t k s h = leaf t k h
    unnamed (suc n) t k s h = step n (same_of n (unnamed n)) t k s h

    -- the figures of some definitions are those of every solution
    same : (t : Term) → IsTrue (is_settled chosen t) → figure_of figures t ≡ figure_of some t
    unfolding IsSame
    same t s = same_of (figure_of some t).nest (unnamed (figure_of some t).nest) t s (omega arith)

-- the figures of definitions, none a name, are one list, whatever term they are asked for
pub same_figures : (terms : List Term) → ((i : ℕ) → IsNoName (get_or terms i nothing)) → (one other : List Figure) → map (figure_of one) terms ≡ one → map (figure_of other) terms ≡ other → (t : Term) → figure_of one t ≡ figure_of other t
same_figures terms none_named one other a b t =
    same terms one a none_named other [] (λ i k. record { settled = settled_all [] (λ j. refl) (get_or terms i nothing); solves = kept terms other b i }) t (settled_all [] (λ j. refl) t)

-- a type that is within the limits is past none
beyond_not : (excess : Excess) (f : Figure) → IsBeyond excess f → IsWithin f → ⊥
beyond_not excess.Nest f h within = omega (arith, h, within.shallow)
beyond_not excess.Size f h within = omega (arith, h, within.small)

pub fits_not : (figures : List Figure) (t : Term) (excess : Excess) → HoldsExcess figures t excess → TypeFits figures t → ⊥
fits_not figures t excess h fits = beyond_not excess (figure_of figures h.part) h.beyond (all_among (λ u. IsWithin (figure_of figures u)) (parts t) h.part fits h.among)

-- a type that holds what is past a limit doesn't fit, by whatever figures of the definitions
pub excess_not : (ds : List Definition) (one other : List Figure) → map (figure_of one) (definitions_view ds) ≡ one → map (figure_of other) (definitions_view ds) ≡ other → (t : Term) (excess : Excess) → HoldsExcess one t excess → TypeFits other t → ⊥
excess_not ds one other a b t excess h fits =
    let is = same_figures (definitions_view ds) (no_name_at ds) one other a b h.part in
    let beyond : IsBeyond excess (figure_of other h.part) = subst (IsBeyond excess) is h.beyond in
    fits_not other t excess (record { part = h.part; among = h.among; own = h.own; beyond = beyond }) fits

-- what stands in a definition is within the limits
part_within : (ds : Declarations) → KeepLimits ds → (i : ℕ) (d t : Term) → slice_get ds.terms i ≡ Some d → Contains (parts d) t → IsWithin (figure_of ds.figures t)
part_within ds limits i d t stands among = all_among (λ u. IsWithin (figure_of ds.figures u)) (parts d) t (all_standing (λ e. AllByRecursion (λ u. IsWithin (figure_of ds.figures u)) (parts e)) ds.terms i d limits.figures stands) among

-- terms, none a name, of which a refusal is true have no figures within the limits
pub excluded_terms : (terms : List Term) → ((i : ℕ) → IsNoName (get_or terms i nothing)) → (figures : List Figure) (fault : FigureFault) → fault ≢ Memory → IsTrueOf terms fault → (laid : map (figure_of figures) terms ≡ figures) → KeepLimits (record { terms = terms; figures = figures }) → ⊥
excluded_terms terms none_named figures (TooNested i) real h laid limits =
    let within = part_within (record { terms = terms; figures = figures }) limits i h.definition h.part h.stands h.among in
    let deep = as_nested terms figures laid (suc MAX_NEST) h.part h.nested in
    omega (arith, within.shallow, deep)
excluded_terms terms none_named figures (TooLarge i) real h laid limits =
    let within = part_within (record { terms = terms; figures = figures }) limits i h.definition h.part h.stands h.among in
    let size = ap (λ (f : Figure). f.size) (same terms figures laid none_named h.figures h.chosen h.solve h.part h.settled) in
    omega (arith, within.small, size, h.large)
excluded_terms terms none_named figures (TooManyMembers i) real h laid limits =
    let few = all_standing (λ d. member_count d ≤ MAX_LAYOUT_MEMBERS) terms i h.definition limits.members h.stands in
    omega (arith, few, h.many)
excluded_terms terms none_named figures Memory real h laid limits = real refl

-- a definition that is no name
pub one_no_name : (t : Term) → IsNoName t → (i : ℕ) → IsNoName (get_or (t ∷ []) i nothing)
one_no_name t h zero = h
one_no_name t h (suc i) = tt

pub excluded : (definitions : List Definition) (figures : List Figure) (fault : FigureFault) → fault ≢ Memory → IsTrueOf (definitions_view definitions) fault → (laid : map (figure_of figures) (definitions_view definitions) ≡ figures) → KeepLimits (record { terms = definitions_view definitions; figures = figures }) → ⊥
excluded definitions = excluded_terms (definitions_view definitions) (no_name_at definitions)
