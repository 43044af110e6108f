-- The equations of figures have at most one solution.
use Rattle.std.proofs.Common.{◌≡◌, ℕ, zero, suc, ◌+◌, ◌*◌, ◌≤◌, max, List, [], ◌∷◌, map, get_or, refl, ap, arith, sym, ◌∙◌, subst}
use Rattle.std.proofs.Math.ListN.{get_or-map}
use Rattle.std.specs.Int.{next_multiple_of}
use Rattle.std.specs.List.{AllByRecursion}
use Rattle.fidl_wire.specs.Term.{Term, Fields, no_fields, field, nothing, IsNoName}
use Rattle.fidl_wire.specs.Term as ty
use Rattle.fidl_wire.specs.Figure.{Figure, figure, struct_figure, figure_of, end_of, align_of, nest_of}

module _ (terms : List Term) (none_named : AllByRecursion IsNoName terms) (f g : List Figure) (solves_f : map (figure_of f) terms ≡ f) (solves_g : map (figure_of g) terms ≡ g) where
  Same : Term → Type 0
  Same t = figure_of f t ≡ figure_of g t

  at_name : (h : List Figure) → map (figure_of h) terms ≡ h → (i : ℕ) → figure_of h (ty.named i) ≡ figure_of h (get_or terms i nothing)
  at_name h e i = ap (λ hs. get_or hs i (figure 1 1 0)) (sym e) ∙ get_or-map (figure_of h) terms i nothing

  no_name : (ts : List Term) (i : ℕ) → AllByRecursion IsNoName ts → IsNoName (get_or ts i nothing)
  no_name [] i h = tt
  no_name (t ∷ ts) zero h = h.0
  no_name (t ∷ ts) (suc i) h = no_name ts i h.1

  record SameFields (fs : Fields) : Type 0 where
    ends : (from : ℕ) → end_of f from fs ≡ end_of g from fs
    aligns : align_of f fs ≡ align_of g fs
    nests : nest_of f fs ≡ nest_of g fs

  same_fields : (n : ℕ) → ((t : Term) → (figure_of f t).nest ≤ n → figure_of f t ≡ figure_of g t) → (fs : Fields) → nest_of f fs ≤ n → SameFields fs
  same_fields n ih no_fields h = record { ends = λ from. refl; aligns = refl; nests = refl }
  same_fields n ih (field name t fs) h =
      let e = ih t (omega (arith, h)) in
      let r = same_fields n ih fs (omega (arith, h)) in
      record {
        ends = λ from. ap (λ k. end_of f (next_multiple_of from k.align + k.size) fs) e ∙ r.ends (next_multiple_of from (figure_of g t).align + (figure_of g t).size);
        aligns = λ i. max (e i).align (r.aligns i);
        nests = λ i. max (e i).nest (r.nests i);
      }

  step : (n : ℕ) → ((t : Term) → (figure_of f t).nest ≤ n → figure_of f t ≡ figure_of g t) → (t : Term) → IsNoName t → (figure_of f t).nest ≤ suc n → figure_of f t ≡ figure_of g t
  step n ih (ty.array t c) k h = ap (λ e. figure (e.size * c) e.align (suc e.nest)) (ih t (omega (arith, h)))
  step n ih (ty.struct fs) k h = let r = same_fields n ih fs (omega (arith, h)) in λ i. struct_figure (r.ends 0 i) (r.aligns i) (r.nests i)
  step n ih (ty.named i) k h = absurd k
  step n ih _ k h = refl

  leaf : (t : Term) → IsNoName t → (figure_of f t).nest ≤ 0 → figure_of f t ≡ figure_of g t
  leaf (ty.array t c) k h = absurd (omega (arith, h))
  leaf (ty.struct fs) k h = absurd (omega (arith, h))
  leaf (ty.named i) k h = absurd k
  leaf _ k h = refl

  same_of : (n : ℕ) → ((t : Term) → IsNoName t → (figure_of f t).nest ≤ n → figure_of f t ≡ figure_of g t) → (t : Term) → (figure_of f t).nest ≤ n → figure_of f t ≡ figure_of g t
  same_of n u (ty.named i) h = at_name f solves_f i ∙ u (get_or terms i nothing) (no_name terms i none_named) (subst (λ e. e.nest ≤ n) (at_name f solves_f i) h) ∙ sym (at_name g solves_g i)
  same_of n u ty.bool h = refl
  same_of n u t h = u t tt h

  unnamed : (n : ℕ) (t : Term) → IsNoName t → (figure_of f t).nest ≤ n → figure_of f t ≡ figure_of g t
  unnamed zero t k h = leaf t k h
  unnamed (suc n) t k h = step n (same_of n (unnamed n)) t k h

  pub one_figures : f ≡ g
  one_figures = sym solves_f ∙ go terms ∙ solves_g
    where
      go : (ts : List Term) → map (figure_of f) ts ≡ map (figure_of g) ts
      go [] = refl
      go (t ∷ ts) = λ i. same_of (figure_of f t).nest (unnamed (figure_of f t).nest) t (omega arith) i ∷ go ts i
