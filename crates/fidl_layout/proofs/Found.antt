-- The roots that are found, one form after another.
use Rattle.std.proofs.Common.{◌≡◌, ◌∙◌, ◌<◌, ◌≤◌, ◌+◌, ◌⊎◌, ℕ, zero, suc, List, [], ◌∷◌, ◌++◌, Some, length, inl, inr, refl, ap, sym, subst, arith}
use Rattle.std.specs.Prelude.{slice_get}
use Rattle.std.specs.List.{Contains}
use Rattle.std.proofs.lemmas.List.Elements.{Contains-append_left, Contains-push, Contains-push_cases}
use Rattle.std.proofs.lemmas.Option.{same_Some, slice_get_within}
use Rattle.std.proofs.Math.ListN.{length-map}
use Rattle.fidl_tree.specs.declared.file.File.{File}
use Rattle.fidl_declarations.specs.declared.form.Form.{Form as CodeForm}
use Rattle.fidl_declarations.specs.FormViews.{form_view, forms_view}
use Rattle.fidl_lower_types.specs.Numbers.{all_forms}
use Rattle.fidl_layout.specs.Roots.{IsRoot, RootAt}
use Rattle.fidl_layout.proofs.Starts.{get_map}

lt_or_eq : (k n : ℕ) → k ≤ n → (k < n) ⊎ (k ≡ n)
lt_or_eq zero zero le = inr refl
lt_or_eq zero (suc n) le = inl (omega arith)
lt_or_eq (suc k) zero le = absurd (omega (arith, le))
lt_or_eq (suc k) (suc n) le = elim (lt_or_eq k n (omega (arith, le))) [ inl less ↦ inl (omega (arith, less)) | inr is ↦ inr (ap suc is) ]

-- the roots before a number are in a list, and no other
pub record AreBefore (files : List File) (n : ℕ) (found : List ℕ) : Type 0 where
  pub sound : (i : ℕ) → Contains found i → RootAt files i
  pub complete : (i : ℕ) → i < n → RootAt files i → Contains found i

module _ (files : List File) (forms : List CodeForm) (are : forms_view forms ≡ all_forms files) (n : ℕ) (form : CodeForm) (at : slice_get forms n ≡ Some form) (found : List ℕ) (before : AreBefore files n found) where
  here_at : slice_get (all_forms files) n ≡ Some (form_view form)
  here_at = ap (λ l. slice_get l n) (sym are) ∙ get_map form_view forms n form at

  is_here : (i : ℕ) → i ≡ n → RootAt files i → IsRoot files (form_view form)
  is_here i e r = subst (IsRoot files) (same_Some r.form (form_view form) (sym r.at ∙ ap (slice_get (all_forms files)) e ∙ here_at)) r.is

  pub with_root : (k : ℕ) → k ≡ n → IsRoot files (form_view form) → (new : List ℕ) → new ≡ found ++ k ∷ [] → AreBefore files (n + 1) new
  with_root k same root new is = record {
    sound = λ i h. elim (Contains-push_cases found k i (subst (λ l. Contains l i) is h)) [
      | inl old ↦ before.sound i old
      | inr e ↦ subst (RootAt files) (sym same ∙ e) (record { form = form_view form; at = here_at; is = root })
    ];
    complete = λ i lt r. subst (λ l. Contains l i) (sym is) (elim (lt_or_eq i n (omega (arith, lt))) [
      | inl less ↦ Contains-append_left found (k ∷ []) i (before.complete i less r)
      | inr e ↦ subst (λ j. Contains (found ++ k ∷ []) j) (same ∙ sym e) (Contains-push found k)
    ]);
  }

  pub without : (IsRoot files (form_view form) → ⊥) → (new : List ℕ) → new ≡ found → AreBefore files (n + 1) new
  without none new is = record {
    sound = λ i h. before.sound i (subst (λ l. Contains l i) is h);
    complete = λ i lt r. subst (λ l. Contains l i) (sym is) (elim (lt_or_eq i n (omega (arith, lt))) [
      | inl less ↦ before.complete i less r
      | inr e ↦ absurd (none (is_here i e r))
    ]);
  }

-- all forms are before their count
pub root_within : (files : List File) (forms : List CodeForm) → forms_view forms ≡ all_forms files → (i : ℕ) → RootAt files i → i < length forms
root_within files forms are i r =
    let within = slice_get_within (all_forms files) i r.form r.at in
    let same = ap length are in
    let long = length-map forms form_view in
    omega (arith, within, same, long)
