-- What holds of files with one form.
use Rattle.std.proofs.Common.{◌≡◌, ◌∙◌, ℕ, zero, suc, List, [], ◌∷◌, Some, refl, ap, sym, subst, arith}
use Rattle.std.specs.Prelude.{slice_get}
use Rattle.std.proofs.lemmas.Option.{same_Some, none-some}
use Rattle.fidl_tree.specs.declared.file.File.{File}
use Rattle.fidl_named.specs.declared.place.Place.{Place}
use Rattle.fidl_cycles.specs.Cycles.{Leads, step, further}
use Rattle.fidl_declarations.specs.Forms.{Form}
use Rattle.fidl_wire.specs.Term.{Term}
use Rattle.fidl_lower_types.specs.Numbers.{all_forms}
use Rattle.fidl_ir_rules.specs.declared.mark.Mark.TheVariants.{Value}
use Rattle.fidl_ir_rules.specs.Resources.{mark_of}
use Rattle.fidl_ir_rules.specs.Inline.{HoldsInline}
use Rattle.fidl_types.specs.Marks.{form_mark, marks_of}
use Rattle.fidl_types.specs.Places.{form_place, IsPlaceOf}
use Rattle.fidl_types.specs.Faults.{SomeHolds, FormBreaks}

only_number : (form other : Form) (i : ℕ) → slice_get (form ∷ []) i ≡ Some other → i ≡ 0
only_number form other zero at = refl
only_number form other (suc i) at = absurd (none-some other at)

only_form : (form other : Form) (i : ℕ) → slice_get (form ∷ []) i ≡ Some other → form ≡ other
only_form form other zero at = same_Some form other at
only_form form other (suc i) at = absurd (none-some other at)

module _ (files : List File) (form : Form) (one : all_forms files ≡ form ∷ []) where
  -- the only form is reported at its place
  pub only_place : (i : ℕ) (place : Place) → IsPlaceOf (all_forms files) i place → place ≡ form_place form
  only_place i place h =
      let at = subst (λ (fs : List Form). slice_get fs i ≡ Some h.form) one h.at in
      h.is ∙ ap form_place (sym (only_form form h.form i at))

  pub place_there : IsPlaceOf (all_forms files) 0 (form_place form)
  place_there = record { form = form; at = ap (λ (fs : List Form). slice_get fs 0) one; is = refl }

  -- and the only one of which a refusal can be true
  pub only_mark : (place : Place) → FormBreaks files (SomeHolds (marks_of (all_forms files))) place → form_mark form.kind ≡ Value
  only_mark place h =
      let at = subst (λ (fs : List Form). slice_get fs h.number ≡ Some h.reported.form) one h.reported.at in
      let first = only_number form h.reported.form h.number at in
      let marked = subst (λ (i : ℕ). mark_of (marks_of (all_forms files)) i ≡ Value) first h.breaks.1.unmarked in
      subst (λ (fs : List Form). mark_of (marks_of fs) 0 ≡ Value) one marked

-- no definition holds one inline
none_inline : (t : Term) → ((j : ℕ) → HoldsInline (t ∷ []) 0 j → ⊥) → (i j : ℕ) → HoldsInline (t ∷ []) i j → ⊥
none_inline t none zero j h = none j h
none_inline t none (suc i) j h = absurd (omega (arith, h.1))

pub apart : (t : Term) → ((j : ℕ) → HoldsInline (t ∷ []) 0 j → ⊥) → (i j : ℕ) → Leads (HoldsInline (t ∷ [])) i j → ⊥
apart t none i j (step a b h) = none_inline t none a b h
apart t none i j (further a b c h k) = none_inline t none a b h
