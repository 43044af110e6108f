-- Which full names a map holds.
use Rattle.std.proofs.Common.{◌≡◌, ℕ, Bool, false, List, [], ◌∷◌, Option, Some, None, sym, ap, subst, ◌∙◌, inl, inr, refl, nat_eq, cond, true≢false}
use Rattle.std.specs.Prelude.{is_some}
use Rattle.std.specs.Bool.{Decides}
use Rattle.std.specs.Global.{Vec}
use Rattle.std.specs.Map.{lookup}
use Rattle.std.specs.Cmp.Lexicographic.{pointwise}
use Rattle.std.proofs.lemmas.Slice.Eq.{slice_eq-Decides}
use Rattle.std.proofs.lemmas.Bool.{cases_Bool}
use Rattle.std.proofs.lemmas.Bool.Decides.{Decides-eqb}
use Rattle.fidl_named.specs.Names.{IsOneOf}
use Rattle.fidl_named.specs.Imports.{IsEntry}
use Rattle.fidl_named.proofs.FullNames.{entry_among}
use Rattle.fidl_named.specs.NameMaps.{seen, texts_view, names_of}
use Rattle.fidl_named.specs.Imports.{same}

pub same_is : (a b : List ℕ) → Decides (same a b) (a ≡ b)
same_is a b = slice_eq-Decides Decides-eqb a b (same a b) refl

-- two texts are the same by the test of a map
abbrev pub same_text : List ℕ → Vec ℕ → Bool
same_text name key = pointwise nat_eq name key.items

text_test : (name : List ℕ) (key : Vec ℕ) → Decides (same_text name key) (name ≡ key.items)
text_test name key = slice_eq-Decides Decides-eqb name key.items (same_text name key) refl

pub taken : {X : Type 0} (es : List (Vec ℕ × X)) (name : List ℕ) → Decides (is_some (lookup (same_text name) es)) (IsOneOf (names_of (seen es)) name)
taken [] name = ((λ e. absurd (true≢false (sym e))), (λ h. absurd h))
taken (e ∷ es) name = elim (cases_Bool (same_text name e.0)) [
  | inl here ↦ ((λ _. inl (sym ((text_test name e.0).0 here))), (λ _. ap (λ b. is_some (cond b (Some e.1) (lookup (same_text name) es))) here))
  | inr other ↦ let rest = taken es name in
      let same : is_some (lookup (same_text name) (e ∷ es)) ≡ is_some (lookup (same_text name) es) = ap (λ b. is_some (cond b (Some e.1) (lookup (same_text name) es))) other in
      ((λ h. inr (rest.0 (sym same ∙ h))), (λ h. same ∙ rest.1 (others h other)))
]
  where
    others : IsOneOf (names_of (seen (e ∷ es))) name → same_text name e.0 ≡ false → IsOneOf (names_of (seen es)) name
    others (inl is) other = absurd (true≢false (sym ((text_test name e.0).1 (sym is)) ∙ other))
    others (inr h) other = h

pub none_there : {X : Type 0} (found : Option X) → is_some found ≡ false → found ≡ None
none_there None e = refl
none_there (Some x) e = absurd (true≢false e)

names_of-texts : (es : List (Vec ℕ × Vec ℕ)) → names_of (seen es) ≡ names_of (texts_view es)
names_of-texts [] = refl
names_of-texts (e ∷ es) = ap (λ l. e.0.items ∷ l) (names_of-texts es)

pub taken_text : (es : List (Vec ℕ × Vec ℕ)) (name : List ℕ) → Decides (is_some (lookup (same_text name) es)) (IsOneOf (names_of (texts_view es)) name)
taken_text es name = subst (λ ns. Decides (is_some (lookup (same_text name) es)) (IsOneOf ns name)) (names_of-texts es) (taken es name)

-- what a look-up finds is an entry
pub found_entry : {X : Type 0} (es : List (Vec ℕ × X)) (name : List ℕ) (x : X) → lookup (same_text name) es ≡ Some x → IsEntry (seen es) name x
found_entry [] name x is = absurd (cc)
found_entry (e ∷ es) name x is = elim (cases_Bool (same_text name e.0)) [
  | inl here ↦
      let it : Some e.1 ≡ Some x = sym (ap (λ b. cond b (Some e.1) (lookup (same_text name) es)) here) ∙ is in
      let same : e.1 ≡ x = cc in
      inl (sym ((text_test name e.0).0 here), same)
  | inr other ↦ inr (found_entry es name x (sym (ap (λ b. cond b (Some e.1) (lookup (same_text name) es)) other) ∙ is))
]

-- where it finds none, there is none
pub no_entry : {X : Type 0} (es : List (Vec ℕ × X)) (name : List ℕ) (x : X) → lookup (same_text name) es ≡ None → IsEntry (seen es) name x → ⊥
no_entry es name x none h = absurd (true≢false (sym ((taken es name).1 (entry_among (seen es) name x h)) ∙ ap is_some none))

-- the same where texts stand there
pub found_text : (es : List (Vec ℕ × Vec ℕ)) (name : List ℕ) (x : Vec ℕ) → lookup (same_text name) es ≡ Some x → IsEntry (texts_view es) name x.items
found_text [] name x is = absurd (cc)
found_text (e ∷ es) name x is = elim (cases_Bool (same_text name e.0)) [
  | inl here ↦
      let it : Some e.1 ≡ Some x = sym (ap (λ b. cond b (Some e.1) (lookup (same_text name) es)) here) ∙ is in
      let value : e.1 ≡ x = cc in
      inl (sym ((text_test name e.0).0 here), ap (λ (v : Vec ℕ). v.items) value)
  | inr other ↦ inr (found_text es name x (sym (ap (λ b. cond b (Some e.1) (lookup (same_text name) es)) other) ∙ is))
]

pub no_text : (es : List (Vec ℕ × Vec ℕ)) (name text : List ℕ) → lookup (same_text name) es ≡ None → IsEntry (texts_view es) name text → ⊥
no_text es name text none h = absurd (true≢false (sym ((taken_text es name).1 (entry_among (texts_view es) name text h)) ∙ ap is_some none))
