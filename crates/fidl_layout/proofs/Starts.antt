-- Sets of places, and the declarations of files.
use Rattle.std.proofs.Common.{◌≡◌, ◌∙◌, ◌<◌, ◌+◌, ◌⊎◌, ◌↔◌, ◌||◌, ℕ, zero, suc, Bool, true, false, List, [], ◌∷◌, ◌++◌, Option, Some, None, nat_eq, take, get_or, length, map, inl, inr, refl, ap, sym, subst, true≢false}
use Rattle.std.specs.List.{AllZip, Contains, filter_map, cons_option, list_any}
use Rattle.std.specs.Prelude.{slice_get}
use Rattle.std.proofs.lemmas.Option.{slice_get_within, get_or_from_slice_get, none-some, same_Some}
use Rattle.fidl_tree.specs.declared.declaration.DeclarationBody.{DeclarationBody}
use Rattle.fidl_tree.specs.declared.declaration.DeclarationBody.TheVariants as body
use Rattle.fidl_tree.specs.declared.declaration.TypeDeclaration.{TypeDeclaration}
use Rattle.fidl_tree.specs.Syntax.{Layout}
use Rattle.fidl_declarations.specs.Forms.{FormKind, layout_form, result_form, empty_response_form}
use Rattle.fidl_layout.specs.Roots.{type_start, IsPlain}
use Rattle.std.specs.Bool.{if◌then◌else◌}
use Rattle.std.proofs.lemmas.Bool.{cases_Bool}
use Rattle.std.proofs.lemmas.Bool.Decides.{Decides-eqb}
use Rattle.std.proofs.lemmas.List.{append-nil}
use Rattle.std.proofs.lemmas.List.Elements.{filter_map-append, Contains-append_left, Contains-push, Contains-push_cases}
use Rattle.indexmap.specs.IndexSet.{insert_key}
use Rattle.indexmap.proofs.CallerLemmas.{Contains-list_any}
use Rattle.fidl_cycles.proofs.Lists.{take_item}
use Rattle.fidl_reachable_types.proofs.Members.{nothing_there, first_or_rest}

module _ (ks : List ℕ) (n : ℕ) where
  pub old_there : list_any (nat_eq n) ks ≡ true → Contains ks n
  old_there e = Contains-list_any nat_eq (λ x y k. (Decides-eqb x y).0 k) ks n e

  insert_old : list_any (nat_eq n) ks ≡ true → insert_key nat_eq ks n ≡ ks
  insert_old e = ap (λ b. if b then ks else (ks ++ n ∷ [])) e

  insert_new : list_any (nat_eq n) ks ≡ false → insert_key nat_eq ks n ≡ ks ++ n ∷ []
  insert_new e = ap (λ b. if b then ks else (ks ++ n ∷ [])) e

  -- what a set has with one more
  pub inserted : (m : ℕ) → Contains (insert_key nat_eq ks n) m → Contains ks m ⊎ (n ≡ m)
  inserted m h = elim (cases_Bool (list_any (nat_eq n) ks)) [
    | inl e ↦ inl (subst (λ l. Contains l m) (insert_old e) h)
    | inr e ↦ Contains-push_cases ks n m (subst (λ l. Contains l m) (insert_new e) h)
  ]

  pub still : (m : ℕ) → Contains ks m → Contains (insert_key nat_eq ks n) m
  still m h = elim (cases_Bool (list_any (nat_eq n) ks)) [
    | inl e ↦ subst (λ l. Contains l m) (sym (insert_old e)) h
    | inr e ↦ subst (λ l. Contains l m) (sym (insert_new e)) (Contains-append_left ks (n ∷ []) m h)
  ]

  pub itself : Contains (insert_key nat_eq ks n) n
  itself = elim (cases_Bool (list_any (nat_eq n) ks)) [
    | inl e ↦ subst (λ l. Contains l n) (sym (insert_old e)) (old_there e)
    | inr e ↦ subst (λ l. Contains l n) (sym (insert_new e)) (Contains-push ks n)
  ]

-- One declaration more.
module _ {X : Type 0} (h : X → Option ℕ) (xs : List X) (i : ℕ) (x : X) (lt : i < length xs) (is : x ≡ get_or xs i x) where
  taken : filter_map h (take (i + 1) xs) ≡ filter_map h (take i xs) ++ filter_map h (x ∷ [])
  taken = ap (filter_map h) (take_item xs i x lt is) ∙ filter_map-append h (take i xs) (x ∷ [])

  pub none_more : h x ≡ None → filter_map h (take (i + 1) xs) ≡ filter_map h (take i xs)
  none_more none = taken ∙ ap (λ l. filter_map h (take i xs) ++ l) (ap (λ o. cons_option o []) none) ∙ append-nil (filter_map h (take i xs))

  pub one_more : (n : ℕ) → h x ≡ Some n → filter_map h (take (i + 1) xs) ≡ filter_map h (take i xs) ++ n ∷ []
  one_more n some = taken ∙ ap (λ l. filter_map h (take i xs) ++ l) (ap (λ o. cons_option o []) some)

-- what is no type has no place
pub no_start : (b : DeclarationBody) → ((d : TypeDeclaration) → b ≡ body.«Type» d → ⊥) → type_start b ≡ None
no_start (body.Const d) other = refl
no_start (body.Alias d) other = refl
no_start (body.«Type» d) other = absurd (other d refl)
no_start (body.Protocol d) other = refl
no_start (body.Service d) other = refl
no_start (body.Resource d) other = refl

-- A set and a list that have the same, and one more.
module _ (ks starts : List ℕ) (same : (m : ℕ) → Contains ks m ↔ Contains starts m) where
  pub both_more : (new more : List ℕ) (n : ℕ) → new ≡ insert_key nat_eq ks n → more ≡ starts ++ n ∷ [] → (m : ℕ) → Contains new m ↔ Contains more m
  both_more new more n is made m = (there_more, here_more)
    where
      there_more : Contains new m → Contains more m
      there_more h = subst (λ l. Contains l m) (sym made) (elim (inserted ks n m (subst (λ l. Contains l m) is h)) [
        | inl old ↦ Contains-append_left starts (n ∷ []) m ((same m).0 old)
        | inr e ↦ subst (λ k. Contains (starts ++ n ∷ []) k) e (Contains-push starts n)
      ])

      here_more : Contains more m → Contains new m
      here_more h = subst (λ l. Contains l m) (sym is) (elim (Contains-push_cases starts n m (subst (λ l. Contains l m) made h)) [
        | inl old ↦ still ks n m ((same m).1 old)
        | inr e ↦ subst (λ k. Contains (insert_key nat_eq ks n) k) e (itself ks n)
      ])

  pub both_same : (new more : List ℕ) → new ≡ ks → more ≡ starts → (m : ℕ) → Contains new m ↔ Contains more m
  both_same new more is made m = ((λ h. subst (λ l. Contains l m) (sym made) ((same m).0 (subst (λ l. Contains l m) is h))), (λ h. subst (λ l. Contains l m) (sym is) ((same m).1 (subst (λ l. Contains l m) made h))))

-- Lists that are paired.
module _ {A B : Type 0} (R : A → B → Type 0) where
  zip_push : (xs : List A) (ys : List B) (x : A) (y : B) → AllZip R xs ys → R x y → AllZip R (xs ++ x ∷ []) (ys ++ y ∷ [])
  zip_push [] [] x y h r = (r, h)
  zip_push [] (z ∷ zs) x y h r = absurd h
  zip_push (w ∷ ws) [] x y h r = absurd h
  zip_push (w ∷ ws) (z ∷ zs) x y h r = (h.0, zip_push ws zs x y h.1 r)

  pub zip_more : (xs : List A) (i : ℕ) (x : A) → slice_get xs i ≡ Some x → (ys : List B) (y : B) → AllZip R (take i xs) ys → R x y → AllZip R (take (i + 1) xs) (ys ++ y ∷ [])
  zip_more xs i x at ys y h r = subst (λ l. AllZip R l (ys ++ y ∷ [])) (sym (take_item xs i x (slice_get_within xs i x at) (sym (get_or_from_slice_get xs i x x at)))) (zip_push (take i xs) ys x y h r)

  pub zip_at : (xs : List A) (ys : List B) (k : ℕ) (x : A) (y : B) → AllZip R xs ys → slice_get xs k ≡ Some x → slice_get ys k ≡ Some y → R x y
  zip_at [] ys k x y h at by = absurd (none-some x at)
  zip_at (w ∷ ws) [] k x y h at by = absurd h
  zip_at (w ∷ ws) (z ∷ zs) zero x y h at by = subst (λ v. R v y) (same_Some w x at) (subst (R w) (same_Some z y by) h.0)
  zip_at (w ∷ ws) (z ∷ zs) (suc k) x y h at by = zip_at ws zs k x y h.1 at by

  pub zip_none : (xs : List A) (ys : List B) (k : ℕ) (x : A) → AllZip R xs ys → slice_get xs k ≡ Some x → slice_get ys k ≡ None → ⊥
  zip_none [] ys k x h at none = none-some x at
  zip_none (w ∷ ws) [] k x h at none = h
  zip_none (w ∷ ws) (z ∷ zs) zero x h at none = none-some z (sym none)
  zip_none (w ∷ ws) (z ∷ zs) (suc k) x h at none = zip_none ws zs k x h.1 at none

module _ {A B : Type 0} (f : A → B) where
  pub get_map : (xs : List A) (k : ℕ) (x : A) → slice_get xs k ≡ Some x → slice_get (map f xs) k ≡ Some (f x)
  get_map [] k x at = absurd (none-some x at)
  get_map (y ∷ xs) zero x at = ap (λ z. Some (f z)) (same_Some y x at)
  get_map (y ∷ xs) (suc k) x at = get_map xs k x at

  pub none_map : (xs : List A) (k : ℕ) → slice_get xs k ≡ None → slice_get (map f xs) k ≡ None
  none_map [] k none = refl
  none_map (y ∷ xs) zero none = absurd (none-some y (sym none))
  none_map (y ∷ xs) (suc k) none = none_map xs k none

module _ {A B : Type 0} (R : A → B → Type 0) where
  pub record Paired (xs : List A) (k : ℕ) (y : B) : Type 0 where
    pub one : A
    pub at : slice_get xs k ≡ Some one
    pub holds : R one y

  pub zip_back : (xs : List A) (ys : List B) (k : ℕ) (y : B) → AllZip R xs ys → slice_get ys k ≡ Some y → Paired xs k y
  zip_back [] [] k y h at = absurd (none-some y at)
  zip_back [] (z ∷ zs) k y h at = absurd h
  zip_back (w ∷ ws) [] k y h at = absurd h
  zip_back (w ∷ ws) (z ∷ zs) zero y h at = record { one = w; at = refl; holds = subst (R w) (same_Some z y at) h.0 }
  zip_back (w ∷ ws) (z ∷ zs) (suc k) y h at = let p = zip_back ws zs k y h.1 at in record { one = p.one; at = p.at; holds = p.holds }

-- what stands in a list is found in it
pub any_there : (ks : List ℕ) (n : ℕ) → Contains ks n → list_any (nat_eq n) ks ≡ true
any_there [] n h = absurd (nothing_there n h)
any_there (k ∷ ks) n h = by (nat_eq n k) refl (any_there ks n)
  where
    by : (b : Bool) → nat_eq n k ≡ b → (Contains ks n → list_any (nat_eq n) ks ≡ true) → b || list_any (nat_eq n) ks ≡ true
    by true e rest = refl
    by false e rest = elim (first_or_rest k ks n h) [
      | inl is ↦ absurd (true≢false (sym ((Decides-eqb n k).1 (sym is)) ∙ e))
      | inr later ↦ rest later
    ]

pub plain_layout : (k : FormKind) → IsPlain k → (l : Layout) × (k ≡ layout_form false l)
plain_layout (layout_form true l) h = absurd h
plain_layout (layout_form false l) h = (l, refl)
plain_layout (result_form strict r) h = absurd h
plain_layout empty_response_form h = absurd h
