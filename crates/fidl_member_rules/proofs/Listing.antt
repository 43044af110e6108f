-- Lists that are paired, one more and the one at a place.
use Rattle.std.proofs.Common.{◌≡◌, ◌<◌, ◌+◌, ℕ, zero, suc, List, [], ◌∷◌, ◌++◌, Some, take, length, map, get_or, refl, ap, sym, subst, ◌∙◌, arith}
use Rattle.std.specs.Prelude.{slice_get}
use Rattle.std.specs.List.{AllZip, Contains, AllPairs}
use Rattle.std.proofs.Math.ListN.{get_or-map, length-map}
use Rattle.std.proofs.lemmas.List.{get_or_default}
use Rattle.std.proofs.lemmas.List.Quantifiers.{all_pairs_push}
use Rattle.std.proofs.lemmas.Option.{same_Some, none-some, slice_get-get_or}
use Rattle.fidl_cycles.proofs.Lists.{take_item}

module _ {A B : Type 0} (R : A → B → Type 0) where
  zip_push : (xs : List A) (ys : List B) (x : A) (y : B) → AllZip R xs ys → R x y → AllZip R (xs ++ x ∷ []) (ys ++ y ∷ [])
  zip_push [] [] x y h r = (r, h)
  zip_push [] (z ∷ zs) x y h r = absurd h
  zip_push (w ∷ ws) [] x y h r = absurd h
  zip_push (w ∷ ws) (z ∷ zs) x y h r = (h.0, zip_push ws zs x y h.1 r)

  zip_at : (xs : List A) (ys : List B) (k : ℕ) (x : A) → AllZip R xs ys → slice_get xs k ≡ Some x → (y : B) × R x y
  zip_at [] ys k x h at = absurd (none-some x at)
  zip_at (w ∷ ws) [] k x h at = absurd h
  zip_at (w ∷ ws) (z ∷ zs) zero x h at = (z, subst (λ v. R v z) (same_Some w x at) h.0)
  zip_at (w ∷ ws) (z ∷ zs) (suc k) x h at = zip_at ws zs k x h.1 at

  pub zip_length : (xs : List A) (ys : List B) → AllZip R xs ys → length xs ≡ length ys
  zip_length [] [] h = refl
  zip_length [] (z ∷ zs) h = absurd h
  zip_length (w ∷ ws) [] h = absurd h
  zip_length (w ∷ ws) (z ∷ zs) h = ap suc (zip_length ws zs h.1)

-- What holds of two elements that are paired with the same one.
module _ {A B : Type 0} (R : A → B → Type 0) (one : (x : A) (y z : B) → R x y → R x z → y ≡ z) where
  pub zip_one : (xs : List A) (ys zs : List B) → AllZip R xs ys → AllZip R xs zs → ys ≡ zs
  zip_one [] [] [] h k = refl
  zip_one [] [] (z ∷ zs) h k = absurd k
  zip_one [] (y ∷ ys) zs h k = absurd h
  zip_one (x ∷ xs) [] zs h k = absurd h
  zip_one (x ∷ xs) (y ∷ ys) [] h k = absurd k
  zip_one (x ∷ xs) (y ∷ ys) (z ∷ zs) h k = subst (λ w. y ∷ ys ≡ w ∷ zs) (one x y z h.0 k.0) (ap (λ l. y ∷ l) (zip_one xs ys zs h.1 k.1))

module _ {W A : Type 0} (g : W → A) (ws : List W) (i : ℕ) (w : W) (lt : i < length ws) (is : w ≡ get_or ws i w) where
  seen_within : i < length (map g ws)
  seen_within = omega (arith, lt, length-map ws g)

  seen_is : g w ≡ get_or (map g ws) i (g w)
  seen_is = ap g is ∙ sym (get_or-map g ws i w)

  pub seen_at : slice_get (map g ws) i ≡ Some (g w)
  seen_at = slice_get-get_or (map g ws) i (g w) seen_within ∙ ap Some (sym seen_is)

module _ {W A B : Type 0} (R : A → B → Type 0) (g : W → A) (ws : List W) (i : ℕ) (w : W) (lt : i < length ws) (is : w ≡ get_or ws i w) where
  pub one_more : (ys : List B) (y : B) → AllZip R (take i (map g ws)) ys → R (g w) y → AllZip R (take (i + 1) (map g ws)) (ys ++ y ∷ [])
  one_more ys y h r = subst (λ l. AllZip R l (ys ++ y ∷ [])) (sym (take_item (map g ws) i (g w) (seen_within g ws i w lt is) (seen_is g ws i w lt is))) (zip_push R (take i (map g ws)) ys (g w) y h r)

  pub one_there : (ys : List B) → AllZip R (map g ws) ys → (y : B) × R (g w) y
  one_there ys h = zip_at R (map g ws) ys i (g w) h (seen_at g ws i w lt is)

-- Numbers that differ, one more.
module _ {X : Type 0} (numbers keys : List X) (i : ℕ) (n : X) (lt : i < length numbers) (is : n ≡ get_or numbers i n) (so_far : keys ≡ take i numbers) where
  pub keys_more : (new : List X) → new ≡ keys ++ n ∷ [] → new ≡ take (i + 1) numbers
  keys_more new more = more ∙ ap (λ l. l ++ n ∷ []) so_far ∙ sym (take_item numbers i n lt is)

  differs : (ys : List X) → (Contains ys n → ⊥) → (k : ℕ) (d : X) → k < length ys → get_or ys k d ≡ n → ⊥
  differs ys fresh k d within e = fresh (k, within, get_or_default ys k n d within ∙ e)

  pub differ_more : (Contains keys n → ⊥) → AllPairs (λ y z. y ≡ z → ⊥) (take i numbers) → AllPairs (λ y z. y ≡ z → ⊥) (take (i + 1) numbers)
  differ_more fresh h = subst (AllPairs (λ y z. y ≡ z → ⊥)) (sym (take_item numbers i n lt is)) (all_pairs_push (λ y z. y ≡ z → ⊥) (take i numbers) n h (differs (take i numbers) (λ k. fresh (subst (λ l. Contains l n) (sym so_far) k))))
