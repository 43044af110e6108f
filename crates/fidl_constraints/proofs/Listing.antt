-- The constraints of a list, one by one.
use Rattle.std.proofs.Common.{◌≡◌, ◌<◌, ◌≤◌, ◌+◌, ◌==◌, ◌++◌, ℕ, suc, Bool, true, false, List, [], ◌∷◌, Option, Bor, length, get_or, drop, refl, ap, sym, ◌∙◌, append_assoc, add-one, length-drop, arith}
use Rattle.std.proofs.lemmas.List.{map-append}
use Rattle.std.proofs.lemmas.Bool.Decides.{Decides-eqb}
use Rattle.std.proofs.Math.Seq.{drop-cons}
use Rattle.std.proofs.Math.ListN.{get_or-map, length-map}
use Rattle.fidl_tree.specs.Syntax.{Value}
use Rattle.fidl_tree.specs.Views.{value_view}
use Rattle.fidl_tree.specs.declared.file.File.{File}
use Rattle.fidl_tree.specs.declared.value.Value.{Value as Tree}
use Rattle.fidl_named.specs.ReferenceViews.{value_list_view}
use Rattle.fidl_constraints.specs.declared.items.Item.{Item as CodeItem}
use Rattle.fidl_constraints.specs.Items.{Item, is_word, next_rank, is_last, items_from}
use Rattle.fidl_constraints.specs.ItemViews.{item_view, items_view}

-- it is the last one where none are left
none_left : (rest : List Value) (b : Bool) → (b ≡ true → length rest ≡ 0) → (length rest ≡ 0 → b ≡ true) → b ≡ is_last rest
none_left [] b h k = k refl
none_left (v ∷ vs) true h k = absurd (let bad = h refl in omega (arith, bad))
none_left (v ∷ vs) false h k = refl

pub last_is : (vs : List Value) (i count : ℕ) → i < length vs → count ≡ length vs → (i + 1 == count) ≡ is_last (drop (i + 1) vs)
last_is vs i count lt long =
    let rest : length (drop (i + 1) vs) + (i + 1) ≡ length vs = omega (arith, length-drop (i + 1) vs) in
    none_left (drop (i + 1) vs) (i + 1 == count) (λ e. let is : i + 1 ≡ count = (Decides-eqb (i + 1) count).0 e in omega (arith, is, rest, long))
    (λ e. (Decides-eqb (i + 1) count).1 (omega (arith, e, rest, long)))

-- a reference of a list, as plain data
module _ (xs : List (Bor Tree)) (i : ℕ) (x : Bor Tree) (lt : i < length xs) (is : x ≡ get_or xs i x) where
  pub value_within : i < length (value_list_view xs)
  value_within = omega (arith, lt, length-map xs (λ (v : Bor Tree). value_view v.now))

  pub value_is : value_view x.now ≡ get_or (value_list_view xs) i (value_view x.now)
  value_is = ap (λ (v : Bor Tree). value_view v.now) is ∙ sym (get_or-map (λ (v : Bor Tree). value_view v.now) xs i x)

module _ (f : Option File) (number rank : ℕ) (vs : List Value) (i : ℕ) (v : Value) (lt : i < length vs) (is : v ≡ get_or vs i v) where
  -- the next constraint
  abbrev next : Item
  next = record { file = number; value = v; word = is_word f v; rank = rank; last = is_last (drop (i + 1) vs) }

  split : drop i vs ≡ v ∷ drop (i + 1) vs
  split = drop-cons vs i v lt ∙ (ap (λ y. y ∷ drop (suc i) vs) (sym is) ∙ ap (λ n. v ∷ drop n vs) (sym (add-one i)))

  pub listed_more : (old new : List CodeItem) (item : CodeItem) (more : ℕ) (before : List Item) → new ≡ old ++ item ∷ [] → item_view item ≡ next → more ≡ next_rank (is_word f v) rank
      → items_view old ++ items_from f number rank (drop i vs) ≡ before → items_view new ++ items_from f number more (drop (i + 1) vs) ≡ before
  listed_more old new item more before pushed seen up h =
      let rest = items_from f number (next_rank (is_word f v) rank) (drop (i + 1) vs) in
      ap (λ n. items_view new ++ items_from f number n (drop (i + 1) vs)) up
      ∙ (ap (λ l. l ++ rest) (ap items_view pushed ∙ (map-append item_view old (item ∷ []) ∙ ap (λ (x : Item). items_view old ++ x ∷ []) seen))
      ∙ (append_assoc (items_view old) (next ∷ []) rest ∙ (ap (λ l. items_view old ++ items_from f number rank l) (sym split) ∙ h)))

-- constraints of one place, where the word and the last are the same
abbrev place : ℕ → Value → ℕ → Bool → Bool → Item
place number v rank w l = record { file = number; value = v; word = w; rank = rank; last = l }

pub item_is : (number : ℕ) (v : Value) (rank : ℕ) (w z l m : Bool) → w ≡ z → l ≡ m → place number v rank w l ≡ place number v rank z m
item_is number v rank w z l m p q = ap (λ (x : Bool). place number v rank x l) p ∙ ap (λ (x : Bool). place number v rank z x) q

pub rank_low : (word : Bool) (rank i next : ℕ) → next ≡ next_rank word rank → rank ≤ i → next ≤ i + 1
rank_low true rank i next is low = omega (arith, is, low)
rank_low false rank i next is low = omega (arith, is, low)
