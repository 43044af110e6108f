-- What constraints give, part by part.
use Rattle.std.proofs.Common.{◌≡◌, ◌<◌, ◌+◌, ℕ, zero, suc, Bool, true, false, cond, List, [], ◌∷◌, ◌++◌, Some, take, length, get_or, refl, ap, sym, subst, ◌∙◌, true≢false, arith}
use Rattle.std.specs.Prelude.{slice_get}
use Rattle.std.specs.List.{AllZip}
use Rattle.fidl_cycles.proofs.Lists.{take_item}
use Rattle.std.proofs.Math.ListN.{get_or-map, length-map}
use Rattle.std.proofs.lemmas.Option.{same_Some, none-some, slice_get-get_or}
use Rattle.fidl_tree.specs.declared.file.File.{File}
use Rattle.fidl_constraints.specs.declared.parts.PartKind.{PartKind}
use Rattle.fidl_constraints.specs.declared.parts.PartKind.TheVariants.{Optional, Bound, Protocol, Subtype, Rights}
use Rattle.fidl_constraints.specs.declared.parts.Part.{Part}
use Rattle.fidl_constraints.specs.Behind.{Head}
use Rattle.fidl_constraints.specs.declared.items.Item.{Item as CodeItem}
use Rattle.fidl_constraints.specs.Items.{Item}
use Rattle.fidl_constraints.specs.ItemViews.{item_view, items_view}
use Rattle.fidl_constraints.specs.Parts.{same_kind, has_kind, GivenOnce}
use Rattle.fidl_constraints.specs.Gives.{Gives, EachGives}

-- Kinds.

same_symmetric : (a b : PartKind) → same_kind a b ≡ same_kind b a
same_symmetric Optional Optional = refl
same_symmetric Bound Bound = refl
same_symmetric Protocol Protocol = refl
same_symmetric Subtype Subtype = refl
same_symmetric Rights Rights = refl
same_symmetric _ _ = refl

-- One more of a pair of lists, and the one at a place.

module _ {A B : Type 0} (R : A → B → Type 0) where
  pub zip_push : (xs : List A) (ys : List B) (x : A) (y : B) → AllZip R xs ys → R x y → AllZip R (xs ++ x ∷ []) (ys ++ y ∷ [])
  zip_push [] [] x y h r = (r, h)
  zip_push [] (z ∷ zs) x y h r = absurd h
  zip_push (w ∷ ws) [] x y h r = absurd h
  zip_push (w ∷ ws) (z ∷ zs) x y h r = (h.0, zip_push ws zs x y h.1 r)

  pub zip_at : (xs : List A) (ys : List B) (k : ℕ) (x : A) → AllZip R xs ys → slice_get xs k ≡ Some x → (y : B) × R x y
  zip_at [] ys k x h at = absurd (none-some x at)
  zip_at (w ∷ ws) [] k x h at = absurd h
  zip_at (w ∷ ws) (z ∷ zs) zero x h at = (z, subst (λ v. R v z) (same_Some w x at) h.0)
  zip_at (w ∷ ws) (z ∷ zs) (suc k) x h at = zip_at ws zs k x h.1 at

-- Once.

-- the rest of a test that is false, and its first part
pub rest_off : (b rest : Bool) → cond b true rest ≡ false → rest ≡ false
rest_off true rest h = absurd (true≢false h)
rest_off false rest h = h

pub first_off : (b rest : Bool) → cond b true rest ≡ false → b ≡ false
first_off true rest h = absurd (true≢false h)
first_off false rest h = refl

both_off : (b rest : Bool) → b ≡ false → rest ≡ false → cond b true rest ≡ false
both_off true rest h k = absurd (true≢false h)
both_off false rest h k = k

-- no part is of a kind, nor is one more
none_more : (kind : PartKind) (ps : List Part) (p : Part) → has_kind kind ps ≡ false → same_kind p.kind kind ≡ false → has_kind kind (ps ++ p ∷ []) ≡ false
none_more kind [] p h k = both_off (same_kind p.kind kind) false k refl
none_more kind (q ∷ qs) p h k =
    both_off (same_kind q.kind kind) (has_kind kind (qs ++ p ∷ [])) (first_off (same_kind q.kind kind) (has_kind kind qs) h) (none_more kind qs p (rest_off (same_kind q.kind kind) (has_kind kind qs) h) k)

pub once_more : (ps : List Part) (p : Part) → GivenOnce ps → has_kind p.kind ps ≡ false → GivenOnce (ps ++ p ∷ [])
once_more [] p h k = (refl, tt)
once_more (q ∷ qs) p h k =
    let differ : same_kind p.kind q.kind ≡ false = same_symmetric p.kind q.kind ∙ first_off (same_kind q.kind p.kind) (has_kind p.kind qs) k in
    (none_more q.kind qs p h.0 differ, once_more qs p h.1 (rest_off (same_kind q.kind p.kind) (has_kind p.kind qs) k))

module _ (files : List File) (head : Head) where
  pub same_kinds : (x : Item) (p q : Part) → Gives files head x p → Gives files head x q → p.kind ≡ q.kind
  same_kinds x p q h k = same_Some p.kind q.kind (sym h.kind ∙ k.kind)

  -- no part of a kind, so none at a place is
  off_at : (kind : PartKind) (xs : List Item) (k : ℕ) (x : Item) (p : Part) (qs : List Part) → EachGives files head xs qs → slice_get xs k ≡ Some x → Gives files head x p → has_kind kind qs ≡ false
      → same_kind p.kind kind ≡ false
  off_at kind [] k x p qs h at g off = absurd (none-some x at)
  off_at kind (y ∷ ys) k x p [] h at g off = absurd h
  off_at kind (y ∷ ys) zero x p (q ∷ qs) h at g off =
      let given : Gives files head x q = subst (λ v. Gives files head v q) (same_Some y x at) h.0 in
      ap (λ n. same_kind n kind) (same_kinds x p q g given) ∙ first_off (same_kind q.kind kind) (has_kind kind qs) off
  off_at kind (y ∷ ys) (suc k) x p (q ∷ qs) h at g off = off_at kind ys k x p qs h.1 at g (rest_off (same_kind q.kind kind) (has_kind kind qs) off)

  -- where all is given once, what a constraint gives none before it gives
  pub given_once : (xs : List Item) (i : ℕ) (x : Item) (ps : List Part) (p : Part) (qs : List Part) → EachGives files head (take i xs) ps → slice_get xs i ≡ Some x → Gives files head x p
      → EachGives files head xs qs → GivenOnce qs → has_kind p.kind ps ≡ false
  given_once [] i x ps p qs h at g all once = absurd (none-some x at)
  given_once (y ∷ ys) zero x [] p qs h at g all once = refl
  given_once (y ∷ ys) zero x (r ∷ rs) p qs h at g all once = absurd h
  given_once (y ∷ ys) (suc i) x [] p qs h at g all once = absurd h
  given_once (y ∷ ys) (suc i) x (r ∷ rs) p [] h at g all once = absurd all
  given_once (y ∷ ys) (suc i) x (r ∷ rs) p (q ∷ qs) h at g all once =
      let kinds : r.kind ≡ q.kind = same_kinds y r q h.0 all.0 in
      let off : same_kind p.kind q.kind ≡ false = off_at q.kind ys i x p qs all.1 at g once.0 in
      let differ : same_kind r.kind p.kind ≡ false = ap (λ n. same_kind n p.kind) kinds ∙ (same_symmetric q.kind p.kind ∙ off) in
      both_off (same_kind r.kind p.kind) (has_kind p.kind rs) differ (given_once ys i x rs p qs h.1 at g all.1 once.1)

-- The constraint that a loop has come to.
module _ (files : List File) (head : Head) (items : List CodeItem) (i : ℕ) (item : CodeItem) (lt : i < length items) (is : item ≡ get_or items i item) where
  seen_is : item_view item ≡ get_or (items_view items) i (item_view item)
  seen_is = ap item_view is ∙ sym (get_or-map item_view items i item)

  seen_within : i < length (items_view items)
  seen_within = omega (arith, lt, length-map items item_view)

  pub item_there : slice_get (items_view items) i ≡ Some (item_view item)
  item_there = slice_get-get_or (items_view items) i (item_view item) seen_within ∙ ap Some (sym seen_is)

  pub each_more : (ps : List Part) (p : Part) → EachGives files head (take i (items_view items)) ps → Gives files head (item_view item) p → EachGives files head (take (i + 1) (items_view items)) (ps ++ p ∷ [])
  each_more ps p h g =
      subst (λ xs. EachGives files head xs (ps ++ p ∷ [])) (sym (take_item (items_view items) i (item_view item) seen_within seen_is)) (zip_push (Gives files head) (take i (items_view items)) ps (item_view item) p h g)
