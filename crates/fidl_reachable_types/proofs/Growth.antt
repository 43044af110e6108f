-- Lists of types that grow.
use Rattle.std.proofs.Common.{◌≡◌, ◌∙◌, ◌<◌, ◌+◌, ℕ, List, [], ◌∷◌, ◌++◌, take, drop, get_or, length, map, refl, ap, sym, subst, inl, inr, arith}
use Rattle.std.specs.List.{Contains}
use Rattle.std.proofs.Math.ListN.{get_or-map, length-map}
use Rattle.std.proofs.lemmas.List.{append-nil, map-append, take_more, take-append-drop, get_or_default}
use Rattle.std.proofs.lemmas.List.Elements.{Contains-append_left, Contains-append_right, Contains-append_cases}
use Rattle.fidl_wire.specs.Term.{Term}
use Rattle.fidl_reachable_types.specs.declared.fault.EntryFault.{EntryFault}
use Rattle.fidl_reachable_types.specs.declared.fault.EntryFault.TheVariants.{TooMany, Memory}
use Rattle.fidl_reachable_types.specs.declared.list.TypeList.{TypeList}
use Rattle.fidl_reachable_types.specs.Reached.{IsJoined, with_none, with_known, with_new}
use Rattle.fidl_reachable_types.specs.Growing.{types_of, IsKept, Adds, GrowsBy, IsFull, IsFullBy}
use Rattle.fidl_reachable_types.proofs.Members.{here, there, nothing_there, first_or_rest, distinct_push}

-- nothing is added
pub adds_nothing : (ts parts : List Term) → Adds ts ts parts
adds_nothing ts parts = record { added = []; is = sym (append-nil ts); only = λ t h. absurd (nothing_there t h); distinct = λ d. d }

-- a type that isn't there yet
pub adds_one : (ts : List Term) (t : Term) → (Contains ts t → ⊥) → Adds ts (ts ++ t ∷ []) (t ∷ [])
adds_one ts t fresh = record { added = t ∷ []; is = refl; only = λ u h. h; distinct = λ d. distinct_push ts t d fresh }

-- what is added of some parts is added of more
adds_among : (old new ps qs : List Term) → ((t : Term) → Contains ps t → Contains qs t) → Adds old new ps → Adds old new qs
adds_among old new ps qs sub a = record { added = a.added; is = a.is; only = λ t h. sub t (a.only t h); distinct = a.distinct }

-- more is added after
pub adds_then : (old mid new ps : List Term) → Adds old mid ps → Adds mid new ps → Adds old new ps
adds_then old mid new ps a b = record {
  added = a.added ++ b.added;
  is = b.is ∙ ap (λ l. l ++ b.added) a.is ∙ assoc old a.added b.added;
  only = λ t h. elim (Contains-append_cases a.added b.added t h) [ inl l ↦ a.only t l | inr r ↦ b.only t r ];
  distinct = λ d. b.distinct (a.distinct d);
}
  where
    assoc : (xs ys zs : List Term) → (xs ++ ys) ++ zs ≡ xs ++ (ys ++ zs)
    assoc [] ys zs = refl
    assoc (x ∷ xs) ys zs = ap (λ l. x ∷ l) (assoc xs ys zs)

-- what was there stays
pub stays : (old new ps : List Term) → Adds old new ps → (t : Term) → Contains old t → Contains new t
stays old new ps a t h = subst (λ l. Contains l t) (sym a.is) (Contains-append_left old a.added t h)

-- What is joined.

pub joined_new : (ts : List Term) (t : Term) → (Contains ts t → ⊥) → IsJoined ts (t ∷ []) (ts ++ t ∷ [])
joined_new ts t fresh = with_new ts [] (ts ++ t ∷ []) t fresh (with_none (ts ++ t ∷ []))

pub joined_known : (ts : List Term) (t : Term) → Contains ts t → IsJoined ts (t ∷ []) ts
joined_known ts t h = with_known ts [] ts t h (with_none ts)

pub joined_then : (old ps mid qs new : List Term) → IsJoined old ps mid → IsJoined mid qs new → IsJoined old (ps ++ qs) new
joined_then _ _ _ qs new (with_none old) k = k
joined_then _ _ _ qs new (with_known old parts mid t h j) k = with_known old (parts ++ qs) new t h (joined_then old parts mid qs new j k)
joined_then _ _ _ qs new (with_new old parts mid t h j) k = with_new old (parts ++ qs) new t h (joined_then (old ++ t ∷ []) parts mid qs new j k)

-- what is joined is added
pub joined_adds : (old ps new : List Term) → IsJoined old ps new → Adds old new ps
joined_adds _ _ _ (with_none old) = adds_nothing old []
joined_adds _ _ _ (with_known old parts new t h j) = adds_among old new parts (t ∷ parts) (there t parts) (joined_adds old parts new j)
joined_adds _ _ _ (with_new old parts new t h j) =
    adds_then old (old ++ t ∷ []) new (t ∷ parts) (adds_among old (old ++ t ∷ []) (t ∷ []) (t ∷ parts) (first_of t parts) (adds_one old t h)) (adds_among (old ++ t ∷ []) new parts (t ∷ parts) (there t parts) (joined_adds (old ++ t ∷ []) parts new j))
  where
    first_of : (t : Term) (ps : List Term) (u : Term) → Contains (t ∷ []) u → Contains (t ∷ ps) u
    first_of t ps u h = Contains-append_left (t ∷ []) ps u h

-- and it has all that it was joined to
pub joined_has : (old ps new : List Term) → IsJoined old ps new → (t : Term) → Contains ps t → Contains new t
joined_has _ _ _ (with_none old) u among = absurd (nothing_there u among)
joined_has _ _ _ (with_known old parts new t h j) u among = elim (first_or_rest t parts u among) [
  | inl e ↦ subst (Contains new) e (stays old new parts (joined_adds old parts new j) t h)
  | inr rest ↦ joined_has old parts new j u rest
]
joined_has _ _ _ (with_new old parts new t h j) u among = elim (first_or_rest t parts u among) [
  | inl e ↦ subst (Contains new) e (stays (old ++ t ∷ []) new parts (joined_adds (old ++ t ∷ []) parts new j) t (Contains-append_right old (t ∷ []) t (here t [])))
  | inr rest ↦ joined_has (old ++ t ∷ []) parts new j u rest
]

-- A list that grows, and grows again.

pub begins : (list : TypeList) → IsKept list → GrowsBy list list []
begins list kept = record { kept = kept; limit = refl; joined = with_none (types_of list) }

pub grows_then : (old mid new : TypeList) (ps qs : List Term) → GrowsBy old mid ps → GrowsBy mid new qs → GrowsBy old new (ps ++ qs)
grows_then old mid new ps qs a b = record {
  kept = b.kept;
  limit = b.limit ∙ a.limit;
  joined = joined_then (types_of old) ps (types_of mid) qs (types_of new) a.joined b.joined;
}

pub full_then : (old mid : TypeList) (ps qs all : List Term) → ((t : Term) → Contains ps t → Contains all t) → ((t : Term) → Contains qs t → Contains all t) → GrowsBy old mid ps → IsFull mid qs → IsFull old all
full_then old mid ps qs all of_ps of_qs a b = record {
  more = b.more;
  adds = adds_then (types_of old) (types_of mid) b.more all (adds_among (types_of old) (types_of mid) ps all of_ps (joined_adds (types_of old) ps (types_of mid) a.joined)) (adds_among (types_of mid) b.more qs all of_qs b.adds);
  many = subst (λ n. n < length b.more) a.limit b.many;
}

-- A list that takes items one after another.
module _ {W : Type 0} (g : W → Term) (items : List W) (i : ℕ) (w : W) (lt : i < length items) (is : w ≡ get_or items i w) where
  taken : map g (take (i + 1) items) ≡ map g (take i items) ++ g w ∷ []
  taken = ap (map g) (take_more items i w lt ∙ ap (λ x. take i items ++ x ∷ []) (sym is)) ∙ map-append g (take i items) (w ∷ [])

  one : (t : Term) → Contains (g w ∷ []) t → Contains (map g items) t
  one t h = elim (first_or_rest (g w) [] t h) [
    | inl e ↦ let n = length-map items g in let within : i < length (map g items) = omega (arith, lt, n) in (i, within, get_or_default (map g items) i t (g w) within ∙ get_or-map g items i w ∙ ap g (sym is) ∙ e)
    | inr none ↦ absurd (nothing_there t none)
  ]

  some : (t : Term) → Contains (map g (take i items)) t → Contains (map g items) t
  some t h = subst (λ l. Contains l t) (sym (sym (ap (map g) (take-append-drop i items)) ∙ map-append g (take i items) (drop i items))) (Contains-append_left (map g (take i items)) (map g (drop i items)) t h)

  pub one_more : (old mid new : TypeList) → GrowsBy old mid (map g (take i items)) → GrowsBy mid new (g w ∷ []) → GrowsBy old new (map g (take (i + 1) items))
  one_more old mid new a b = subst (GrowsBy old new) (sym taken) (grows_then old mid new (map g (take i items)) (g w ∷ []) a b)

  pub one_past : (old mid : TypeList) (fault : EntryFault) → GrowsBy old mid (map g (take i items)) → IsFullBy mid (g w ∷ []) fault → IsFullBy old (map g items) fault
  one_past old mid TooMany a b = full_then old mid (map g (take i items)) (g w ∷ []) (map g items) some one a b
  one_past old mid Memory a b = tt
