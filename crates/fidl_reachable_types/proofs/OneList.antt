-- Roots reach one list.
use Rattle.std.proofs.Common.{◌≡◌, ◌∙◌, ◌≤◌, ◌+◌, ℕ, zero, suc, List, [], ◌∷◌, ◌++◌, length, map, take, drop, refl, ap, sym, subst, inl, inr, arith}
use Rattle.std.specs.Prelude.{flat_map}
use Rattle.std.specs.List.{Contains}
use Rattle.std.proofs.lemmas.List.{append_assoc, take_all, take-append-drop, take-append-le}
use Rattle.std.proofs.lemmas.List.Elements.{Contains-append_left}
use Rattle.std.proofs.lemmas.Grind.{flat_map-append}
use Rattle.std.proofs.lemmas.Bool.{cases_lt}
use Rattle.fidl_wire.specs.Term.{Term}
use Rattle.fidl_wire.specs.Term as ty
use Rattle.fidl_reachable_types.specs.Reached.{held, IsReached, IsJoined, with_none, with_known, with_new, parts_of, AreReached}
use Rattle.fidl_reachable_types.proofs.Members.{at_most}
use Rattle.fidl_reachable_types.proofs.Growth.{joined_adds, joined_has}
use Rattle.fidl_reachable_types.proofs.Reaching.{closed}

-- What is joined to given parts is one list.
one_from : (old ps a qs b : List Term) → ps ≡ qs → IsJoined old ps a → IsJoined old qs b → a ≡ b
one_from _ _ _ _ _ e (with_none old) (with_none _) = refl
one_from _ _ _ _ _ e (with_none old) (with_known _ qs b u k l) = absurd (cc)
one_from _ _ _ _ _ e (with_none old) (with_new _ qs b u k l) = absurd (cc)
one_from _ _ _ _ _ e (with_known old ps a t h j) (with_none _) = absurd (cc)
one_from _ _ _ _ _ e (with_new old ps a t h j) (with_none _) = absurd (cc)
one_from _ _ _ _ _ e (with_known old ps a t h j) (with_known _ qs b u k l) = let rest : ps ≡ qs = cc in one_from old ps a qs b rest j l
one_from _ _ _ _ _ e (with_known old ps a t h j) (with_new _ qs b u k l) = let same : t ≡ u = cc in absurd (k (subst (Contains old) same h))
one_from _ _ _ _ _ e (with_new old ps a t h j) (with_known _ qs b u k l) = let same : t ≡ u = cc in absurd (h (subst (Contains old) (sym same) k))
one_from _ _ _ _ _ e (with_new old ps a t h j) (with_new _ qs b u k l) =
    let same : t ≡ u = cc in
    let rest : ps ≡ qs = cc in
    one_from (old ++ t ∷ []) ps a qs b rest j (subst (λ (v : Term). IsJoined (old ++ v ∷ []) qs b) (sym same) l)

pub one_joined : (old ps a b : List Term) → IsJoined old ps a → IsJoined old ps b → a ≡ b
one_joined old ps a b j k = one_from old ps a ps b refl j k

-- What is joined to some parts and to more is joined to the first alone, on the way.
record Between (old ps qs new : List Term) : Type 0 where
  mid : List Term
  first : IsJoined old ps mid
  then : IsJoined mid qs new

first_of : (old : List Term) (p : Term) (ps qs parts new : List Term) → parts ≡ p ∷ (ps ++ qs) → ((start : List Term) → IsJoined start (ps ++ qs) new → Between start ps qs new) → IsJoined old parts new → Between old (p ∷ ps) qs new
first_of _ p ps qs _ _ e rest (with_none old) = absurd (cc)
first_of _ p ps qs _ _ e rest (with_known old parts new t h j) =
    let same : t ≡ p = cc in
    let others : parts ≡ ps ++ qs = cc in
    let b = rest old (subst (λ (l : List Term). IsJoined old l new) others j) in
    record { mid = b.mid; first = with_known old ps b.mid p (subst (Contains old) same h) b.first; then = b.then }
first_of _ p ps qs _ _ e rest (with_new old parts new t h j) =
    let same : t ≡ p = cc in
    let others : parts ≡ ps ++ qs = cc in
    let b = rest (old ++ p ∷ []) (subst (λ (v : Term). IsJoined (old ++ v ∷ []) (ps ++ qs) new) same (subst (λ (l : List Term). IsJoined (old ++ t ∷ []) l new) others j)) in
    record { mid = b.mid; first = with_new old ps b.mid p (subst (λ (v : Term). Contains old v → ⊥) same h) b.first; then = b.then }

between : (old ps qs new : List Term) → IsJoined old (ps ++ qs) new → Between old ps qs new
between old [] qs new j = record { mid = old; first = with_none old; then = j }
between old (p ∷ ps) qs new j = first_of old p ps qs (p ∷ (ps ++ qs)) new refl (λ start k. between start ps qs new k) j

module _ (terms : List Term) (roots : List ℕ) where
  -- the parts of a list are those of its first types, and more
  parts_further : (n : ℕ) (types : List Term) → parts_of terms roots types ≡ parts_of terms roots (take n types) ++ flat_map (held terms) (drop n types)
  parts_further n types =
      ap (parts_of terms roots) (sym (take-append-drop n types))
      ∙ ap (λ (l : List Term). map ty.named roots ++ l) (flat_map-append (held terms) (take n types) (drop n types))
      ∙ sym (append_assoc (map ty.named roots) (flat_map (held terms) (take n types)) (flat_map (held terms) (drop n types)))

  -- the list of the parts of the first types, with which the whole list begins
  record Begins (n : ℕ) (types : List Term) : Type 0 where
    mid : List Term
    more : List Term
    joined : IsJoined [] (parts_of terms roots (take n types)) mid
    is : types ≡ mid ++ more

  begins : (n : ℕ) (types : List Term) → AreReached terms roots types → Begins n types
  begins n types r =
      let b = between [] (parts_of terms roots (take n types)) (flat_map (held terms) (drop n types)) types (subst (λ (l : List Term). IsJoined [] l types) (parts_further n types) r.order) in
      let a = joined_adds b.mid (flat_map (held terms) (drop n types)) types b.then in
      record { mid = b.mid; more = a.added; joined = b.first; is = a.is }

  -- a list whose first types have their own parts has no further types
  no_more : (n : ℕ) (types : List Term) → AreReached terms roots types → ((t : Term) → IsReached terms roots t → Contains (take n types) t) → length types ≤ n
  no_more n types r all =
      let fewer = at_most types (take n types) r.distinct (λ t h. all t (r.sound t h)) in
      let long = length_take n types in
      omega (arith, fewer, long)
    where
      length_take : (n : ℕ) (xs : List Term) → length (take n xs) ≤ n
      length_take zero xs = omega arith
      length_take (suc n) [] = omega arith
      length_take (suc n) (x ∷ xs) = let rest = length_take n xs in omega (arith, rest)

  mid_within : (n : ℕ) (types mid more : List Term) → types ≡ mid ++ more → length mid ≤ n → (t : Term) → Contains mid t → Contains (take n types) t
  mid_within n types mid more is short t h = subst (λ (l : List Term). Contains l t) (sym (ap (take n) is ∙ taken n mid more short)) (Contains-append_left mid (rest_of n mid more) t h)
    where
      rest_of : (n : ℕ) (xs ys : List Term) → List Term
      rest_of n [] ys = take n ys
      rest_of zero (x ∷ xs) ys = []
      rest_of (suc n) (x ∷ xs) ys = rest_of n xs ys

      taken : (n : ℕ) (xs ys : List Term) → length xs ≤ n → take n (xs ++ ys) ≡ xs ++ rest_of n xs ys
      taken n [] ys le = refl
      taken zero (x ∷ xs) ys le = absurd (omega (arith, le))
      taken (suc n) (x ∷ xs) ys le = ap (λ (l : List Term). x ∷ l) (taken n xs ys (omega (arith, le)))

  all_first : (n : ℕ) (types : List Term) (b : Begins n types) → length b.mid ≤ n → (t : Term) → IsReached terms roots t → Contains (take n types) t
  all_first n types b short =
      closed terms roots (take n types) (λ u h. mid_within n types b.mid b.more b.is short u (joined_has [] (parts_of terms roots (take n types)) b.mid b.joined u h))

  module _ (one other : List Term) (r : AreReached terms roots one) (s : AreReached terms roots other) where
    further : (n : ℕ) → take n one ≡ take n other → take (n + 1) one ≡ take (n + 1) other
    further n same = elim (cases_lt n (length its.mid)) [
      | inl lt ↦ ap (take (n + 1)) its.is ∙ take-append-le (n + 1) its.mid its.more (omega (arith, lt)) ∙ ap (take (n + 1)) mids ∙ sym (take-append-le (n + 1) also.mid also.more (omega (arith, lt, long))) ∙ sym (ap (take (n + 1)) also.is)
      | inr short ↦
          let all = all_first n one its short in
          let ended = no_more n one r all in
          let also_ended = no_more n other s (λ t h. subst (λ (l : List Term). Contains l t) same (all t h)) in
          take_all (n + 1) one (omega (arith, ended)) ∙ sym (take_all n one ended) ∙ same ∙ take_all n other also_ended ∙ sym (take_all (n + 1) other (omega (arith, also_ended)))
    ]
      where
        its : Begins n one
        its = begins n one r

        also : Begins n other
        also = begins n other s

        mids : its.mid ≡ also.mid
        mids = one_joined [] (parts_of terms roots (take n other)) its.mid also.mid (subst (λ (l : List Term). IsJoined [] (parts_of terms roots l) its.mid) same its.joined) also.joined

        long : length its.mid ≡ length also.mid
        long = ap length mids

    same_first : (n : ℕ) → take n one ≡ take n other
    same_first zero = refl
    same_first (suc n) = let next : n + 1 ≡ suc n = omega arith in subst (λ (k : ℕ). take k one ≡ take k other) next (further n (same_first n))

    pub one_list : one ≡ other
    one_list =
        let n : ℕ = length one + length other in
        sym (take_all n one (omega arith)) ∙ same_first n ∙ take_all n other (omega arith)
