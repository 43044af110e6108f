-- Points that are reached, one more at a time.
use Rattle.std.proofs.Common.{◌≡◌, ◌<◌, ◌≤◌, ◌+◌, ◌⊎◌, ℕ, Bool, true, false, List, [], ◌∷◌, ◌++◌, Some, None, length, get_or, inl, inr, refl, ap, sym, subst, ◌∙◌, nat_eq, arith}
use Rattle.std.specs.Prelude.{slice_get}
use Rattle.std.specs.Bool.{if◌then◌else◌}
use Rattle.std.specs.Global.{Vec}
use Rattle.std.specs.List.{Contains, IsDistinct, list_any}
use Rattle.std.proofs.lemmas.Bool.{cases_lt, eqb-true}
use Rattle.std.proofs.lemmas.Bool.Decides.{Decides-eqb}
use Rattle.std.proofs.lemmas.List.{append-nil}
use Rattle.std.proofs.lemmas.List.Elements.{Contains-push, Contains-append_left, Contains-append_right, Contains-append_cases}
use Rattle.std.proofs.lemmas.Map.Made.{AllPairs-from_IsDistinct, IsDistinct-from_AllPairs}
use Rattle.std.proofs.lemmas.Map.Steps.{length-le_from_distinct_below}
use Rattle.std.proofs.lemmas.Map.Views.{Contains-from_any}
use Rattle.std.proofs.lemmas.Option.{slice_get-get_or, slice_get_within, same_Some, none-some}
use Rattle.fidl_cycles.specs.Cycles.{Leads, step, further, IsEdge, EdgesWithin, points_of}
use Rattle.fidl_composition.specs.Points.{ReachesIn, AreDistinct, GrowsBy, IsReaching, AreReached}
use Rattle.fidl_composition.proofs.Lists.{here, nothing_there, just_one, among, found_at, front_at}

-- the numbers of a set differ
are_distinct : (points : List ℕ) → IsDistinct nat_eq points → AreDistinct points
are_distinct points d = AllPairs-from_IsDistinct Decides-eqb points d

-- a point that is inserted
pub inserts : (old new : List ℕ) (point : ℕ) → new ≡ (if list_any (nat_eq point) old then old else (old ++ point ∷ [])) → IsDistinct nat_eq new → GrowsBy old new (point ∷ [])
inserts old new point is distinct = tested (list_any (nat_eq point) old) refl
  where
    known : list_any (nat_eq point) old ≡ true → Contains old point
    known h = Contains-from_any eqb-true point old h

    tested : (b : Bool) → list_any (nat_eq point) old ≡ b → GrowsBy old new (point ∷ [])
    tested true h =
        let same : new ≡ old = is ∙ ap (λ b. if b then old else (old ++ point ∷ [])) h in
        record {
          added = [];
          is = same ∙ sym (append-nil old);
          only = λ t c. absurd (nothing_there t c);
          has = λ t c. subst (λ l. Contains l t) (sym same) (subst (Contains old) (just_one point t c) (known h));
          once = λ _. are_distinct new distinct;
        }
    tested false h =
        let more : new ≡ old ++ point ∷ [] = is ∙ ap (λ b. if b then old else (old ++ point ∷ [])) h in
        record {
          added = point ∷ [];
          is = more;
          only = λ t c. c;
          has = λ t c. subst (λ l. Contains l t) (sym more) (subst (Contains (old ++ point ∷ [])) (just_one point t c) (Contains-push old point));
          once = λ _. are_distinct new distinct;
        }

pub grows_none : (points : List ℕ) → GrowsBy points points []
grows_none points = record { added = []; is = sym (append-nil points); only = λ t c. c; has = λ t c. absurd (nothing_there t c); once = λ d. d }

pub stays : (old new : List ℕ) (ts : List ℕ) → GrowsBy old new ts → (t : ℕ) → Contains old t → Contains new t
stays old new ts g t c = subst (λ l. Contains l t) (sym g.is) (Contains-append_left old g.added t c)

pub grows_then : (old mid new : List ℕ) (ts : List ℕ) (point : ℕ) → GrowsBy old mid ts → GrowsBy mid new (point ∷ []) → GrowsBy old new (ts ++ point ∷ [])
grows_then old mid new ts point a b = record {
  added = a.added ++ b.added;
  is = b.is ∙ ap (λ l. l ++ b.added) a.is ∙ assoc old a.added b.added;
  only = λ t c. elim (Contains-append_cases a.added b.added t c) [ inl l ↦ Contains-append_left ts (point ∷ []) t (a.only t l) | inr r ↦ Contains-append_right ts (point ∷ []) t (b.only t r) ];
  has = λ t c. elim (Contains-append_cases ts (point ∷ []) t c) [ inl l ↦ stays mid new (point ∷ []) b t (a.has t l) | inr r ↦ b.has t r ];
  once = λ d. b.once (a.once d);
}
  where
    assoc : (xs ys zs : List ℕ) → (xs ++ ys) ++ zs ≡ xs ++ (ys ++ zs)
    assoc [] ys zs = refl
    assoc (x ∷ xs) ys zs = ap (λ l. x ∷ l) (assoc xs ys zs)

lt_or_eq : (k n : ℕ) → k ≤ n → (k < n) ⊎ (k ≡ n)
lt_or_eq k n le = elim (cases_lt k n) [ inl lt ↦ inl lt | inr ge ↦ inr (omega (arith, le, ge)) ]

-- On the way to all that a point reaches.
module _ (graph : List (List ℕ)) (root : ℕ) where
  pub begins : (new : List ℕ) → GrowsBy [] new (root ∷ []) → IsReaching graph root 0 new
  begins new g = record {
    sound = λ t c. sound t (subst (λ l. Contains l t) all c);
    first = subst (λ l. slice_get l 0 ≡ Some root) (sym all) (first g.added (subst (λ l. Contains l root) all (g.has root (here root []))) g.only);
    led = λ k t u lt at e. absurd (omega (arith, lt));
  }
    where
      all : new ≡ g.added
      all = g.is

      sound : (t : ℕ) → Contains g.added t → ReachesIn graph root t
      sound t c = inl (just_one root t (g.only t c))

      first : (added : List ℕ) → Contains added root → ((t : ℕ) → Contains added t → Contains (root ∷ []) t) → slice_get added 0 ≡ Some root
      first [] has only = absurd (nothing_there root has)
      first (x ∷ xs) has only = ap Some (sym (just_one root x (only x (here x xs))))

  then_edge : (a b t : ℕ) → ReachesIn graph a b → IsEdge graph b t → ReachesIn graph a t
  then_edge a b t (inl is) e = inr (step a t (subst (λ x. IsEdge graph x t) (sym is) e))
  then_edge a b t (inr l) e = inr (on a b l e)
    where
      on : (x y : ℕ) → Leads (IsEdge graph) x y → IsEdge graph y t → Leads (IsEdge graph) x t
      on x y (step c d h) k = further c d t h (step d t k)
      on x y (further c d z h l) k = further c d t h (on d z l k)

  module _ (old new : List ℕ) (place point : ℕ) (targets : List ℕ) (at : slice_get old place ≡ Some point) (edges : (t : ℕ) → (IsEdge graph point t → Contains targets t) × (Contains targets t → IsEdge graph point t)) (r : IsReaching graph root place old) (g : GrowsBy old new targets) where
    sound_more : (t : ℕ) → Contains new t → ReachesIn graph root t
    sound_more t c = elim (Contains-append_cases old g.added t (subst (λ l. Contains l t) g.is c)) [
      | inl before ↦ r.sound t before
      | inr added ↦ then_edge root point t (r.sound point (among old place point at)) ((edges t).1 (g.only t added))
    ]

    still_at : (k t : ℕ) → slice_get old k ≡ Some t → slice_get new k ≡ Some t
    still_at k t is = subst (λ l. slice_get l k ≡ Some t) (sym g.is) (front_at old g.added k t is)

    was_at : (k t : ℕ) → k < length old → slice_get new k ≡ Some t → slice_get old k ≡ Some t
    was_at k t lt is =
        let before = slice_get-get_or old k t lt in
        before ∙ sym (still_at k (get_or old k t) before) ∙ is

    led_more : (k t u : ℕ) → k < place + 1 → slice_get new k ≡ Some t → IsEdge graph t u → Contains new u
    led_more k t u lt is e = elim (lt_or_eq k place (omega (arith, lt))) as (λ _. Contains new u) [
      | inl less ↦ let within = slice_get_within old place point at in stays old new targets g u (r.led k t u less (was_at k t (omega (arith, less, within)) is) e)
      | inr same ↦
          let one : point ≡ t = same_Some point t (sym (still_at place point at) ∙ subst (λ n. slice_get new n ≡ Some t) same is) in
          g.has u ((edges u).0 (subst (λ x. IsEdge graph x u) (sym one) e))
    ]

    pub goes_on : IsReaching graph root (place + 1) new
    goes_on = record { sound = sound_more; first = still_at 0 root r.first; led = led_more }

  -- where no point stands at the place, all that is reached is there
  module _ (points : List ℕ) (place : ℕ) (over : length points ≤ place) (r : IsReaching graph root place points) where
    led_all : (t u : ℕ) → Contains points t → IsEdge graph t u → Contains points u
    led_all t u c e = let lt = c.1 in r.led c.0 t u (omega (arith, lt, over)) (found_at points t c) e

    on_way : (t u : ℕ) → Leads (IsEdge graph) t u → Contains points t → Contains points u
    on_way t u (step a b e) c = led_all a b c e
    on_way t u (further a b z e l) c = on_way b z l (led_all a b c e)

    complete : (t : ℕ) → ReachesIn graph root t → Contains points t
    complete t (inl is) = subst (Contains points) is (among points 0 root r.first)
    complete t (inr l) = on_way root t l (among points 0 root r.first)

    pub whole : AreDistinct points → AreReached graph root points
    whole once = record { first = r.first; once = once; sound = r.sound; complete = complete }

  pub past_end : (points : List ℕ) (place : ℕ) → slice_get points place ≡ None → length points ≤ place
  past_end points place none = elim (cases_lt place (length points)) [
    | inl lt ↦ absurd (none-some (get_or points place 0) (sym none ∙ slice_get-get_or points place 0 lt))
    | inr le ↦ le
  ]

-- Points that are reached are points of the graph, so they are no more than it has.
module _ (graph : List (Vec ℕ)) (edges : EdgesWithin graph) (root : ℕ) (within : root < length graph) where
  led_within : (t u : ℕ) → Leads (IsEdge (points_of graph)) t u → u < length graph
  led_within t u (step a b e) = edges a b e
  led_within t u (further a b z e l) = led_within b z l

  pub reached_within : (t : ℕ) → ReachesIn (points_of graph) root t → t < length graph
  reached_within t (inl is) = subst (λ n. n < length graph) is within
  reached_within t (inr l) = led_within root t l

  pub no_more : (points : List ℕ) → AreDistinct points → ((t : ℕ) → Contains points t → ReachesIn (points_of graph) root t) → length points ≤ length graph
  no_more points once sound = length-le_from_distinct_below points (length graph) (IsDistinct-from_AllPairs Decides-eqb points once) (λ t h. reached_within t (sound t (Contains-from_any eqb-true t points h)))
