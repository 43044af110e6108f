-- Trails: points of which each leads to the next at once; and what marks say when a point is finished.
use Rattle.std.proofs.Common.{◌≡◌, ◌<◌, ◌+◌, ℕ, Bool, true, false, List, [], ◌∷◌, ◌++◌, inl, inr, refl, sym, subst, ◌∙◌, length, get_or, set, eqb, ap, true≢false, get_or-set_same, get_or-set_other, arith}
use Rattle.std.specs.Prelude.{◌⊎◌}
use Rattle.std.specs.List.{Contains, AllByRecursion, sum_by}
use Rattle.std.specs.Global.{Vec}
use Rattle.std.proofs.lemmas.Bool.{cases_Bool}
use Rattle.std.proofs.lemmas.Bool.Decides.{Decides-eqb}
use Rattle.std.proofs.lemmas.List.{get_or_default, map-append}
use Rattle.std.proofs.lemmas.List.Sums.{sum_by-set}
use Rattle.std.proofs.lemmas.List.Elements.{Contains-get_or}
use Rattle.std.proofs.lemmas.Option.{get_or_from_slice_get, slice_get_read}
use Rattle.std.proofs.Math.ListN.{get_or-map, length-map}
use Rattle.fidl_cycles.specs.declared.cycles.Frame.{Frame}
use Rattle.fidl_cycles.specs.Cycles.{Leads, step, further, IsEdge, IsMarked, HasNoCycle, IsPoint, IsTrail, points_of, trail_of}

pub same_or_not : (a b : ℕ) → (a ≡ b) ⊎ (a ≡ b → ⊥)
same_or_not a b = elim (cases_Bool (eqb a b)) as (λ _. (a ≡ b) ⊎ (a ≡ b → ⊥)) [
  | inl same ↦ inl ((Decides-eqb a b).0 same)
  | inr other ↦ inr (λ e. true≢false (sym ((Decides-eqb a b).1 e) ∙ other))
]

module _ (marks : List Bool) (p : ℕ) where
  pub marked_here : p < length marks → IsMarked (set marks p true) p
  marked_here lt = get_or-set_same marks p true false lt

  pub still_marked : p < length marks → (t : ℕ) → IsMarked marks t → IsMarked (set marks p true) t
  still_marked lt t h = elim (same_or_not t p) as (λ _. IsMarked (set marks p true) t) [
    | inl e ↦ subst (IsMarked (set marks p true)) (sym e) (marked_here lt)
    | inr ne ↦ get_or-set_other marks p t true false ne ∙ h
  ]

  pub marked_before : (t : ℕ) → IsMarked (set marks p true) t → (t ≡ p) ⊎ IsMarked marks t
  marked_before t h = elim (same_or_not t p) as (λ _. (t ≡ p) ⊎ IsMarked marks t) [
    | inl e ↦ inl e
    | inr ne ↦ inr (sym (get_or-set_other marks p t true false ne) ∙ h)
  ]

pub point_before : (xs : List ℕ) (n t : ℕ) → IsPoint xs t → IsPoint (xs ++ n ∷ []) t
point_before [] n t h = absurd h
point_before (x ∷ xs) n t (inl e) = inl e
point_before (x ∷ xs) n t (inr h) = inr (point_before xs n t h)

pub point_last : (xs : List ℕ) (n t : ℕ) → n ≡ t → IsPoint (xs ++ n ∷ []) t
point_last [] n t e = inl e
point_last (x ∷ xs) n t e = inr (point_last xs n t e)

pub point_cases : (xs : List ℕ) (n t : ℕ) → IsPoint (xs ++ n ∷ []) t → IsPoint xs t ⊎ (n ≡ t)
point_cases [] n t (inl e) = inr e
point_cases [] n t (inr h) = absurd h
point_cases (x ∷ xs) n t (inl e) = inl (inl e)
point_cases (x ∷ xs) n t (inr h) = further_on (point_cases xs n t h)
  where
    further_on : IsPoint xs t ⊎ (n ≡ t) → IsPoint (x ∷ xs) t ⊎ (n ≡ t)
    further_on (inl k) = inl (inr k)
    further_on (inr e) = inr e

module _ (graph : List (List ℕ)) where
  E : ℕ → ℕ → Type 0
  E = IsEdge graph

  -- from a marked point all ways lead to marked points
  pub stays : (marks : List Bool) → ((a b : ℕ) → IsMarked marks a → IsEdge graph a b → IsMarked marks b) → (a b : ℕ) → Leads (IsEdge graph) a b → IsMarked marks a → IsMarked marks b
  stays marks closed a b (step x y e) h = closed a b h e
  stays marks closed a b (further x y z e l) h = stays marks closed y b l (closed a y h e)

  -- a point all of whose targets are marked is finished
  pub finished : (marks : List Bool) (p : ℕ) → p < length marks → HasNoCycle graph marks → ((b : ℕ) → IsEdge graph p b → IsMarked marks b) → HasNoCycle graph (set marks p true)
  finished marks p lt h targets = record { closed = closed; acyclic = acyclic }
    where
      closed : (a b : ℕ) → IsMarked (set marks p true) a → IsEdge graph a b → IsMarked (set marks p true) b
      closed a b m e = elim (marked_before marks p a m) as (λ _. IsMarked (set marks p true) b) [
        | inl is ↦ still_marked marks p lt b (targets b (subst (λ x. IsEdge graph x b) is e))
        | inr old ↦ still_marked marks p lt b (h.closed a b old e)
      ]

      around : (a b : ℕ) → Leads (IsEdge graph) a b → a ≡ p → b ≡ p → ⊥
      around a b (step x y e) is back =
          let m : IsMarked marks b = targets b (subst (λ x. IsEdge graph x b) is e) in
          h.acyclic b m (step b b (subst (λ x. IsEdge graph x b) (is ∙ sym back) e))
      around a b (further x y z e l) is back =
          let m : IsMarked marks y = targets y (subst (λ x. IsEdge graph x y) is e) in
          let n : IsMarked marks b = stays marks h.closed y b l m in
          h.acyclic b n (further b y b (subst (λ x. IsEdge graph x y) (is ∙ sym back) e) l)

      acyclic : (a : ℕ) → IsMarked (set marks p true) a → Leads (IsEdge graph) a a → ⊥
      acyclic a m l = elim (marked_before marks p a m) as (λ _. ⊥) [
        | inl is ↦ around a a l is is
        | inr old ↦ h.acyclic a old l
      ]

  pub trail_more : (xs : List ℕ) (n t : ℕ) → IsTrail graph (xs ++ n ∷ []) → IsEdge graph n t → IsTrail graph ((xs ++ n ∷ []) ++ t ∷ [])
  trail_more [] n t h e = (e, (tt, tt))
  trail_more (x ∷ []) n t h e = (h.0, trail_more [] n t h.1 e)
  trail_more (x ∷ y ∷ ys) n t h e = (h.0, trail_more (y ∷ ys) n t h.1 e)

  pub trail_less : (xs : List ℕ) (n : ℕ) → IsTrail graph (xs ++ n ∷ []) → IsTrail graph xs
  trail_less [] n h = tt
  trail_less (x ∷ []) n h = (tt, tt)
  trail_less (x ∷ y ∷ ys) n h = (h.0, trail_less (y ∷ ys) n h.1)

  pub trail_edge : (xs : List ℕ) (n t : ℕ) → IsTrail graph ((xs ++ n ∷ []) ++ t ∷ []) → IsEdge graph n t
  trail_edge [] n t h = h.0
  trail_edge (x ∷ []) n t h = h.1.0
  trail_edge (x ∷ y ∷ ys) n t h = trail_edge (y ∷ ys) n t h.1

-- where each of these is marked, so is one of them
pub each_marked : (marks : List Bool) (ts : List ℕ) → ((k : ℕ) → k < length ts → IsMarked marks (get_or ts k 0)) → (b : ℕ) → Contains ts b → IsMarked marks b
each_marked marks ts h b m = subst (IsMarked marks) (get_or_default ts m.0 0 b m.1 ∙ m.2) (h m.0 m.1)

module _ {X : Type 0} where
  pub all_front : (P : X → Type 0) (xs : List X) (y : X) → AllByRecursion P (xs ++ y ∷ []) → AllByRecursion P xs
  all_front P [] y h = tt
  all_front P (x ∷ xs) y h = (h.0, all_front P xs y h.1)

  pub all_last : (P : X → Type 0) (xs : List X) (y : X) → AllByRecursion P (xs ++ y ∷ []) → P y
  all_last P [] y h = h.0
  all_last P (x ∷ xs) y h = all_last P xs y h.1

  pub all_more : (P : X → Type 0) (xs : List X) (y : X) → AllByRecursion P xs → P y → AllByRecursion P (xs ++ y ∷ [])
  all_more P [] y h p = (p, tt)
  all_more P (x ∷ xs) y h p = (h.0, all_more P xs y h.1 p)

  pub all_weaker : (P Q : X → Type 0) → ((x : X) → P x → Q x) → (xs : List X) → AllByRecursion P xs → AllByRecursion Q xs
  all_weaker P Q w [] h = tt
  all_weaker P Q w (x ∷ xs) h = (w x h.0, all_weaker P Q w xs h.1)

-- a point of the graph, of whose targets those before the next are marked
abbrev pub IsPassed : (graph : List (Vec ℕ)) → List Bool → (point next : ℕ) → Type 0
IsPassed graph marks point next = (point < length graph) × ((k : ℕ) → k < next → IsMarked marks (get_or (get_or (points_of graph) point []) k 0))

-- how many points have no mark
abbrev pub weight : Bool → ℕ
weight true = 0
weight false = 1

abbrev pub unmarked : List Bool → ℕ
unmarked marks = sum_by weight marks

-- more marks keep what is passed
pub passed_still : (graph : List (Vec ℕ)) (marks : List Bool) (p : ℕ) → p < length marks → (point next : ℕ) → IsPassed graph marks point next → IsPassed graph (set marks p true) point next
passed_still graph marks p lt point next h = (h.0, λ k below. still_marked marks p lt _ (h.1 k below))

-- the targets of a point, as the graph holds them
module _ (graph : List (Vec ℕ)) (point : ℕ) (row : Vec ℕ) (lt : point < length graph) (is : row ≡ get_or graph point row) where
  at : row.items ≡ get_or (points_of graph) point row.items
  at = ap (λ (v : Vec ℕ). v.items) is ∙ sym (get_or-map (λ (v : Vec ℕ). v.items) graph point row)

  within : point < length (points_of graph)
  within = omega (arith, length-map graph (λ (v : Vec ℕ). v.items))

  pub row_is : get_or (points_of graph) point [] ≡ row.items
  row_is = get_or_default (points_of graph) point [] row.items within ∙ sym at

  pub edge_to : (t : ℕ) → Contains row.items t → IsEdge (points_of graph) point t
  edge_to t h = record { targets = row.items; stands = slice_get_read (points_of graph) (length (points_of graph)) point row.items refl within at; among = h }

  pub target_of : (t : ℕ) → IsEdge (points_of graph) point t → Contains row.items t
  target_of t e = subst (λ l. Contains l t) (sym (get_or_from_slice_get (points_of graph) point e.targets [] e.stands) ∙ row_is) e.among

pub trail_split : (path front : List Frame) (f : Frame) (point : ℕ) → path ≡ front ++ f ∷ [] → trail_of path point ≡ trail_of front f.point ++ point ∷ []
trail_split path front f point e = ap (λ p. trail_of p point) e ∙ ap (λ l. l ++ point ∷ []) (map-append (λ (f : Frame). f.point) front (f ∷ []))

-- a mark more
pub unmarked_less : (marks : List Bool) (t : ℕ) → t < length marks → get_or marks t false ≡ false → unmarked (set marks t true) + 1 ≡ unmarked marks
unmarked_less marks t lt h =
    let e = sum_by-set weight marks t true false lt in
    let one : weight (get_or marks t false) ≡ 1 = ap weight h in
    omega (arith, e, one)

-- the target of this number, where the graph is looked up twice
module _ (graph : List (Vec ℕ)) (point : ℕ) (one other : Vec ℕ) (lt : point < length graph) (is : one ≡ get_or graph point one) (again : other ≡ get_or graph point other) (now : List ℕ) (value : now ≡ one.items) (i target : ℕ)
    (inside : i < length now) (at : target ≡ get_or other.items i target) where
  same : now ≡ other.items
  same = value ∙ sym (row_is graph point one lt is) ∙ row_is graph point other lt again

  below : i < length other.items
  below = subst (λ l. i < length l) same inside

  pub target_edge : IsEdge (points_of graph) point target
  target_edge = edge_to graph point other lt again target (subst (Contains other.items) (sym at) (Contains-get_or other.items i target below))

  pub target_is : get_or now i 0 ≡ target
  target_is = ap (λ l. get_or l i 0) same ∙ get_or_default other.items i 0 target below ∙ sym at
