-- Orders of a graph's points, in which each stands after those that it leads to.
use Rattle.std.proofs.Common.{◌≡◌, ◌<◌, ℕ, Bool, true, false, List, [], ◌∷◌, ◌++◌, Some, inl, inr, sym, subst, ◌∙◌, ap, length, set, take, arith, true≢false}
use Rattle.std.specs.Prelude.{slice_get}
use Rattle.std.specs.List.{Contains}
use Rattle.std.proofs.lemmas.Bool.{cases_lt}
use Rattle.std.proofs.lemmas.List.{get_or_append_left, get_or_push, get_or_past, take-append-le, take_at, length_push}
use Rattle.std.proofs.lemmas.List.Elements.{Contains-push, Contains-push_cases, Contains-append_left}
use Rattle.std.proofs.lemmas.Option.{get_or_from_slice_get, slice_get-get_or, slice_get_within}
use Rattle.fidl_cycles.specs.Cycles.{Leads, step, further, IsEdge, IsMarked, IsOrdered, IsOrder}
use Rattle.fidl_cycles.proofs.Trails.{marked_here, still_marked, marked_before}

module _ (graph : List (List ℕ)) (marks : List Bool) (order : List ℕ) (p : ℕ) where
  abbrev now : List ℕ
  now = order ++ p ∷ []

  -- a point all of whose targets are marked may follow
  pub order_more : p < length marks → IsOrdered graph marks order → ((b : ℕ) → IsEdge graph p b → IsMarked marks b) → IsOrdered graph (set marks p true) (order ++ p ∷ [])
  order_more lt h targets = record { whole = whole; after = after; points = points }
    where
      whole : (t : ℕ) → IsMarked (set marks p true) t → Contains now t
      whole t m = elim (marked_before marks p t m) as (λ _. Contains now t) [
        | inl is ↦ subst (Contains now) (sym is) (Contains-push order p)
        | inr old ↦ Contains-append_left order (p ∷ []) t (h.whole t old)
      ]

      points : (t : ℕ) → Contains now t → IsMarked (set marks p true) t
      points t m = elim (Contains-push_cases order p t m) as (λ _. IsMarked (set marks p true) t) [
        | inl old ↦ still_marked marks p lt t (h.points t old)
        | inr is ↦ subst (IsMarked (set marks p true)) is (marked_here marks p lt)
      ]

      after : (k one other : ℕ) → slice_get now k ≡ Some one → IsEdge graph one other → Contains (take k now) other
      after k one other at e = elim (cases_lt k (length order)) as (λ _. Contains (take k now) other) [
        | inl before ↦
            let here : slice_get order k ≡ Some one = slice_get-get_or order k one before ∙ ap (λ x. Some x) (sym (get_or_append_left order (p ∷ []) one k before) ∙ get_or_from_slice_get now k one one at) in
            subst (λ l. Contains l other) (sym (take-append-le k order (p ∷ []) (omega arith))) (h.after k one other here e)
        | inr past ↦
            let within = slice_get_within now k one at in
            let long = length_push order p in
            let last : length order ≡ k = omega arith in
            let is : p ≡ one = sym (get_or_push order p one k last) ∙ get_or_from_slice_get now k one one at in
            subst (λ l. Contains l other) (sym (take_at order (p ∷ []) k last)) (h.whole other (targets other (subst (λ a. IsEdge graph a other) (sym is) e)))
      ]

marked_within : (marks : List Bool) (t : ℕ) → IsMarked marks t → t < length marks
marked_within marks t m = elim (cases_lt t (length marks)) as (λ _. t < length marks) [
  | inl lt ↦ lt
  | inr past ↦ absurd (true≢false (sym m ∙ get_or_past marks t false past))
]

-- where all points are marked the order is one of all
pub order_all : (graph : List (List ℕ)) (marks : List Bool) (order : List ℕ) → length marks ≡ length graph → IsOrdered graph marks order → ((t : ℕ) → t < length graph → IsMarked marks t) → IsOrder graph order
order_all graph marks order long h all = record {
  whole = λ t lt. h.whole t (all t lt);
  after = h.after;
  points = λ t m. subst (λ n. t < n) long (marked_within marks t (h.points t m));
}

-- what leads anywhere is a point
pub leads_start : (graph : List (List ℕ)) (a b : ℕ) → Leads (IsEdge graph) a b → a < length graph
leads_start graph a b (step x y e) = slice_get_within graph x e.targets e.stands
leads_start graph a b (further x y z e l) = slice_get_within graph x e.targets e.stands
