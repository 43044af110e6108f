-- The graph of what stands in what has the edges of the definition, of those that are there.
use Rattle.std.proofs.Common.{◌≡◌, ℕ, zero, suc, ◌<◌, ◌≤◌, inl, inr, Bool, true, cond, List, [], ◌∷◌, length, map, get_or, nat_lt, Some, ap, sym, ◌∙◌, subst, arith}
use Rattle.std.specs.Prelude.{filter, slice_get}
use Rattle.std.specs.List.{Contains}
use Rattle.std.proofs.lemmas.Bool.{cases_Bool, cases_lt, ltb-true, lt-ltb}
use Rattle.std.proofs.lemmas.List.{get_or_past}
use Rattle.std.proofs.lemmas.Option.{slice_get-get_or, get_or_from_slice_get}
use Rattle.std.proofs.Math.ListN.{get_or-map, length-map}
use Rattle.fidl_wire.specs.Term.{Term, nothing}
use Rattle.fidl_cycles.specs.Cycles.{Leads, step, further, IsEdge, IsEdgeFrom, IsFirstEdge}
use Rattle.fidl_ir_rules.specs.Inline.{inline_names, HoldsInline, HoldsInlineFrom, StandsInItself, IsFirstInItself}

more : {X : Type 0} (x y : X) (xs : List X) → Contains xs y → Contains (x ∷ xs) y
more x y xs (k, within, is) = (suc k, omega (arith, within), is)

-- the elements that pass a test are elements, and pass it
module _ {X : Type 0} (p : X → Bool) where
  kept_in : (x y : X) (xs : List X) → ((Contains (filter p xs) y) → Contains xs y) → Contains (filter p (x ∷ xs)) y → Contains (x ∷ xs) y
  kept_in x y xs rest h = elim (cases_Bool (p x)) [
    | inl passed ↦
        let h' = subst (λ (b : Bool). Contains (cond b (x ∷ filter p xs) (filter p xs)) y) passed h in
        first_or x y xs rest h'
    | inr failed ↦
        let h' = subst (λ (b : Bool). Contains (cond b (x ∷ filter p xs) (filter p xs)) y) failed h in
        more x y xs (rest h')
  ]
    where
      first_or : (x y : X) (xs : List X) → (Contains (filter p xs) y → Contains xs y) → Contains (x ∷ filter p xs) y → Contains (x ∷ xs) y
      first_or x y xs rest (zero, within, is) = (0, omega arith, is)
      first_or x y xs rest (suc k, within, is) = more x y xs (rest (k, omega (arith, within), is))

  pub from_filter : (xs : List X) (y : X) → Contains (filter p xs) y → Contains xs y
  from_filter [] y h = h
  from_filter (x ∷ xs) y h = kept_in x y xs (from_filter xs y) h

  passes_first : (x y : X) (xs : List X) → p x ≡ true → (Contains (filter p xs) y → p y ≡ true) → Contains (x ∷ filter p xs) y → p y ≡ true
  passes_first x y xs passed rest (zero, within, is) = subst (λ (z : X). p z ≡ true) is passed
  passes_first x y xs passed rest (suc k, within, is) = rest (k, omega (arith, within), is)

  pub passes : (xs : List X) (y : X) → Contains (filter p xs) y → p y ≡ true
  passes [] y (k, within, is) = absurd (omega (arith, within))
  passes (x ∷ xs) y h = elim (cases_Bool (p x)) [
    | inl passed ↦ passes_first x y xs passed (passes xs y) (subst (λ (b : Bool). Contains (cond b (x ∷ filter p xs) (filter p xs)) y) passed h)
    | inr failed ↦ passes xs y (subst (λ (b : Bool). Contains (cond b (x ∷ filter p xs) (filter p xs)) y) failed h)
  ]

  pub into_filter : (xs : List X) (y : X) → p y ≡ true → Contains xs y → Contains (filter p xs) y
  into_filter [] y passed h = h
  into_filter (x ∷ xs) y passed (zero, within, is) =
      let e : p x ≡ true = ap p is ∙ passed in
      subst (λ (b : Bool). Contains (cond b (x ∷ filter p xs) (filter p xs)) y) (sym e) (0, omega arith, is)
  into_filter (x ∷ xs) y passed (suc k, within, is) = elim (cases_Bool (p x)) [
    | inl e ↦ subst (λ (b : Bool). Contains (cond b (x ∷ filter p xs) (filter p xs)) y) (sym e) (more x y (filter p xs) (into_filter xs y passed (k, omega (arith, within), is)))
    | inr e ↦ subst (λ (b : Bool). Contains (cond b (x ∷ filter p xs) (filter p xs)) y) (sym e) (into_filter xs y passed (k, omega (arith, within), is))
  ]

-- ways over other edges
pub leads_by : {X : Type 0} (R S : X → X → Type 0) → ((x y : X) → R x y → S x y) → (x y : X) → Leads R x y → Leads S x y
leads_by R S each x y (step a b r) = step a b (each a b r)
leads_by R S each x y (further a b c r h) = further a b c (each a b r) (leads_by R S each b c h)

-- a way over points that don't stand before one begins at no point before it
starts_from : (graph : List (List ℕ)) (first i j : ℕ) → Leads (IsEdgeFrom graph first) i j → first ≤ i
starts_from graph first i j (step a b (edge, outer, inner)) = outer
starts_from graph first i j (further a b c (edge, outer, inner) h) = outer

module _ (terms : List Term) (count : ℕ) (long : length terms ≡ count) (graph : List (List ℕ)) (is_graph : graph ≡ map (λ d. filter (λ i. nat_lt i count) (inline_names d)) terms) where
  abbrev F : Term → List ℕ
  F d = filter (λ i. nat_lt i count) (inline_names d)

  graph_at : (i : ℕ) → get_or graph i [] ≡ F (get_or terms i nothing)
  graph_at i = ap (λ (g : List (List ℕ)). get_or g i []) is_graph ∙ get_or-map F terms i nothing

  graph_long : length graph ≡ count
  graph_long = ap length is_graph ∙ length-map terms F ∙ long

  targets_are : (i : ℕ) (targets : List ℕ) → slice_get graph i ≡ Some targets → targets ≡ F (get_or terms i nothing)
  targets_are i targets h = sym (get_or_from_slice_get graph i targets [] h) ∙ graph_at i

  -- an edge is one of the definition
  pub edge_holds : (i j : ℕ) → IsEdge graph i j → HoldsInline terms i j
  edge_holds i j e = from_filter (λ k. nat_lt k count) (inline_names (get_or terms i nothing)) j (subst (λ (ts : List ℕ). Contains ts j) (targets_are i e.targets e.stands) e.among)

  pub edge_within : (i j : ℕ) → IsEdge graph i j → j < count
  edge_within i j e = ltb-true j count (passes (λ k. nat_lt k count) (inline_names (get_or terms i nothing)) j (subst (λ (ts : List ℕ). Contains ts j) (targets_are i e.targets e.stands) e.among))

  -- what holds another is there
  pub holder_within : (i j : ℕ) → HoldsInline terms i j → i < count
  holder_within i j h = elim (cases_lt i count) [
    | inl within ↦ within
    | inr past ↦
        let e : get_or terms i nothing ≡ nothing = get_or_past terms i nothing (omega (arith, past, long)) in
        let h' = subst (λ (t : Term). Contains (inline_names t) j) e h in
        absurd (omega (arith, h'.1))
  ]

  holds_edge : (i j : ℕ) → HoldsInline terms i j → j < count → IsEdge graph i j
  holds_edge i j h within = record {
    targets = F (get_or terms i nothing);
    stands = slice_get-get_or graph i [] (let here = holder_within i j h in omega (arith, here, graph_long)) ∙ ap Some (graph_at i);
    among = into_filter (λ k. nat_lt k count) (inline_names (get_or terms i nothing)) j (lt-ltb j count within) h;
  }

  starts_within : (i j : ℕ) → Leads (HoldsInline terms) i j → i < count
  starts_within i j (step a b r) = holder_within a b r
  starts_within i j (further a b c r h) = holder_within a b r

  as_edges : (i j : ℕ) → Leads (HoldsInline terms) i j → j < count → Leads (IsEdge graph) i j
  as_edges i j (step a b r) within = step a b (holds_edge a b r within)
  as_edges i j (further a b c r h) within = further a b c (holds_edge a b r (starts_within b c h)) (as_edges b c h within)

  -- without a cycle, nothing stands in itself
  pub none_in_itself : ((t : ℕ) → Leads (IsEdge graph) t t → ⊥) → (i : ℕ) → StandsInItself terms i → ⊥
  none_in_itself none i h = none i (as_edges i i h (starts_within i i h))

  edge_holds_from : (first i j : ℕ) → IsEdgeFrom graph first i j → HoldsInlineFrom terms first i j
  edge_holds_from first i j (edge, outer, inner) = (edge_holds i j edge, outer, inner)

  -- what a cycle's first edge leaves is the first that stands in itself on that cycle
  pub in_itself : (i j : ℕ) → IsFirstEdge graph i j → IsFirstInItself terms i
  in_itself i j (edge, back) = further i j i (edge_holds i j edge, omega arith, starts_from graph i j i back) (leads_by (IsEdgeFrom graph i) (HoldsInlineFrom terms i) (edge_holds_from i) j i back)

-- what is the first in itself stands in itself
pub stands_in_itself : (terms : List Term) (i : ℕ) → IsFirstInItself terms i → StandsInItself terms i
stands_in_itself terms i h = leads_by (HoldsInlineFrom terms i) (HoldsInline terms) (λ x y held. held.0) i i h
