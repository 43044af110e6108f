-- Ways along compositions, and along the edges of their graph.
use Rattle.std.proofs.Common.{◌≡◌, ◌<◌, ◌≤◌, ℕ, List, Some, length, inl, inr, refl, sym, subst, ◌∙◌, arith}
use Rattle.std.specs.Prelude.{◌↔◌, slice_get}
use Rattle.std.specs.List.{Contains, AllByRecursion}
use Rattle.std.proofs.lemmas.Option.{slice_get_within, same_Some}
use Rattle.fidl_tree.specs.declared.file.File.{File}
use Rattle.fidl_named.specs.declared.place.DeclarationId.{DeclarationId}
use Rattle.fidl_cycles.specs.Cycles.{Leads, step, further, IsEdge, IsEdgeFrom, IsFirstEdge}
use Rattle.fidl_cycles.proofs.Lists.{all_at}
use Rattle.fidl_cycles.proofs.Lists.{get_there}
use Rattle.fidl_composition.specs.Protocols.{IsProtocol}
use Rattle.fidl_composition.specs.Compositions.{Composes, ComposesFrom, Reaches, ProtocolHolds, ComposesHold}
use Rattle.fidl_composition.specs.Numbers.{ComposesByNumber, ReachesByNumber, AreCompositions}
use Rattle.fidl_composition.specs.Tables.{AreNumbered, AreComposedRows}
use Rattle.fidl_composition.specs.Points.{ReachesIn, AreReached}
use Rattle.fidl_composition.proofs.Lists.{found_at}
use Rattle.fidl_composition.proofs.Order.{one_number, not_before}

-- what composes is a protocol
pub composing : (files : List File) (p q : DeclarationId) → Composes files p q → IsProtocol files p
composing files p q h = (h.1.openness, record { file = h.1.file; name = h.1.name; members = h.1.members; is = h.1.is })

-- where one leads on, it composes
pub leading : (files : List File) (p q : DeclarationId) → Leads (Composes files) p q → IsProtocol files p
leading files p q (step a b h) = composing files a b h
leading files p q (further a b c h l) = composing files a b h

-- the rows of a graph are its edges
module _ (files : List File) (ids : List DeclarationId) (rows : List (List ℕ)) (h : AreComposedRows files ids ids rows) where
  edge_sound : (one other : ℕ) → IsEdge rows one other → ComposesByNumber files ids one other
  edge_sound one other e =
      let within = slice_get_within rows one e.targets e.stands in
      let long = h.long in
      let p = get_there ids one (omega (arith, within, long)) in
      record { composing = p.0; one_at = p.1; is = (h.each one p.0 e.targets p.1 e.stands other).0 e.among }

  edge_complete : (one other : ℕ) → ComposesByNumber files ids one other → IsEdge rows one other
  edge_complete one other c =
      let within = slice_get_within ids one c.composing c.one_at in
      let long = h.long in
      let row = get_there rows one (omega (arith, within, long)) in
      record { targets = row.0; stands = row.1; among = (h.each one c.composing row.0 c.one_at row.1 other).1 c.is }

  pub edges_of_rows : (one other : ℕ) → IsEdge rows one other ↔ ComposesByNumber files ids one other
  edges_of_rows one other = (edge_sound one other, edge_complete one other)

module _ (files : List File) (ids : List DeclarationId) (graph : List (List ℕ)) (c : AreCompositions files (ids, graph)) where
  pub edge_within : (one other : ℕ) → IsEdge graph one other → other < length graph
  edge_within one other e =
      let is = ((c.edges one other).0 e).is in
      let within = slice_get_within ids other is.composed is.number_at in
      let long = c.long in
      omega (arith, within, long)

  pub number_within : (one : ℕ) → one < length graph → one < length ids
  number_within one lt = let long = c.long in omega (arith, lt, long)

  edge_composes : (one other : ℕ) (p q : DeclarationId) → slice_get ids one ≡ Some p → slice_get ids other ≡ Some q → IsEdge graph one other → Composes files p q
  edge_composes one other p q a b e =
      let by = (c.edges one other).0 e in
      let from : by.composing ≡ p = same_Some by.composing p (sym by.one_at ∙ a) in
      let to : by.is.composed ≡ q = same_Some by.is.composed q (sym by.is.number_at ∙ b) in
      subst (λ x. Composes files x q) from (subst (Composes files by.composing) to by.is.composes)

  -- a way along edges is one along compositions
  pub composes_along : (R : ℕ → ℕ → Type 0) → ((x y : ℕ) → R x y → IsEdge graph x y) → (one other : ℕ) (p q : DeclarationId) → Leads R one other → slice_get ids one ≡ Some p → slice_get ids other ≡ Some q → Leads (Composes files) p q
  composes_along R by one other p q (step a b e) at to = step p q (edge_composes a b p q at to (by a b e))
  composes_along R by one other p q (further a b z e l) at to =
      let is = ((c.edges a b).0 (by a b e)).is in
      further p is.composed q (edge_composes a b p is.composed at is.number_at (by a b e)) (composes_along R by b z is.composed q l is.number_at to)

  -- and the other way round
  pub edges_along : (p q : DeclarationId) (one other : ℕ) → Leads (Composes files) p q → slice_get ids one ≡ Some p → slice_get ids other ≡ Some q → Leads (IsEdge graph) one other
  edges_along p q one other (step a b h) at to = step one other ((c.edges one other).1 (record { composing = a; one_at = at; is = record { composed = b; composes = h; number_at = to } }))
  edges_along p q one other (further a b z h l) at to =
      let m = c.protocols.all b (leading files b z l) in
      let mid = found_at ids b m in
      further one m.0 other ((c.edges one m.0).1 (record { composing = a; one_at = at; is = record { composed = b; composes = h; number_at = mid } })) (edges_along b z m.0 other l mid to)

  -- without a cycle of numbers no protocol leads to itself
  pub none_back : ((t : ℕ) → Leads (IsEdge graph) t t → ⊥) → (p : DeclarationId) → Leads (Composes files) p p → ⊥
  none_back none p l =
      let m = c.protocols.all p (leading files p p l) in
      let at = found_at ids p m in
      none m.0 (edges_along p p m.0 m.0 l at at)

  -- a way over points that do not stand before one goes over protocols that do not
  from_along : (first : ℕ) (p0 : DeclarationId) → slice_get ids first ≡ Some p0 → (one other : ℕ) (p q : DeclarationId) → Leads (IsEdgeFrom graph first) one other → slice_get ids one ≡ Some p → slice_get ids other ≡ Some q → Leads (ComposesFrom files p0) p q
  from_along first p0 first_at one other p q (step a b e) at to =
      step p q (edge_composes a b p q at to e.0, not_before ids c.protocols.rise first a p0 p first_at at e.1, not_before ids c.protocols.rise first b p0 q first_at to e.2)
  from_along first p0 first_at one other p q (further a b z e l) at to =
      let is = ((c.edges a b).0 e.0).is in
      further p is.composed q
      (edge_composes a b p is.composed at is.number_at e.0, not_before ids c.protocols.rise first a p0 p first_at at e.1, not_before ids c.protocols.rise first b p0 is.composed first_at is.number_at e.2)
      (from_along first p0 first_at b z is.composed q l is.number_at to)

  starts_later : (first one other : ℕ) → Leads (IsEdgeFrom graph first) one other → first ≤ one
  starts_later first one other (step a b e) = e.1
  starts_later first one other (further a b z e l) = e.1

  -- what a cycle's first edge leaves is the first of the cycle
  pub first_back : (one other : ℕ) (p : DeclarationId) → IsFirstEdge graph one other → slice_get ids one ≡ Some p → Leads (ComposesFrom files p) p p
  first_back one other p h at =
      let later = starts_later one other one h.1 in
      from_along one p at one one p p (further one other one (h.0, omega arith, later) h.1) at at

  -- points that are reached are protocols that are
  pub reached_by_number : (number : ℕ) → number < length ids → (t : ℕ) → ReachesIn graph number t ↔ ReachesByNumber files ids number t
  reached_by_number number lt t = (there, back)
    where
      from : (p : DeclarationId) × (slice_get ids number ≡ Some p)
      from = get_there ids number lt

      ends : (one other : ℕ) → Leads (IsEdge graph) one other → (q : DeclarationId) × (slice_get ids other ≡ Some q)
      ends one other (step a b e) = let is = ((c.edges a b).0 e).is in (is.composed, is.number_at)
      ends one other (further a b z e l) = ends b z l

      there : ReachesIn graph number t → ReachesByNumber files ids number t
      there (inl is) = record { from = from.0; to = from.0; one_at = from.1; other_at = subst (λ n. slice_get ids n ≡ Some from.0) is from.1; reaches = inl refl }
      there (inr l) =
          let to = ends number t l in
          record { from = from.0; to = to.0; one_at = from.1; other_at = to.1; reaches = inr (composes_along (IsEdge graph) (λ x y e. e) number t from.0 to.0 l from.1 to.1) }

      along : (p q : DeclarationId) → slice_get ids number ≡ Some p → slice_get ids t ≡ Some q → Reaches files p q → ReachesIn graph number t
      along p q at to (inl is) = inl (one_number ids c.protocols.rise number t p at (subst (λ (x : DeclarationId). slice_get ids t ≡ Some x) (sym is) to))
      along p q at to (inr l) = inr (edges_along p q number t l at to)

      back : ReachesByNumber files ids number t → ReachesIn graph number t
      back h = along h.from h.to h.one_at h.other_at h.reaches

-- so a list of all that a point reaches has the numbers of just those protocols
pub reached_all : (files : List File) (c : List DeclarationId × List (List ℕ)) → AreCompositions files c → (number : ℕ) → number < length c.0 → (points : List ℕ) → AreReached c.1 number points → (t : ℕ) → Contains points t ↔ ReachesByNumber files c.0 number t
reached_all files c known number lt points h t =
    let r = reached_by_number files c.0 c.1 known number lt t in
    ((λ m. r.0 (h.sound t m)), (λ k. h.complete t (r.1 k)))

-- what was found of files
module _ (files : List File) (ids : List DeclarationId) (numbers rows : List (List ℕ)) (numbered : AreNumbered files ids numbers) (composed : AreComposedRows files ids ids rows) where
  pub compositions_of : AreCompositions files (ids, rows)
  compositions_of = record { protocols = numbered.protocols; long = composed.long; edges = edges_of_rows files ids rows composed }

  pub hold_of : AllByRecursion (ProtocolHolds files) ids → ((p : DeclarationId) → Leads (Composes files) p p → ⊥) → ComposesHold files
  hold_of holds no_cycle = record {
    openness = λ p q one other h one_is other_is. all_at (ProtocolHolds files) ids p holds (numbered.protocols.all p (one, one_is)) q one other h one_is other_is;
    no_cycle = no_cycle;
  }
