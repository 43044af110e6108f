-- The graph of what depends on what: its edges, ways and orders are those of declarations and members.
use Rattle.std.proofs.Common.{◌≡◌, ◌∙◌, ◌<◌, ℕ, List, [], Some, length, get_or, sym, subst}
use Rattle.std.specs.Prelude.{slice_get}
use Rattle.std.proofs.lemmas.Option.{same_Some, slice_get_within, slice_get-get_or}
use Rattle.fidl_tree.specs.declared.file.File.{File}
use Rattle.fidl_named.specs.declared.meaning.Meaning.{Meaning}
use Rattle.fidl_cycles.specs.Cycles.{Leads, step, further, IsEdge, IsEdgeFrom, IsFirstEdge, IsOrder}
use Rattle.std.specs.Global.{Vec}
use Rattle.fidl_consts.specs.Dependencies.{DependsOn}
use Rattle.fidl_const.specs.Columns.{AreNumbered, AreRows, IsNodeOrder}
use Rattle.fidl_consts.specs.Tables.{number_of}
use Rattle.fidl_const.proofs.Targets.{uses_node}
use Rattle.fidl_cycles.proofs.Lists.{contains_at as contains_there}

some_there : {X : Type 0} (xs : List X) (n : ℕ) (d : X) → n < length xs → (x : X) × (slice_get xs n ≡ Some x)
some_there xs n d within = (get_or xs n d, slice_get-get_or xs n d within)

module _ (files : List File) (nodes : List Meaning) (starts : List (Vec ℕ)) (graph : List (List ℕ)) (numbered : AreNumbered files nodes starts) (rows : AreRows files nodes starts graph) where
  from_within : (one other : ℕ) → IsEdge graph one other → one < length nodes
  from_within one other e = subst (λ n. one < n) rows.long (slice_get_within graph one e.targets e.stands)

  -- the end of an edge, where one stands at its start
  record End (m : Meaning) (other : ℕ) : Type 0 where
    pub node : Meaning
    pub hangs : DependsOn files m node
    pub there : slice_get nodes other ≡ Some node

  end_of : (one other : ℕ) (m : Meaning) → IsEdge graph one other → slice_get nodes one ≡ Some m → End m other
  end_of one other m e at =
      let found = rows.just one m e.targets other at e.stands e.among in
      record {
        node = found.0;
        hangs = found.1.0;
        there = subst (λ n. slice_get nodes n ≡ Some found.0) (sym found.1.1) (numbered.numbered found.0 found.1.0.target);
      }

  pub edges_within : (one other : ℕ) → IsEdge graph one other → (d : Meaning) → other < length graph
  edges_within one other e d =
      let start = some_there nodes one d (from_within one other e) in
      let end = end_of one other start.0 e start.1 in
      subst (λ n. other < n) (sym rows.long) (slice_get_within nodes other end.node end.there)

  hangs : (one other : ℕ) (m n : Meaning) → IsEdge graph one other → slice_get nodes one ≡ Some m → slice_get nodes other ≡ Some n → DependsOn files m n
  hangs one other m n e at there =
      let end = end_of one other m e at in
      subst (DependsOn files m) (same_Some end.node n (sym end.there ∙ there)) end.hangs

  leads : (first one other : ℕ) (m n : Meaning) → Leads (IsEdgeFrom graph first) one other → slice_get nodes one ≡ Some m → slice_get nodes other ≡ Some n → Leads (DependsOn files) m n
  leads first one other m n (step x y e) at there = step m n (hangs one other m n e.0 at there)
  leads first one other m n (further x y z e rest) at there =
      let end = end_of one y m e.0 at in
      further m end.node n end.hangs (leads first y other end.node n rest end.there there)

  pub back : (one other : ℕ) (m : Meaning) → IsFirstEdge graph one other → slice_get nodes one ≡ Some m → Leads (DependsOn files) m m
  back one other m e at =
      let end = end_of one other m e.0 at in
      further m end.node m end.hangs (leads one other one end.node m e.1 end.there at)

  -- what depends on another has an edge to it
  edge : (one other : Meaning) → DependsOn files one other → IsEdge graph (number_of starts one) (number_of starts other)
  edge one other d =
      let at = numbered.numbered one (uses_node files one d.file d.kind d.path d.uses) in
      let within = slice_get_within nodes (number_of starts one) one at in
      let row = some_there graph (number_of starts one) [] (subst (λ l. number_of starts one < l) (sym rows.long) within) in
      record { targets = row.0; stands = row.1; among = rows.all (number_of starts one) one other row.0 at row.1 d }

  edges_lead : (one other : Meaning) → Leads (DependsOn files) one other → Leads (IsEdge graph) (number_of starts one) (number_of starts other)
  edges_lead one other (step x y d) = step (number_of starts x) (number_of starts y) (edge x y d)
  edges_lead one other (further x y z d rest) = further (number_of starts x) (number_of starts y) (number_of starts z) (edge x y d) (edges_lead y z rest)

  pub none_back : ((t : ℕ) → Leads (IsEdge graph) t t → ⊥) → (m : Meaning) → Leads (DependsOn files) m m → ⊥
  none_back none m back = none (number_of starts m) (edges_lead m m back)

  pub start_within : (one other : ℕ) → IsFirstEdge graph one other → one < length nodes
  start_within one other e = from_within one other e.0

  pub node_order : (order : List ℕ) → IsOrder graph order → IsNodeOrder files nodes order
  node_order order h = record {
    within = λ k n at. subst (λ l. n < l) rows.long (h.points n (contains_there order k n at));
    whole = λ n within. h.whole n (subst (λ l. n < l) (sym rows.long) within);
    after = λ k n one other at there hang.
        let row = some_there graph n [] (subst (λ l. n < l) (sym rows.long) (slice_get_within nodes n one there)) in
        (number_of starts other, (h.after k n (number_of starts other) at (record { targets = row.0; stands = row.1; among = rows.all n one other row.0 there row.1 hang }), numbered.numbered other hang.target));
  }
