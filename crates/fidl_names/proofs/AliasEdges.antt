-- The graph of aliases: ways over numbers are ways over ids.
use Rattle.std.proofs.Common.{◌≡◌, ◌⊎◌, ◌<◌, ◌+◌, ℕ, List, [], ◌∷◌, ◌++◌, Option, Some, None, length, inl, inr, refl, ap, sym, subst, ◌∙◌, arith}
use Rattle.std.specs.Prelude.{slice_get}
use Rattle.std.specs.List.{Contains}
use Rattle.std.proofs.lemmas.List.{length_push}
use Rattle.std.proofs.lemmas.List.Elements.{Contains-push, Contains-push_cases, Contains-append_left}
use Rattle.std.proofs.lemmas.Option.{slice_get_within, same_Some}
use Rattle.fidl_tree.specs.Syntax.{Path}
use Rattle.fidl_tree.specs.Views.{type_view}
use Rattle.fidl_tree.specs.declared.file.File.{File}
use Rattle.fidl_tree.specs.declared.declaration.AliasDeclaration.{AliasDeclaration}
use Rattle.fidl_named.specs.declared.place.DeclarationId.{DeclarationId}
use Rattle.fidl_named.specs.declared.meaning.Wanted.TheVariants as wanted
use Rattle.fidl_named.specs.Meanings.{IsJust}
use Rattle.fidl_names.specs.OuterTypes.{outer_types}
use Rattle.fidl_named.specs.Paths.{texts}
use Rattle.fidl_named.specs.Aliases.{IsAliasAt}
use Rattle.fidl_names.specs.AliasCycles.{Refers}
use Rattle.fidl_names.specs.AliasGraph.{IsMeant, IsTarget, AreTargets, IsReferred, AreReferred, AreRows, IsAliasOrder}
use Rattle.fidl_cycles.specs.Cycles.{Leads, step, further, IsEdge, IsEdgeFrom, IsFirstEdge, IsOrder}
use Rattle.fidl_named.specs.FullNames.{HasDeclaration}
use Rattle.fidl_names.specs.DeclarationNumbers.{number_of, AreNumbered}
use Rattle.fidl_named.proofs.ResolvedMeanings.{one_file, one_alias}
use Rattle.fidl_cycles.proofs.Lists.{get_left, get_right, get_either, get_there}
use Rattle.fidl_names.proofs.AliasNames.{read_id}

-- one type more
module _ (fs : List File) (f : File) (ss : List ℕ) (ts : List (Option Path × Path)) (of : Option Path) (path : Path) (found : List ℕ) (h : AreTargets fs f ss ts found) where
  later : (t : ℕ) → IsTarget fs f ss ts t → IsTarget fs f ss (ts ++ (of, path) ∷ []) t
  later t k = record {
    argument_of = k.argument_of;
    path = k.path;
    id = k.id;
    among = Contains-append_left ts ((of, path) ∷ []) (k.argument_of, k.path) k.among;
    meant = k.meant;
    number_is = k.number_is;
  }

  -- what it means, where it is the last
  last_meant : (t : ℕ) (k : IsTarget fs f ss (ts ++ (of, path) ∷ []) t) → IsTarget fs f ss ts t ⊎ IsMeant fs f of path k.id
  last_meant t k = either (Contains-push_cases ts (of, path) (k.argument_of, k.path) k.among)
    where
      either : Contains ts (k.argument_of, k.path) ⊎ ◌≡◌ {A = Option Path × Path} (of, path) (k.argument_of, k.path) → IsTarget fs f ss ts t ⊎ IsMeant fs f of path k.id
      either (inl old) = inl (record { argument_of = k.argument_of; path = k.path; id = k.id; among = old; meant = k.meant; number_is = k.number_is })
      either (inr same) = inr (subst (λ (x : Option Path × Path). IsMeant fs f x.0 x.1 k.id) (sym same) k.meant)

  pub target_none : IsJust (IsMeant fs f of path) None → AreTargets fs f ss (ts ++ (of, path) ∷ []) found
  target_none none = λ t. ((λ m. later t ((h t).0 m)), (λ k. either t k (last_meant t k)))
    where
      either : (t : ℕ) (k : IsTarget fs f ss (ts ++ (of, path) ∷ []) t) → IsTarget fs f ss ts t ⊎ IsMeant fs f of path k.id → Contains found t
      either t k (inl old) = (h t).1 old
      either t k (inr meant) = absurd (none k.id meant)

  pub target_more : (q : DeclarationId) → IsJust (IsMeant fs f of path) (Some q) → AreTargets fs f ss (ts ++ (of, path) ∷ []) (found ++ number_of ss q ∷ [])
  target_more q just = λ t. ((λ m. there t (Contains-push_cases found (number_of ss q) t m)), (λ k. back t k (last_meant t k)))
    where
      there : (t : ℕ) → Contains found t ⊎ (number_of ss q ≡ t) → IsTarget fs f ss (ts ++ (of, path) ∷ []) t
      there t (inl old) = later t ((h t).0 old)
      there t (inr is) = record { argument_of = of; path = path; id = q; among = Contains-push ts (of, path); meant = just.0; number_is = sym is }

      back : (t : ℕ) (k : IsTarget fs f ss (ts ++ (of, path) ∷ []) t) → IsTarget fs f ss ts t ⊎ IsMeant fs f of path k.id → Contains (found ++ number_of ss q ∷ []) t
      back t k (inl old) = Contains-append_left found (number_of ss q ∷ []) t ((h t).1 old)
      back t k (inr meant) =
          let is : t ≡ number_of ss q = k.number_is ∙ ap (number_of ss) (just.1 k.id meant) in
          subst (Contains (found ++ number_of ss q ∷ [])) (sym is) (Contains-push found (number_of ss q))

pub targets_none : (fs : List File) (f : File) (ss : List ℕ) → AreTargets fs f ss [] []
targets_none fs f ss = λ t. (
  (λ m. let never : ⊥ = omega (arith, m.1) in absurd never),
  (λ k. let among = k.among in let never : ⊥ = omega (arith, among.1) in absurd never),
)

-- what an alias refers to is what the types in its own mean
pub alias_refers : (fs : List File) (ss : List ℕ) (p : DeclarationId) (f : File) (a : AliasDeclaration) (found : List ℕ) → IsAliasAt fs p f a → AreTargets fs f ss (outer_types (type_view a.constructor)) found → AreReferred fs ss p found
alias_refers fs ss p f a found here h = λ t. ((λ m. there t ((h t).0 m)), (λ k. (h t).1 (back t k)))
  where
    there : (t : ℕ) → IsTarget fs f ss (outer_types (type_view a.constructor)) t → IsReferred fs ss p t
    there t k =
        let refers : Refers fs p k.id = record { file = f; alias = a; argument_of = k.argument_of; path = k.path; alias_at = here; named = k.among; wants = k.meant.wants; means = k.meant.means } in
        record { other = k.id; refers = refers; number_is = k.number_is }

    back : (t : ℕ) → IsReferred fs ss p t → IsTarget fs f ss (outer_types (type_view a.constructor)) t
    back t k =
        let r = k.refers in
        let file = one_file fs p p r.file f r.alias a r.alias_at here refl in
        let alias = one_alias fs p p r.file f r.alias a r.alias_at here refl in
        let meant : IsMeant fs r.file r.argument_of r.path k.other = record { wants = r.wants; means = r.means } in
        record {
          argument_of = r.argument_of;
          path = r.path;
          id = k.other;
          among = subst (λ (x : AliasDeclaration). Contains (outer_types (type_view x.constructor)) (r.argument_of, r.path)) alias r.named;
          meant = subst (λ (x : File). IsMeant fs x r.argument_of r.path k.other) file meant;
          number_is = k.number_is;
        }

pub no_alias_refers : (fs : List File) (ss : List ℕ) (p : DeclarationId) → ((f : File) (a : AliasDeclaration) → IsAliasAt fs p f a → ⊥) → AreReferred fs ss p []
no_alias_refers fs ss p none = λ t. (
  (λ m. let never : ⊥ = omega (arith, m.1) in absurd never),
  (λ k. absurd (none k.refers.file k.refers.alias k.refers.alias_at)),
)

-- one row more
pub edges_none : (fs : List File) (ss : List ℕ) → AreRows fs ss [] []
edges_none fs ss = record {
  long = refl;
  each = λ n p row at there.
      let within = slice_get_within [] n p at in
      let never : ⊥ = omega (arith, within) in
      absurd never;
}

pub edges_more : (fs : List File) (ss : List ℕ) (ps : List DeclarationId) (rows : List (List ℕ)) (p : DeclarationId) (row : List ℕ) → AreRows fs ss ps rows → AreReferred fs ss p row → AreRows fs ss (ps ++ p ∷ []) (rows ++ row ∷ [])
edges_more fs ss ps rows p row h new =
    let one = length_push ps p in
    let other = length_push rows row in
    let long = h.long in
    record {
      long = omega (arith, one, other, long);
      each = λ n q r at there. each n q r there (get_either ps (p ∷ []) n q at);
    }
  where
    each : (n : ℕ) (q : DeclarationId) (r : List ℕ) → slice_get (rows ++ row ∷ []) n ≡ Some r → (slice_get ps n ≡ Some q) ⊎ ((j : ℕ) × (n ≡ length ps + j) × (slice_get (p ∷ []) j ≡ Some q)) → AreReferred fs ss q r
    each n q r there (inl old) =
        let inside = slice_get_within ps n q old in
        let long = h.long in
        let lt : n < length rows = omega (arith, inside, long) in
        let row_at = get_there rows n lt in
        let same = same_Some row_at.0 r (sym (get_left rows (row ∷ []) n row_at.0 row_at.1) ∙ there) in
        subst (AreReferred fs ss q) same (h.each n q row_at.0 old row_at.1)
    each n q r there (inr (j, is, at)) =
        let within = slice_get_within (p ∷ []) j q at in
        let first : j ≡ 0 = omega (arith, within) in
        let long = h.long in
        let number : n ≡ length rows + 0 = omega (arith, is, first, long) in
        let its = same_Some row r (sym (get_right rows (row ∷ []) 0 n number) ∙ there) in
        let here = same_Some p q (ap (slice_get (p ∷ [])) (sym first) ∙ at) in
        subst (λ (x : DeclarationId). AreReferred fs ss x r) here (subst (AreReferred fs ss p) its new)

weaker : (graph : List (List ℕ)) (first a b : ℕ) → Leads (IsEdgeFrom graph first) a b → Leads (IsEdge graph) a b
weaker graph first a b (step x y e) = step a b e.0
weaker graph first a b (further x y z e l) = further a y b e.0 (weaker graph first y b l)

pub refers_id : (fs : List File) (p q : DeclarationId) → Refers fs p q → HasDeclaration fs q
refers_id fs p q r = read_id fs r.file wanted.«Type» (texts r.file.src.now r.path) q r.means.0

module _ (fs : List File) (ps : List DeclarationId) (ss : List ℕ) (rows : List (List ℕ)) (numbered : AreNumbered fs ps ss) (all : AreRows fs ss ps rows) where
  record EdgeOf (a b : ℕ) : Type 0 where
    one : DeclarationId
    other : DeclarationId
    at : slice_get ps a ≡ Some one
    refers : Refers fs one other
    number_is : b ≡ number_of ss other

  edge_of : (a b : ℕ) → IsEdge rows a b → EdgeOf a b
  edge_of a b e =
      let within = slice_get_within rows a e.targets e.stands in
      let long = all.long in
      let lt : a < length ps = omega (arith, within, long) in
      let there = get_there ps a lt in
      let k = (all.each a there.0 e.targets there.1 e.stands b).0 e.among in
      record { one = there.0; other = k.other; at = there.1; refers = k.refers; number_is = k.number_is }

  number_within : (p : DeclarationId) → HasDeclaration fs p → number_of ss p < length rows
  number_within p h =
      let within = slice_get_within ps (number_of ss p) p (numbered.numbered p h) in
      let long = all.long in
      omega (arith, within, long)

  pub edge_within : (a b : ℕ) → IsEdge rows a b → b < length rows
  edge_within a b e =
      let k = edge_of a b e in
      subst (λ n. n < length rows) (sym k.number_is) (number_within k.other (refers_id fs k.one k.other k.refers))

  refers_edge : (n : ℕ) (p q : DeclarationId) → slice_get ps n ≡ Some p → Refers fs p q → IsEdge rows n (number_of ss q)
  refers_edge n p q at r =
      let within = slice_get_within ps n p at in
      let long = all.long in
      let lt : n < length rows = omega (arith, within, long) in
      let row = get_there rows n lt in
      let k : IsReferred fs ss p (number_of ss q) = record { other = q; refers = r; number_is = refl } in
      record { targets = row.0; stands = row.1; among = (all.each n p row.0 at row.1 (number_of ss q)).1 k }

  -- what aliases lead to they lead to in the graph
  pub leads_edges : (p q : DeclarationId) → Leads (Refers fs) p q → HasDeclaration fs p → Leads (IsEdge rows) (number_of ss p) (number_of ss q)
  leads_edges p q (step x y r) h = step (number_of ss p) (number_of ss q) (refers_edge (number_of ss p) p q (numbered.numbered p h) r)
  leads_edges p q (further x y z r l) h =
      further (number_of ss p) (number_of ss y) (number_of ss q) (refers_edge (number_of ss p) p y (numbered.numbered p h) r) (leads_edges y q l (refers_id fs p y r))

  edges_lead : (a b : ℕ) (p q : DeclarationId) → Leads (IsEdge rows) a b → slice_get ps a ≡ Some p → slice_get ps b ≡ Some q → Leads (Refers fs) p q
  edges_lead a b p q (step x y e) at_a at_b =
      let k = edge_of a b e in
      let one = same_Some k.one p (sym k.at ∙ at_a) in
      let there = numbered.numbered k.other (refers_id fs k.one k.other k.refers) in
      let other = same_Some k.other q (sym there ∙ ap (slice_get ps) (sym k.number_is) ∙ at_b) in
      step p q (subst (λ (r : DeclarationId). Refers fs r q) one (subst (Refers fs k.one) other k.refers))
  edges_lead a b p q (further x y z e l) at_a at_b =
      let k = edge_of a y e in
      let one = same_Some k.one p (sym k.at ∙ at_a) in
      let there = ap (slice_get ps) k.number_is ∙ numbered.numbered k.other (refers_id fs k.one k.other k.refers) in
      further p k.other q (subst (λ (r : DeclarationId). Refers fs r k.other) one k.refers) (edges_lead y b k.other q l there at_b)

  -- the alias of a cycle's first edge leads to itself
  pub first_back : (a b : ℕ) (p : DeclarationId) → IsFirstEdge rows a b → slice_get ps a ≡ Some p → Leads (Refers fs) p p
  first_back a b p e at = edges_lead a a p p (further a b a e.0 (weaker rows a b a e.1)) at at

  pub alias_order : (order : List ℕ) → IsOrder rows order → IsAliasOrder fs ss ps order
  alias_order order o = record {
    whole = λ p h. o.whole (number_of ss p) (number_within p h);
    after = λ k n p q at there r. o.after k n (number_of ss q) at (refers_edge n p q there r);
    points = λ n h. let within = o.points n h in let long = all.long in omega (arith, within, long);
  }

pub leading_alias : (fs : List File) (p q : DeclarationId) → Leads (Refers fs) p q → (f : File) × (a : AliasDeclaration) × IsAliasAt fs p f a
leading_alias fs p q (step x y r) = (r.file, r.alias, r.alias_at)
leading_alias fs p q (further x y z r l) = (r.file, r.alias, r.alias_at)
