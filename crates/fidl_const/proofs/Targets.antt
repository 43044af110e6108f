-- The graph of what values depend on: its rows, one name and one node at a time.
use Rattle.std.proofs.Common.{◌≡◌, ◌⊎◌, ◌<◌, ℕ, zero, suc, List, [], ◌∷◌, ◌++◌, Some, length, inl, inr, refl, ap, sym, subst, arith}
use Rattle.std.specs.Prelude.{slice_get}
use Rattle.std.specs.List.{Contains}
use Rattle.std.specs.Global.{Vec}
use Rattle.std.proofs.lemmas.List.{length_push}
use Rattle.std.proofs.lemmas.List.Elements.{Contains-push, Contains-push_cases, Contains-append_left}
use Rattle.std.proofs.lemmas.Option.{slice_get_within, none-some}
use Rattle.fidl_tree.specs.Syntax.{Path}
use Rattle.fidl_tree.specs.declared.file.File.{File}
use Rattle.fidl_named.specs.declared.place.Place.{Place}
use Rattle.fidl_named.specs.declared.meaning.Wanted.{Wanted}
use Rattle.fidl_named.specs.declared.meaning.Meaning.{Meaning}
use Rattle.fidl_named.specs.Meanings.{Means}
use Rattle.fidl_named.specs.Paths.{texts}
use Rattle.fidl_consts.specs.Dependencies.{IsNode, IsKnownNode, Uses, DependsOn}
use Rattle.fidl_consts.specs.Tables.{number_of}
use Rattle.fidl_const.specs.Columns.{file_of, AreNames, IsTarget, AreTargets, AreRows}

-- one name more
module _ (fs : List File) (f : File) (ss : List (Vec ℕ)) (us : List (Wanted × Path)) (kind : Wanted) (path : Path) (row : List ℕ) (h : AreTargets fs f ss us row) where
  later : (t : ℕ) → IsTarget fs f ss us t → IsTarget fs f ss (us ++ (kind, path) ∷ []) t
  later t k = record { kind = k.kind; path = k.path; meant = k.meant; among = Contains-append_left us ((kind, path) ∷ []) (k.kind, k.path) k.among; means = k.means; node = k.node; number = k.number }

  -- what a name means, where it is the last
  last_meant : (k : Wanted) (p : Path) (m : Meaning) → Contains (us ++ (kind, path) ∷ []) (k, p) → Means fs f k (texts f.src.now p) m → Contains us (k, p) ⊎ Means fs f kind (texts f.src.now path) m
  last_meant k p m among means = either (Contains-push_cases us (kind, path) (k, p) among)
    where
      either : Contains us (k, p) ⊎ ◌≡◌ {A = Wanted × Path} (kind, path) (k, p) → Contains us (k, p) ⊎ Means fs f kind (texts f.src.now path) m
      either (inl old) = inl old
      either (inr same) = inr (subst (λ (x : Wanted × Path). Means fs f x.0 (texts f.src.now x.1) m) (sym same) means)

  pub target_none : ((m : Meaning) → Means fs f kind (texts f.src.now path) m → IsKnownNode fs m → ⊥) → AreTargets fs f ss (us ++ (kind, path) ∷ []) row
  target_none none = record {
    all = λ k p m among means node. either m node (last_meant k p m among means) (λ old. h.all k p m old means node);
    just = λ t there. later t (h.just t there);
  }
    where
      either : {P : Type 0} {Q : Type 0} (m : Meaning) → IsKnownNode fs m → P ⊎ Means fs f kind (texts f.src.now path) m → (P → Q) → Q
      either m node (inl old) to = to old
      either m node (inr means) to = absurd (none m means node)

  pub target_more : (q : Meaning) → Means fs f kind (texts f.src.now path) q → IsKnownNode fs q → AreTargets fs f ss (us ++ (kind, path) ∷ []) (row ++ number_of ss q ∷ [])
  target_more q means_q node_q = record {
    all = λ k p m among means node. either m (last_meant k p m among means) (λ old. h.all k p m old means node);
    just = λ t there. back t (Contains-push_cases row (number_of ss q) t there);
  }
    where
      either : {P : Type 0} (m : Meaning) → P ⊎ Means fs f kind (texts f.src.now path) m → (P → Contains row (number_of ss m)) → Contains (row ++ number_of ss q ∷ []) (number_of ss m)
      either m (inl old) to = Contains-append_left row (number_of ss q ∷ []) (number_of ss m) (to old)
      either m (inr means) to = subst (λ x. Contains (row ++ number_of ss q ∷ []) (number_of ss x)) (sym (means_q.1 m means.0)) (Contains-push row (number_of ss q))

      back : (t : ℕ) → Contains row t ⊎ (number_of ss q ≡ t) → IsTarget fs f ss (us ++ (kind, path) ∷ []) t
      back t (inl old) = later t (h.just t old)
      back t (inr is) = record { kind = kind; path = path; meant = q; among = Contains-push us (kind, path); means = means_q; node = node_q; number = sym is }

-- a declaration or a member stands in its file
pub node_file : (fs : List File) (m : Meaning) (f : File) (place : Place) → IsNode fs m f place → slice_get fs (file_of m) ≡ Some f
node_file fs m f place (IsNode.declaration p g d at) = at.file_at
node_file fs m f place (IsNode.member p g l i v here there) = here.at.file_at

-- so do the names on which it depends
uses_file : (fs : List File) (m : Meaning) (f : File) (kind : Wanted) (path : Path) → Uses fs m f kind path → slice_get fs (file_of m) ≡ Some f
uses_file fs m f kind path (Uses.declaration p g d _ _ at body) = at.file_at
uses_file fs m f kind path (Uses.member p g l i v _ here there among) = here.at.file_at

pub uses_node : (fs : List File) (m : Meaning) (f : File) (kind : Wanted) (path : Path) → Uses fs m f kind path → IsKnownNode fs m
uses_node fs m f kind path (Uses.declaration p g d _ _ at body) = record { file = g; place = _; is = IsNode.declaration p g d at }
uses_node fs m f kind path (Uses.member p g l i v _ here there among) = record { file = g; place = _; is = IsNode.member p g l i v here there }

pub node_within : (fs : List File) (m : Meaning) → IsKnownNode fs m → file_of m < length fs
node_within fs m k = slice_get_within fs (file_of m) k.file (node_file fs m k.file k.place k.is)

-- the numbers of just those on which a declaration or a member depends
pub record IsRow (fs : List File) (ss : List (Vec ℕ)) (one : Meaning) (row : List ℕ) : Type 0 where
  pub all : (other : Meaning) → DependsOn fs one other → Contains row (number_of ss other)
  pub just : (t : ℕ) → Contains row t → (other : Meaning) × (DependsOn fs one other × (t ≡ number_of ss other))

-- they are what its names mean
pub row_of_targets : (fs : List File) (ss : List (Vec ℕ)) (one : Meaning) (us : List (Wanted × Path)) (row : List ℕ) → IsKnownNode fs one
    → ((f : File) → slice_get fs (file_of one) ≡ Some f → AreNames (Uses fs one f) us)
    → ((f : File) → slice_get fs (file_of one) ≡ Some f → AreTargets fs f ss us row) → IsRow fs ss one row
row_of_targets fs ss one us row known names targets = record {
  all = λ other h.
      let at = uses_file fs one h.file h.kind h.path h.uses in
      (targets h.file at).all h.kind h.path other ((names h.file at).all h.kind h.path h.uses) h.means h.target;
  just = λ t there.
      let at = node_file fs one known.file known.place known.is in
      let k = (targets known.file at).just t there in
      let uses : Uses fs one known.file k.kind k.path = (names known.file at).just k.kind k.path k.among in
      let depends : DependsOn fs one k.meant = record { file = known.file; kind = k.kind; path = k.path; uses = uses; means = k.means; target = k.node } in
      (k.meant, (depends, k.number));
}

-- of what stands in a list with one more at its end, that it is the last, or stands in the list
same_at : {X : Type 0} (xs : List X) (y : X) (n : ℕ) (x : X) → slice_get (xs ++ y ∷ []) n ≡ Some x → (slice_get xs n ≡ Some x) ⊎ ((n ≡ length xs) × (x ≡ y))
same_at [] y zero x is = let same : x ≡ y = cc in inr (refl, same)
same_at [] y (suc n) x is = absurd (none-some x is)
same_at (z ∷ xs) y zero x is = inl is
same_at (z ∷ xs) y (suc n) x is = one_on (same_at xs y n x is)
  where
    one_on : (slice_get xs n ≡ Some x) ⊎ ((n ≡ length xs) × (x ≡ y)) → (slice_get xs n ≡ Some x) ⊎ ((suc n ≡ suc (length xs)) × (x ≡ y))
    one_on (inl h) = inl h
    one_on (inr h) = inr (ap suc h.0, h.1)

-- one row more
module _ (fs : List File) (ss : List (Vec ℕ)) (nodes : List Meaning) (graph : List (List ℕ)) (one : Meaning) (row : List ℕ) (old : AreRows fs nodes ss graph) (new : IsRow fs ss one row) where
  row_there : (n : ℕ) (m : Meaning) (r : List ℕ) → slice_get (nodes ++ one ∷ []) n ≡ Some m → slice_get (graph ++ row ∷ []) n ≡ Some r → IsRow fs ss m r
  row_there n m r at there = either (same_at nodes one n m at) (same_at graph row n r there)
    where
      long : length graph ≡ length nodes
      long = old.long

      either : (slice_get nodes n ≡ Some m) ⊎ ((n ≡ length nodes) × (m ≡ one)) → (slice_get graph n ≡ Some r) ⊎ ((n ≡ length graph) × (r ≡ row)) → IsRow fs ss m r
      either (inl a) (inl b) = record { all = λ other h. old.all n m other r a b h; just = λ t h. old.just n m r t a b h }
      either (inl a) (inr b) = let within = slice_get_within nodes n m a in let last = b.0 in let l = long in let never : ⊥ = omega (arith, within, last, l) in absurd never
      either (inr a) (inl b) = let within = slice_get_within graph n r b in let last = a.0 in let l = long in let never : ⊥ = omega (arith, within, last, l) in absurd never
      either (inr a) (inr b) = subst (λ (x : Meaning). IsRow fs ss x r) (sym a.1) (subst (IsRow fs ss one) (sym b.1) new)

  pub rows_more : AreRows fs (nodes ++ one ∷ []) ss (graph ++ row ∷ [])
  rows_more =
      let long = old.long in
      let a = length_push nodes one in
      let b = length_push graph row in
      record {
        long = omega (arith, long, a, b);
        all = λ n m other r at there h. (row_there n m r at there).all other h;
        just = λ n m r t at there h. (row_there n m r at there).just t h;
      }
