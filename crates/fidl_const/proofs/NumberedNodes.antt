-- Declarations and members by their numbers, one file more at a time.
use Rattle.std.proofs.Common.{◌≡◌, ◌⊎◌, ◌<◌, ◌≤◌, ◌+◌, ℕ, zero, suc, List, [], ◌∷◌, ◌++◌, Option, Some, None, length, map, get_or, inl, inr, refl, ap, sym, subst, ◌∙◌, append_assoc, length-append, arith}
use Rattle.std.specs.Prelude.{slice_get}
use Rattle.std.specs.Global.{Vec}
use Rattle.std.proofs.Math.ListN.{length-map}
use Rattle.std.proofs.lemmas.List.{append-nil, length_push, get_or_push, get_or_append_left, map-append}
use Rattle.std.proofs.lemmas.Option.{slice_get_within, same_Some, none-some}
use Rattle.fidl_tree.specs.declared.file.File.{File}
use Rattle.fidl_tree.specs.declared.declaration.Declaration.{Declaration}
use Rattle.fidl_tree.specs.declared.declaration.DeclarationBody.{DeclarationBody}
use Rattle.fidl_tree.specs.declared.type_constructor.ValuesLayout.{ValuesLayout, out-ValuesLayout}
use Rattle.fidl_named.specs.declared.place.DeclarationId.{DeclarationId}
use Rattle.fidl_named.specs.declared.meaning.Predeclared.{Predeclared}
use Rattle.fidl_named.specs.declared.meaning.Meaning.{Meaning}
use Rattle.fidl_named.specs.declared.meaning.Meaning.TheVariants as meaning
use Rattle.fidl_named.specs.Constraints.{IsDeclarationAt}
use Rattle.fidl_named.proofs.FullNames.{at}
use Rattle.fidl_cycles.proofs.Trails.{same_or_not}
use Rattle.fidl_cycles.proofs.Lists.{get_left, get_right, get_either, get_there}
use Rattle.fidl_consts.specs.Types.{declared_values}
use Rattle.fidl_consts.specs.Dependencies.{IsKnownNode}
use Rattle.fidl_consts.specs.Tables.{number_of}
use Rattle.fidl_const.specs.Columns.{member_list, first_members, nodes_of, nodes_in, starts_in, file_of, AreNumbered}
use Rattle.fidl_consts.proofs.KnownNodes.{known_member, declared_node, member_node, no_predeclared, no_property_member, known_declaration}

-- The members of a declaration.

members_are : (body : DeclarationBody) (l : ValuesLayout) → declared_values body ≡ Some l → member_list body ≡ (out-ValuesLayout l).members.items
members_are body l e = rw e refl

no_members : (body : DeclarationBody) → declared_values body ≡ None → member_list body ≡ []
no_members body e = rw e refl

length_members : (of : DeclarationId) (n : ℕ) → length (first_members of n) ≡ n
length_members of zero = refl
length_members of (suc n) =
    let more = length_push (first_members of n) (meaning.Member of n) in
    let before = length_members of n in
    omega (arith, more, before)

member_there : (of : DeclarationId) (n i : ℕ) → i < n → slice_get (first_members of n) i ≡ Some (meaning.Member of i)
member_there of zero i lt = let no : ⊥ = omega (arith, lt) in absurd no
member_there of (suc n) i lt = elim (same_or_not i n) as (λ _. slice_get (first_members of (suc n)) i ≡ Some (meaning.Member of i)) [
  | inl same ↦
      let long = length_members of n in
      let last : i ≡ length (first_members of n) + 0 = omega (arith, same, long) in
      get_right (first_members of n) (meaning.Member of n ∷ []) 0 i last ∙ ap (λ k. Some (meaning.Member of k)) (sym same)
  | inr other ↦
      let less : i < n = omega (arith, lt, other) in
      get_left (first_members of n) (meaning.Member of n ∷ []) i (meaning.Member of i) (member_there of n i less)
]

member_only : (of : DeclarationId) (n i : ℕ) (m : Meaning) → slice_get (first_members of n) i ≡ Some m → (meaning.Member of i ≡ m) × (i < n)
member_only of n i m e =
    let within = slice_get_within (first_members of n) i m e in
    let long = length_members of n in
    let less : i < n = omega (arith, within, long) in
    (same_Some (meaning.Member of i) m (sym (member_there of n i less) ∙ e), less)

-- how many members a declaration has
abbrev count : Declaration → ℕ
count d = length (member_list d.body)

-- Those of one file.

module _ (k : ℕ) where
  node_at : (xs : List Meaning) (s j : ℕ) (ds : List Declaration) (i q : ℕ) (d : Declaration) → length xs ≡ s → q ≡ j + i → slice_get ds i ≡ Some d
      → (o : ℕ) (m : Meaning) → slice_get (nodes_of (at k q) (count d)) o ≡ Some m → slice_get (xs ++ nodes_in k j ds) (get_or (starts_in s ds) i 0 + o) ≡ Some m
  node_at xs s j [] i q d long is there o m e = absurd (none-some d there)
  node_at xs s j (x ∷ ds) zero q d long is there o m e =
      let same : x ≡ d = same_Some x d there in
      let place : j ≡ q = omega (arith, is) in
      let last : s + o ≡ length xs + o = omega (arith, long) in
      let here : slice_get (nodes_of (at k j) (count x)) o ≡ Some m =
      ap (λ n. slice_get (nodes_of (at k n) (count x)) o) place ∙ ap (λ (y : Declaration). slice_get (nodes_of (at k q) (count y)) o) same ∙ e in
      get_right xs (nodes_in k j (x ∷ ds)) o (s + o) last ∙ get_left (nodes_of (at k j) (count x)) (nodes_in k (suc j) ds) o m here
  node_at xs s j (x ∷ ds) (suc i) q d long is there o m e =
      let own = nodes_of (at k j) (count x) in
      let next : q ≡ suc j + i = omega (arith, is) in
      let whole = length-append xs own in
      let members = length_members (at k j) (count x) in
      let more : length (xs ++ own) ≡ s + 1 + count x = omega (arith, whole, members, long) in
      ap (λ l. slice_get l (get_or (starts_in (s + 1 + count x) ds) i 0 + o)) (sym (append_assoc xs own (nodes_in k (suc j) ds)))
      ∙ node_at (xs ++ own) (s + 1 + count x) (suc j) ds i q d more next there o m e

  node_in : (j : ℕ) (ds : List Declaration) (n : ℕ) (m : Meaning) → slice_get (nodes_in k j ds) n ≡ Some m
      → (i : ℕ) × (d : Declaration) × (o : ℕ) × (slice_get ds i ≡ Some d) × (slice_get (nodes_of (at k (j + i)) (count d)) o ≡ Some m)
  node_in j [] n m e = absurd (none-some m e)
  node_in j (x ∷ ds) n m e = either (get_either (nodes_of (at k j) (count x)) (nodes_in k (suc j) ds) n m e) (λ r h. node_in (suc j) ds r m h)
    where
      either : (slice_get (nodes_of (at k j) (count x)) n ≡ Some m) ⊎ ((r : ℕ) × (n ≡ length (nodes_of (at k j) (count x)) + r) × (slice_get (nodes_in k (suc j) ds) r ≡ Some m))
          → ((r : ℕ) → slice_get (nodes_in k (suc j) ds) r ≡ Some m → (i : ℕ) × (d : Declaration) × (o : ℕ) × (slice_get ds i ≡ Some d) × (slice_get (nodes_of (at k (suc j + i)) (count d)) o ≡ Some m))
          → (i : ℕ) × (d : Declaration) × (o : ℕ) × (slice_get (x ∷ ds) i ≡ Some d) × (slice_get (nodes_of (at k (j + i)) (count d)) o ≡ Some m)
      either (inl h) rest = let same : j ≡ j + 0 = omega arith in (0, x, n, refl, subst (λ i. slice_get (nodes_of (at k i) (count x)) n ≡ Some m) same h)
      either (inr (r, is, h)) rest =
          let it = rest r h in
          let same : suc j + it.0 ≡ j + suc it.0 = omega arith in
          (suc it.0, it.1, it.2, it.3, subst (λ i. slice_get (nodes_of (at k i) (count it.1)) it.2 ≡ Some m) same it.4)

  -- One declaration more.

  pub nodes_more : (j : ℕ) (ds : List Declaration) (q : ℕ) (d : Declaration) → q ≡ j + length ds → nodes_in k j (ds ++ d ∷ []) ≡ nodes_in k j ds ++ nodes_of (at k q) (count d)
  nodes_more j [] q d is =
      let same : j ≡ q = omega (arith, is) in
      append-nil (nodes_of (at k j) (count d)) ∙ ap (λ i. nodes_of (at k i) (count d)) same
  nodes_more j (x ∷ ds) q d is =
      let next : q ≡ suc j + length ds = omega (arith, is) in
      ap (λ l. nodes_of (at k j) (count x) ++ l) (nodes_more (suc j) ds q d next) ∙ sym (append_assoc (nodes_of (at k j) (count x)) (nodes_in k (suc j) ds) (nodes_of (at k q) (count d)))

  pub starts_more : (s j : ℕ) (ds : List Declaration) (d : Declaration) (n : ℕ) → n ≡ s + length (nodes_in k j ds) → starts_in s (ds ++ d ∷ []) ≡ starts_in s ds ++ n ∷ []
  starts_more s j [] d n is = let same : s ≡ n = omega (arith, is) in ap (λ i. i ∷ []) same
  starts_more s j (x ∷ ds) d n is =
      let whole = length-append (nodes_of (at k j) (count x)) (nodes_in k (suc j) ds) in
      let members = length_members (at k j) (count x) in
      let next : n ≡ s + 1 + count x + length (nodes_in k (suc j) ds) = omega (arith, is, whole, members) in
      ap (λ l. s ∷ l) (starts_more (s + 1 + count x) (suc j) ds d n next)

-- Those of a file of a set are known.

module _ (files : List File) (k : ℕ) (f : File) (is : slice_get files k ≡ Some f) (i : ℕ) (d : Declaration) (there : slice_get f.declarations.items i ≡ Some d) where
  stands : IsDeclarationAt files (at k i) f d
  stands = record { file_at = is; stands = there }

  its_member : (n : ℕ) → n < count d → (o : Option ValuesLayout) → declared_values d.body ≡ o → IsKnownNode files (meaning.Member (at k i) n)
  its_member n lt None e =
      let none = ap length (no_members d.body e) in
      let no : ⊥ = omega (arith, lt, none) in
      absurd no
  its_member n lt (Some l) e =
      let members = (out-ValuesLayout l).members.items in
      let less : n < length members = subst (λ xs. n < length xs) (members_are d.body l e) lt in
      let x = get_there members n less in
      known_member files (at k i) f l n x.0 (record { declaration = d; at = stands; is = e }) x.1

  known_at : (o : ℕ) (m : Meaning) → slice_get (nodes_of (at k i) (count d)) o ≡ Some m → IsKnownNode files m
  known_at zero m e = subst (IsKnownNode files) (same_Some (meaning.Declared (at k i)) m e) (known_declaration files (at k i) f d stands)
  known_at (suc n) m e =
      let only = member_only (at k i) (count d) n m e in
      subst (IsKnownNode files) only.0 (its_member n only.1 (declared_values d.body) refl)

-- the same of the files before one
pub record AreNumberedTo (files : List File) (k : ℕ) (nodes : List Meaning) (starts : List (Vec ℕ)) : Type 0 where
  pub long : length starts ≡ k
  pub node : (n : ℕ) (m : Meaning) → slice_get nodes n ≡ Some m → IsKnownNode files m
  pub numbered : (m : Meaning) → IsKnownNode files m → file_of m < k → slice_get nodes (number_of starts m) ≡ Some m

-- where the first of a declaration and its members is
abbrev start_of : List (Vec ℕ) → DeclarationId → ℕ
start_of starts p = get_or (get_or (map (λ v. v.items) starts) p.file []) p.index 0

module _ (files : List File) (k : ℕ) (ns : List Meaning) (ss : List (Vec ℕ)) (f : File) (row : Vec ℕ) (h : AreNumberedTo files k ns ss) (is : slice_get files k ≡ Some f)
    (row_is : row.items ≡ starts_in (length ns) f.declarations.items) where
  abbrev own : List Meaning
  own = nodes_in k 0 f.declarations.items

  abbrev more : List (Vec ℕ)
  more = ss ++ row ∷ []

  node_more : (n : ℕ) (m : Meaning) → slice_get (ns ++ own) n ≡ Some m → IsKnownNode files m
  node_more n m e = either (get_either ns own n m e)
    where
      either : (slice_get ns n ≡ Some m) ⊎ ((j : ℕ) × (n ≡ length ns + j) × (slice_get own j ≡ Some m)) → IsKnownNode files m
      either (inl old) = h.node n m old
      either (inr (j, place, new)) =
          let it = node_in k 0 f.declarations.items j m new in
          let same : 0 + it.0 ≡ it.0 = omega arith in
          known_at files k f is it.0 it.1 it.3 it.2 m (subst (λ i. slice_get (nodes_of (at k i) (count it.1)) it.2 ≡ Some m) same it.4)

  rows_more : map (λ (v : Vec ℕ). v.items) more ≡ map (λ (v : Vec ℕ). v.items) ss ++ row.items ∷ []
  rows_more = map-append (λ (v : Vec ℕ). v.items) ss (row ∷ [])

  long_rows : length (map (λ (v : Vec ℕ). v.items) ss) ≡ k
  long_rows = length-map ss (λ (v : Vec ℕ). v.items) ∙ h.long

  old_start : (p : DeclarationId) → p.file < k → start_of more p ≡ start_of ss p
  old_start p lt =
      let long = long_rows in
      let within : p.file < length (map (λ (v : Vec ℕ). v.items) ss) = omega (arith, lt, long) in
      ap (λ (rows : List (List ℕ)). get_or (get_or rows p.file []) p.index 0) rows_more
      ∙ ap (λ l. get_or l p.index 0) (get_or_append_left (map (λ (v : Vec ℕ). v.items) ss) (row.items ∷ []) [] p.file within)

  new_start : (p : DeclarationId) → p.file ≡ k → start_of more p ≡ get_or (starts_in (length ns) f.declarations.items) p.index 0
  new_start p here =
      ap (λ (rows : List (List ℕ)). get_or (get_or rows p.file []) p.index 0) rows_more
      ∙ ap (λ l. get_or l p.index 0) (get_or_push (map (λ (v : Vec ℕ). v.items) ss) row.items [] p.file (long_rows ∙ sym here) ∙ row_is)

  old_number : (m : Meaning) → file_of m < k → number_of more m ≡ number_of ss m
  old_number (meaning.Declared p) lt = old_start p lt
  old_number (meaning.Member p n) lt = ap (λ s. s + 1 + n) (old_start p lt)
  old_number (meaning.Predeclared n) lt = refl
  old_number (meaning.PropertyMember p n i) lt = refl

  new_at : (p : DeclarationId) (g : File) (d : Declaration) → IsDeclarationAt files p g d → p.file ≡ k → (o : ℕ) (m : Meaning) → slice_get (nodes_of (at k p.index) (count d)) o ≡ Some m → slice_get (ns ++ own) (start_of more p + o) ≡ Some m
  new_at p g d there here o m e =
      let file = same_Some g f (sym there.file_at ∙ ap (slice_get files) here ∙ is) in
      let stands = ap (λ (x : File). slice_get x.declarations.items p.index) (sym file) ∙ there.stands in
      let place : p.index ≡ 0 + p.index = omega arith in
      ap (λ s. slice_get (ns ++ own) (s + o)) (new_start p here) ∙ node_at k ns (length ns) 0 f.declarations.items p.index p.index d refl place stands o m e

  new_number : (m : Meaning) → IsKnownNode files m → file_of m ≡ k → slice_get (ns ++ own) (number_of more m) ≡ Some m
  new_number (meaning.Declared p) known here =
      let it = declared_node files p known in
      let first : start_of more p ≡ start_of more p + 0 = omega arith in
      ap (slice_get (ns ++ own)) first ∙ new_at p it.0 it.1 it.2 here 0 (meaning.Declared (at k p.index)) refl ∙ ap (λ n. Some (meaning.Declared (at n p.index))) (sym here)
  new_number (meaning.Member p n) known here =
      let it = member_node files p n known in
      let d = it.3.declaration in
      let within = slice_get_within (out-ValuesLayout it.1).members.items n it.2 it.4 in
      let less : n < count d = subst (λ xs. n < length xs) (sym (members_are d.body it.1 it.3.is)) within in
      let first : start_of more p + 1 + n ≡ start_of more p + suc n = omega arith in
      ap (slice_get (ns ++ own)) first
      ∙ new_at p it.0 d it.3.at here (suc n) (meaning.Member (at k p.index) n) (member_there (at k p.index) (count d) n less)
      ∙ ap (λ i. Some (meaning.Member (at i p.index) n)) (sym here)
  new_number (meaning.Predeclared n) known here = absurd (no_predeclared files n known)
  new_number (meaning.PropertyMember p n i) known here = absurd (no_property_member files p n i known)

  numbered_at : (m : Meaning) → IsKnownNode files m → file_of m < k + 1 → slice_get (ns ++ own) (number_of more m) ≡ Some m
  numbered_at m known lt = elim (same_or_not (file_of m) k) as (λ _. slice_get (ns ++ own) (number_of more m) ≡ Some m) [
    | inl here ↦ new_number m known here
    | inr other ↦
        let less : file_of m < k = omega (arith, lt, other) in
        ap (slice_get (ns ++ own)) (old_number m less) ∙ get_left ns own (number_of ss m) m (h.numbered m known less)
  ]

  pub numbered_more : AreNumberedTo files (k + 1) (ns ++ own) more
  numbered_more =
      let long = length_push ss row in
      let before = h.long in
      record {
        long = omega (arith, long, before);
        node = node_more;
        numbered = numbered_at;
      }

-- one that is known is in a file
file_within : (files : List File) (m : Meaning) → IsKnownNode files m → file_of m < length files
file_within files (meaning.Declared p) h = let it = declared_node files p h in slice_get_within files p.file it.0 it.2.file_at
file_within files (meaning.Member p n) h = let it = member_node files p n h in slice_get_within files p.file it.0 it.3.at.file_at
file_within files (meaning.Predeclared n) h = absurd (no_predeclared files n h)
file_within files (meaning.PropertyMember p n i) h = absurd (no_property_member files p n i h)

pub numbered_all : (files : List File) (k : ℕ) (ns : List Meaning) (ss : List (Vec ℕ)) → length files ≤ k → AreNumberedTo files k ns ss → AreNumbered files ns ss
numbered_all files k ns ss all h = record {
  node = h.node;
  numbered = λ m known.
      let within = file_within files m known in
      let less : file_of m < k = omega (arith, within, all) in
      h.numbered m known less;
}
