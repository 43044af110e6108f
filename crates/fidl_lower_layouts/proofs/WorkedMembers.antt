-- Small members, for worked facts.
use Rattle.std.proofs.Common.{◌≡◌, ℕ, List, [], ◌∷◌, ◌++◌, inl, inr, ap, subst, arith}
use Rattle.std.specs.List.Sorted.{IsPermutation}
use Rattle.std.proofs.lemmas.List.Sorted.{length_permutation, Contains-permutation}
use Rattle.fidl_span.specs.declared.words.Span.{Span}
use Rattle.fidl_tree.specs.Leaf.{text_at}
use Rattle.fidl_tree.specs.Syntax.{Attribute, TypeUse, Member, named_member, ordinal_member}
use Rattle.fidl_tree.specs.declared.file.File.{File}
use Rattle.fidl_wire.specs.Term.{Term, no_rows, row}
use Rattle.fidl_lower_layouts.specs.Members.{FieldIs, RowIs, own_row, EachRow, RowsAre}
use Rattle.fidl_lower_layouts.proofs.Rising.{here, nothing_there, first_or_rest}

module _ (files : List File) (n : ℕ) (f : File) where
  pub field_name : (m : Member) (attributes : List Attribute) (name : Span) (t : TypeUse) (text : List ℕ) (e : Term) → m ≡ named_member attributes name t → FieldIs files n f m text e → text ≡ text_at f.src.now name
  field_name _ attributes name t _ _ is (FieldIs.named others other u e h) = let same : other ≡ name = cc in ap (text_at f.src.now) same

  pub no_field : (m : Member) (attributes : List Attribute) (ordinal name : Span) (t : TypeUse) (text : List ℕ) (e : Term) → m ≡ ordinal_member attributes ordinal name t → FieldIs files n f m text e → ⊥
  no_field _ attributes ordinal name t _ _ is (FieldIs.named others other u e h) = absurd (cc)

  pub no_row : (m : Member) (attributes : List Attribute) (name : Span) (t : TypeUse) (k : ℕ) (text : List ℕ) (e : Term) → m ≡ named_member attributes name t → RowIs files n f m k text e → ⊥
  no_row _ attributes name t _ _ _ is (RowIs.at others ordinal other u e low h) = absurd (cc)

  one_moved_alone : (m : Member) (ms : List Member) → IsPermutation (m ∷ []) ms → ms ≡ m ∷ []
  one_moved_alone m [] moved = let long = length_permutation (m ∷ []) [] moved in absurd (omega (arith, long))
  one_moved_alone m (w ∷ []) moved = elim (first_or_rest w [] m (Contains-permutation (m ∷ []) (w ∷ []) m moved (here m []))) [
    | inl e ↦ ap (λ (v : Member). v ∷ []) e
    | inr rest ↦ absurd (nothing_there m rest)
  ]
  one_moved_alone m (w ∷ v ∷ ms) moved = let long = length_permutation (m ∷ []) (w ∷ v ∷ ms) moved in absurd (omega (arith, long))

  -- the row of a member that stands alone
  pub only_row : (m : Member) (k : ℕ) (text : List ℕ) (e : Term) → own_row m ≡ m ∷ [] → RowsAre files n f (m ∷ []) (row k text e no_rows) → RowIs files n f m k text e
  only_row m k text e own h =
      let moved : IsPermutation (m ∷ []) h.members = subst (λ (l : List Member). IsPermutation l h.members) (ap (λ (l : List Member). l ++ []) own) h.same in
      (subst (λ (l : List Member). EachRow files n f l (row k text e no_rows)) (one_moved_alone m h.members moved) h.each).0

  pub none_moved : (ms : List Member) (k : ℕ) (text : List ℕ) (e : Term) → IsPermutation [] ms → EachRow files n f ms (row k text e no_rows) → ⊥
  none_moved [] k text e moved h = h
  none_moved (m ∷ ms) k text e moved h = let long = length_permutation [] (m ∷ ms) moved in absurd (omega (arith, long))
