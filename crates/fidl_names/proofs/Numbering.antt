-- Numbers of declarations, one file more at a time.
use Rattle.std.proofs.Common.{◌≡◌, ◌⊎◌, ◌<◌, ◌≤◌, ◌+◌, ℕ, zero, suc, List, [], ◌∷◌, ◌++◌, Some, length, get_or, inl, inr, refl, ap, sym, subst, ◌∙◌, arith}
use Rattle.std.specs.Prelude.{slice_get}
use Rattle.std.proofs.lemmas.List.{length_push, get_or_push, get_or_append_left}
use Rattle.std.proofs.lemmas.Option.{slice_get_within, none-some}
use Rattle.fidl_tree.specs.declared.file.File.{File}
use Rattle.fidl_named.specs.declared.place.DeclarationId.{DeclarationId}
use Rattle.fidl_named.specs.FullNames.{HasDeclaration}
use Rattle.fidl_names.specs.DeclarationNumbers.{ids_in, number_of, AreNumbered}
use Rattle.fidl_named.proofs.FullNames.{at}
use Rattle.fidl_cycles.proofs.Trails.{same_or_not}
use Rattle.fidl_cycles.proofs.Lists.{get_left, get_right, get_either, get_there}

pub length_in : (file n : ℕ) → length (ids_in file n) ≡ n
length_in file zero = refl
length_in file (suc n) =
    let more = length_push (ids_in file n) (at file n) in
    let before = length_in file n in
    omega (arith, more, before)

get_in : (file n i : ℕ) → i < n → slice_get (ids_in file n) i ≡ Some (at file i)
get_in file zero i lt = let no : ⊥ = omega (arith, lt) in absurd no
get_in file (suc n) i lt = elim (same_or_not i n) as (λ _. slice_get (ids_in file (suc n)) i ≡ Some (at file i)) [
  | inl same ↦
      let long = length_in file n in
      let last : i ≡ length (ids_in file n) + 0 = omega (arith, same, long) in
      get_right (ids_in file n) (at file n ∷ []) 0 i last ∙ ap (λ k. Some (at file k)) (sym same)
  | inr other ↦
      let less : i < n = omega (arith, lt, other) in
      get_left (ids_in file n) (at file n ∷ []) i (at file i) (get_in file n i less)
]

only_in : (file n i : ℕ) (p : DeclarationId) → slice_get (ids_in file n) i ≡ Some p → (p ≡ at file i) × (i < n)
only_in file n i p e =
    let within = slice_get_within (ids_in file n) i p e in
    let long = length_in file n in
    let less : i < n = omega (arith, within, long) in
    let both : Some (at file i) ≡ Some p = sym (get_in file n i less) ∙ e in
    ((cc), less)

-- the same of the files before one
pub record AreNumberedTo (files : List File) (k : ℕ) (ids : List DeclarationId) (starts : List ℕ) : Type 0 where
  pub long : length starts ≡ k
  pub declared : (n : ℕ) (p : DeclarationId) → slice_get ids n ≡ Some p → HasDeclaration files p
  pub numbered : (p : DeclarationId) → HasDeclaration files p → p.file < k → slice_get ids (number_of starts p) ≡ Some p

pub numbered_none : (files : List File) → AreNumberedTo files 0 [] []
numbered_none files = record {
  long = refl;
  declared = λ n p e. absurd (none-some p e);
  numbered = λ p h lt. let no : ⊥ = omega (arith, lt) in absurd no;
}

module _ (files : List File) (k : ℕ) (ps : List DeclarationId) (ss : List ℕ) (f : File) (h : AreNumberedTo files k ps ss) (is : slice_get files k ≡ Some f) where
  abbrev count : ℕ
  count = length f.declarations.items

  new_declared : (n : ℕ) (p : DeclarationId) → slice_get (ids_in k count) n ≡ Some p → HasDeclaration files p
  new_declared n p e =
      let only = only_in k count n p e in
      let there = get_there f.declarations.items n only.1 in
      let here : HasDeclaration files (at k n) = record { file = f; declaration = there.0; file_at = is; stands = there.1 } in
      subst (HasDeclaration files) (sym only.0) here

  declared_more : (n : ℕ) (p : DeclarationId) → slice_get (ps ++ ids_in k count) n ≡ Some p → HasDeclaration files p
  declared_more n p e = either (get_either ps (ids_in k count) n p e)
    where
      either : (slice_get ps n ≡ Some p) ⊎ ((j : ℕ) × (n ≡ length ps + j) × (slice_get (ids_in k count) j ≡ Some p)) → HasDeclaration files p
      either (inl old) = h.declared n p old
      either (inr (j, at_j, new)) = new_declared j p new

  old_number : (p : DeclarationId) → HasDeclaration files p → p.file < k → slice_get (ps ++ ids_in k count) (number_of (ss ++ length ps ∷ []) p) ≡ Some p
  old_number p there lt =
      let long = h.long in
      let within : p.file < length ss = omega (arith, lt, long) in
      let same = ap (λ n. n + p.index) (get_or_append_left ss (length ps ∷ []) 0 p.file within) in
      ap (slice_get (ps ++ ids_in k count)) same ∙ get_left ps (ids_in k count) (number_of ss p) p (h.numbered p there lt)

  new_number : (p : DeclarationId) → HasDeclaration files p → p.file ≡ k → slice_get (ps ++ ids_in k count) (number_of (ss ++ length ps ∷ []) p) ≡ Some p
  new_number p there here =
      let files_is : Some there.file ≡ Some f = sym there.file_at ∙ ap (slice_get files) here ∙ is in
      let file : there.file ≡ f = cc in
      let within = slice_get_within there.file.declarations.items p.index there.declaration there.stands in
      let less : p.index < count = subst (λ (g : File). p.index < length g.declarations.items) file within in
      let start : get_or (ss ++ length ps ∷ []) p.file 0 ≡ length ps = get_or_push ss (length ps) 0 p.file (h.long ∙ sym here) in
      let number : number_of (ss ++ length ps ∷ []) p ≡ length ps + p.index = ap (λ n. n + p.index) start in
      get_right ps (ids_in k count) p.index (number_of (ss ++ length ps ∷ []) p) number
      ∙ get_in k count p.index less ∙ ap (λ n. Some (at n p.index)) (sym here)

  numbered_more_at : (p : DeclarationId) → HasDeclaration files p → p.file < k + 1 → slice_get (ps ++ ids_in k count) (number_of (ss ++ length ps ∷ []) p) ≡ Some p
  numbered_more_at p there lt = elim (same_or_not p.file k) as (λ _. slice_get (ps ++ ids_in k count) (number_of (ss ++ length ps ∷ []) p) ≡ Some p) [
    | inl here ↦ new_number p there here
    | inr other ↦ let less : p.file < k = omega (arith, lt, other) in old_number p there less
  ]

  pub numbered_more : AreNumberedTo files (k + 1) (ps ++ ids_in k count) (ss ++ length ps ∷ [])
  numbered_more =
      let long = length_push ss (length ps) in
      let before = h.long in
      record {
        long = omega (arith, long, before);
        declared = declared_more;
        numbered = numbered_more_at;
      }

pub numbered_all : (files : List File) (k : ℕ) (ps : List DeclarationId) (ss : List ℕ) → length files ≤ k → AreNumberedTo files k ps ss → AreNumbered files ps ss
numbered_all files k ps ss all h = record {
  long = let long = h.long in omega (arith, long, all);
  declared = h.declared;
  numbered = λ p there.
      let within = slice_get_within files p.file there.file there.file_at in
      let less : p.file < k = omega (arith, within, all) in
      h.numbered p there less;
}
