-- The full names of one declaration more.
use Rattle.std.proofs.Common.{◌≡◌, ℕ, ◌+◌, ◌<◌, List, [], ◌∷◌, ◌++◌, length, get_or, take, map, ap, sym, subst, ◌∙◌, inl, inr, arith, refl}
use Rattle.std.specs.Prelude.{slice_get, Some}
use Rattle.std.specs.List.{enumerate_from}
use Rattle.std.specs.Global.{Vec}
use Rattle.std.proofs.lemmas.List.{take_more, map-append, take-map}
use Rattle.std.proofs.Math.ListN.{get_or-map, length-map}
use Rattle.std.proofs.lemmas.List.FromFn.{get_or-enumerate_from, length-enumerate_from}
use Rattle.fidl_tree.specs.declared.file.File.{File}
use Rattle.fidl_tree.specs.declared.declaration.Declaration.{Declaration}
use Rattle.fidl_named.specs.declared.place.Place.{Place}
use Rattle.fidl_named.specs.declared.place.DeclarationId.{DeclarationId}
use Rattle.fidl_named.specs.declared.fault.NameFault.{NameFault}
use Rattle.fidl_named.specs.declared.fault.NameFault.TheVariants.{DuplicateName, UnknownLibrary, UnknownName, AmbiguousName, AliasCycle, ImportCycle, BadImport, Memory}
use Rattle.fidl_named.specs.Names.{full_name, declared, entries_of, place_in, IsOneOf, AreDistinct}
use Rattle.fidl_named.specs.NameMaps.{seen, names_of}
use Rattle.fidl_names.specs.TakenNames.{IsTaken}
use Rattle.fidl_names.specs.Refusals.{IsTrueOfAdding}

-- a name that is none of them may follow
pub distinct_more : (xs : List (List ℕ)) (x : List ℕ) → AreDistinct xs → (IsOneOf xs x → ⊥) → AreDistinct (xs ++ x ∷ [])
distinct_more [] x h new = ((λ h. absurd h), tt)
distinct_more (y ∷ ys) x h new = ((λ h'. others h'), distinct_more ys x h.1 (λ k. new (inr k)))
  where
    before : (zs : List (List ℕ)) → IsOneOf (zs ++ x ∷ []) y → (IsOneOf zs y → ⊥) → (x ≡ y → ⊥) → ⊥
    before [] (inl e) no_one other = other e
    before [] (inr k) no_one other = absurd k
    before (z ∷ zs) (inl e) no_one other = no_one (inl e)
    before (z ∷ zs) (inr k) no_one other = before zs k (λ m. no_one (inr m)) other

    others : IsOneOf (ys ++ x ∷ []) y → ⊥
    others k = before ys k h.0 (λ e. new (inl (sym e)))

pub names_more : (es : List (List ℕ × DeclarationId)) (e : List ℕ × DeclarationId) → names_of (es ++ e ∷ []) ≡ names_of es ++ e.0 ∷ []
names_more es e = map-append _ es (e ∷ [])

pub seen_more : (es : List (Vec ℕ × DeclarationId)) (name : Vec ℕ) (p : DeclarationId) → seen (es ++ (name, p) ∷ []) ≡ seen es ++ (name.items, p) ∷ []
seen_more es name p = map-append _ es ((name, p) ∷ [])

module _ (f : File) (number : ℕ) where
  abbrev entry : ℕ × Declaration → List ℕ × DeclarationId
  entry p = (full_name f p.1, record { file = number; index = p.0 })

  abbrev ds : List Declaration
  ds = f.declarations.items

  pub length-entries : length (entries_of f number) ≡ length ds
  length-entries = length-map (enumerate_from 0 ds) entry ∙ length-enumerate_from 0 ds

  pub entries_more : (i : ℕ) (d : Declaration) → i < length ds → d ≡ get_or ds i d → take (i + 1) (entries_of f number) ≡ take i (entries_of f number) ++ (full_name f d, record { file = number; index = i }) ∷ []
  entries_more i d lt is =
      let long = length-entries in
      let zero_more : 0 + i ≡ i = omega arith in
      let at : get_or (entries_of f number) i (entry (0, d)) ≡ entry (i, d) =
      get_or-map entry (enumerate_from 0 ds) i (0, d)
      ∙ ap entry (get_or-enumerate_from 0 ds i (0, d) lt)
      ∙ ap (λ n. entry (n, get_or ds i d)) zero_more
      ∙ ap (λ x. entry (i, x)) (sym is) in
      take_more (entries_of f number) i (entry (0, d)) (omega arith)
      ∙ ap (λ e. take i (entries_of f number) ++ e ∷ []) at

  names_from : (n : ℕ) (xs : List Declaration) → names_of (map entry (enumerate_from n xs)) ≡ map (full_name f) xs
  names_from n [] = refl
  names_from n (x ∷ xs) = ap (λ l. full_name f x ∷ l) (names_from (n + 1) xs)

  pub names_of-entries : names_of (entries_of f number) ≡ declared f
  names_of-entries = names_from 0 ds

  pub names_so_far : (i : ℕ) → names_of (take i (entries_of f number)) ≡ take i (declared f)
  names_so_far i = sym (take-map _ i (entries_of f number)) ∙ ap (take i) (names_from 0 ds)

  -- what a taken name says of the file
  pub reported_taken : (before : List (List ℕ)) (now : List (List ℕ × DeclarationId)) (i : ℕ) (d : Declaration) (name : List ℕ) (place : Place) (fault : NameFault)
      → slice_get ds i ≡ Some d → names_of now ≡ before ++ take i (declared f) → name ≡ full_name f d → place ≡ place_in number d
      → IsTaken now name place fault → IsTrueOfAdding before f number fault
  reported_taken before now i d name place (DuplicateName reported) at names is there h = record {
    index = i;
    declaration = d;
    stands = at;
    earlier = subst (λ n. IsOneOf (before ++ take i (declared f)) n) is (subst (λ l. IsOneOf l name) names h.1);
    place_is = h.0 ∙ there;
  }
  reported_taken before now i d name place (UnknownLibrary reported) at names is there h = absurd h
  reported_taken before now i d name place (UnknownName reported) at names is there h = absurd h
  reported_taken before now i d name place (AmbiguousName reported) at names is there h = absurd h
  reported_taken before now i d name place (AliasCycle reported) at names is there h = absurd h
  reported_taken before now i d name place (ImportCycle reported) at names is there h = absurd h
  reported_taken before now i d name place (BadImport reported) at names is there h = absurd h
  reported_taken before now i d name place Memory at names is there h = tt
