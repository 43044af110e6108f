-- Lists that have the same names.
use Rattle.std.proofs.Common.{◌≡◌, ℕ, List, [], ◌∷◌, ◌++◌, inl, inr, sym, subst}
use Rattle.std.specs.Prelude.{◌⊎◌}
use Rattle.std.specs.List.{AllByRecursion}
use Rattle.fidl_tree.specs.declared.file.File.{File}
use Rattle.fidl_tree.specs.declared.file.Import.{Import}
use Rattle.fidl_named.specs.declared.fault.NameFault.{NameFault}
use Rattle.fidl_named.specs.declared.fault.NameFault.TheVariants.{DuplicateName, UnknownLibrary, UnknownName, AmbiguousName, AliasCycle, ImportCycle, BadImport, Memory}
use Rattle.fidl_named.specs.Names.{IsOneOf, path_text}
use Rattle.fidl_names.specs.ImportRules.{ImportsAreKnown, IsTrueOfImports}
use Rattle.fidl_names.specs.TakenNames.{HaveSame}

module _ (n x : List ℕ) where
  pub before_last : (xs : List (List ℕ)) → IsOneOf xs x → IsOneOf (xs ++ n ∷ []) x
  before_last [] h = absurd h
  before_last (y ∷ ys) (inl e) = inl e
  before_last (y ∷ ys) (inr h) = inr (before_last ys h)

  pub the_last : (xs : List (List ℕ)) → n ≡ x → IsOneOf (xs ++ n ∷ []) x
  the_last [] e = inl e
  the_last (y ∷ ys) e = inr (the_last ys e)

  pub last_or_before : (xs : List (List ℕ)) → IsOneOf (xs ++ n ∷ []) x → IsOneOf xs x ⊎ (n ≡ x)
  last_or_before [] (inl e) = inr e
  last_or_before [] (inr h) = absurd h
  last_or_before (y ∷ ys) (inl e) = inl (inl e)
  last_or_before (y ∷ ys) (inr h) = further (last_or_before ys h)
    where
      further : IsOneOf ys x ⊎ (n ≡ x) → IsOneOf (y ∷ ys) x ⊎ (n ≡ x)
      further (inl k) = inl (inr k)
      further (inr e) = inr e

  pub with_last : (xs ys : List (List ℕ)) → (IsOneOf xs x → IsOneOf ys x) → IsOneOf (xs ++ n ∷ []) x → IsOneOf (ys ++ n ∷ []) x
  with_last xs ys h k = either (last_or_before xs k)
    where
      either : IsOneOf xs x ⊎ (n ≡ x) → IsOneOf (ys ++ n ∷ []) x
      either (inl m) = before_last ys (h m)
      either (inr e) = the_last ys e

  pub without_last : (xs : List (List ℕ)) → IsOneOf xs n → IsOneOf (xs ++ n ∷ []) x → IsOneOf xs x
  without_last xs h k = either (last_or_before xs k)
    where
      either : IsOneOf xs x ⊎ (n ≡ x) → IsOneOf xs x
      either (inl m) = m
      either (inr e) = subst (IsOneOf xs) e h

-- a name that is there changes nothing
pub same_there : (xs : List (List ℕ)) (n : List ℕ) → IsOneOf xs n → HaveSame xs (xs ++ n ∷ [])
same_there xs n h = λ x. (before_last n x xs, without_last n x xs h)

pub same_as : (xs ys : List (List ℕ)) → xs ≡ ys → HaveSame xs ys
same_as xs ys e = λ x. (subst (λ l. IsOneOf l x) e, subst (λ l. IsOneOf l x) (sym e))

-- one name more on both sides
pub same_more : (zs xs ys : List (List ℕ)) (n : List ℕ) → HaveSame xs ys → HaveSame zs (xs ++ n ∷ []) → HaveSame zs (ys ++ n ∷ [])
same_more zs xs ys n h k = λ x. (
  (λ m. with_last n x xs ys (h x).0 ((k x).0 m)),
  (λ m. (k x).1 (with_last n x ys xs (h x).1 m)),
)

-- what is said of imports by one list of libraries holds by another that has the same
pub known_by : (xs ys : List (List ℕ)) (f : File) → HaveSame xs ys → ImportsAreKnown xs f → ImportsAreKnown ys f
known_by xs ys f h = all f.imports.items
  where
    all : (is : List Import) → AllByRecursion (λ i. IsOneOf xs (path_text f.src.now i.path)) is → AllByRecursion (λ i. IsOneOf ys (path_text f.src.now i.path)) is
    all [] k = tt
    all (i ∷ is) k = ((h (path_text f.src.now i.path)).0 k.0, all is k.1)

pub reported_by : (xs ys : List (List ℕ)) (f : File) (number : ℕ) → HaveSame xs ys → (fault : NameFault) → IsTrueOfImports xs f number fault → IsTrueOfImports ys f number fault
reported_by xs ys f number h (UnknownLibrary place) k = record {
  index = k.index;
  an_import = k.an_import;
  stands = k.stands;
  unknown = λ m. k.unknown ((h (path_text f.src.now k.an_import.path)).1 m);
  place_is = k.place_is;
}
reported_by xs ys f number h (BadImport place) k = k
reported_by xs ys f number h (DuplicateName place) k = absurd k
reported_by xs ys f number h (UnknownName place) k = absurd k
reported_by xs ys f number h (AmbiguousName place) k = absurd k
reported_by xs ys f number h (AliasCycle place) k = absurd k
reported_by xs ys f number h (ImportCycle place) k = absurd k
reported_by xs ys f number h Memory k = tt
