-- Facts of scopes hold in one way only: what ghost fields need, and nothing of the language.
use Rattle.std.specs.Prelude.{ℕ, ◌≡◌, List, [], ◌∷◌, Some, map, slice_get}
use Rattle.std.specs.List.{AllByRecursion}
use Rattle.std.specs.Coded.{Coded-set, coded_option, ×_prop, Π_prop, →_prop, Unit-prop}
use Rattle.fidl_tree.specs.contracts.file.File as file
use Rattle.fidl_tree.specs.declared.file.File.{File}
use Rattle.fidl_named.specs.Names.{AreDistinct}
use Rattle.fidl_named.specs.Imports.{visible, ImportsAreApart}
use Rattle.fidl_named.specs.Meanings.{MembersDiffer, member_names}
use Rattle.fidl_named.specs.StoredFiles.{any_lifetime}

distinct_once : (names : List (List ℕ)) → IsProp (AreDistinct names)
distinct_once [] = Unit-prop
distinct_once (x ∷ xs) = ×_prop (→_prop (λ one other. absurd one)) (distinct_once xs)

-- that imports are apart, in each file
pub is_apart_once : (files : List File) → IsProp (AllByRecursion ImportsAreApart files)
is_apart_once [] = Unit-prop
is_apart_once (f ∷ fs) = ×_prop (distinct_once (map (λ v. v.0) (visible f))) (is_apart_once fs)

-- that members differ
pub differ_once : (files : List File) → IsProp (MembersDiffer files)
differ_once files =
    Π_prop (λ full. Π_prop (λ p. Π_prop (λ f. Π_prop (λ d. →_prop
    (distinct_once (member_names f d))))))

-- that a file stands there
pub once : (files : List File) (n : ℕ) (f : File) → IsProp (slice_get files n ≡ Some f)
once files n f =
    Coded-set (coded_option (file.the_row any_lifetime).coded) (slice_get files n) (Some f)
