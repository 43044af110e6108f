-- Files of which a refusal is true don't resolve.
use Rattle.std.proofs.Common.{◌≡◌, ℕ, zero, suc, List, [], ◌∷◌, ◌++◌, Option, Some, None, map, take, length, refl, ap, sym, subst, ◌∙◌, inl, inr}
use Rattle.std.specs.Prelude.{flat_map, slice_get}
use Rattle.std.specs.Option.{option_map}
use Rattle.std.specs.List.{AllByRecursion, Contains}
use Rattle.std.proofs.lemmas.List.{map-append, append-nil, append_assoc}
use Rattle.std.proofs.lemmas.Option.{slice_get-map, slice_get_read}
use Rattle.fidl_span.specs.declared.words.Span.{Span}
use Rattle.fidl_tree.specs.Leaf.{text_at}
use Rattle.fidl_tree.specs.Syntax as plain
use Rattle.fidl_tree.specs.Views.{file_view, declared_view}
use Rattle.fidl_tree.specs.declared.file.File.{File}
use Rattle.fidl_tree.specs.declared.file.Import.{Import}
use Rattle.fidl_tree.specs.declared.declaration.Declaration.{Declaration}
use Rattle.fidl_named.specs.declared.place.Place.{Place}
use Rattle.fidl_named.specs.declared.fault.NameFault.{NameFault}
use Rattle.fidl_named.specs.declared.fault.NameFault.TheVariants.{DuplicateName, UnknownLibrary, UnknownName, AmbiguousName, AliasCycle, ImportCycle, BadImport, Memory}
use Rattle.fidl_named.specs.declared.meaning.Wanted.{Wanted}
use Rattle.fidl_named.specs.declared.meaning.Wanted.TheVariants as wanted
use Rattle.fidl_named.specs.declared.meaning.Meaning.{Meaning}
use Rattle.fidl_named.specs.Names.{IsOneOf, AreDistinct, library_of, path_text}
use Rattle.fidl_named.specs.Imports.{import_names, visible_by, ImportsAreApart}
use Rattle.fidl_names.specs.ImportRules.{taken_names, libraries_of, ImportsAreKnown, ImportsNothing, RepeatsImport}
use Rattle.fidl_named.specs.Meanings.{Means}
use Rattle.fidl_named.specs.NameMaps.{names_of}
use Rattle.fidl_named.specs.Paths.{texts}
use Rattle.fidl_named.specs.Paths.{IsTrueOfPath}
use Rattle.fidl_named.specs.Aliases.{IsArrayName, ResolvesTo}
use Rattle.fidl_named.specs.Places.{NamePlace, value_paths, body_places}
use Rattle.fidl_named.specs.Constraints.{item_kind, ItemMeans, NameOfItemFails, NameOfValueFails, ValueMeans, name_or_value, name_or_value_fails, path_alone, ItemsHold, ItemsFail}
use Rattle.fidl_names.specs.MemberLists.{RepeatsMember, DistinctMembers, ListsDiffer, NamesDiffer, body_lists}
use Rattle.fidl_names.specs.Refusals.{IsTrueOfOne}
use Rattle.fidl_names.specs.Resolved.{PlaceHolds, PlaceFails, NameFails, NamesHold, DeclarationHolds, IsTrueOfResolving, Resolves}
use Rattle.fidl_named.proofs.AliasFacts.{one_wanted}
use Rattle.fidl_named.proofs.ResolvedMeanings.{one_resolved}
use Rattle.fidl_cycles.proofs.Lists.{all_get as all_at}
use Rattle.fidl_named.proofs.Members.{place_among}
use Rattle.fidl_named.proofs.FullNames.{entry_among}
use Rattle.fidl_names.proofs.Seeing.{names_of-visible}

-- what holds of all holds of each
all_among : {X : Type 0} (P : X → Type 0) (xs : List X) (x : X) → AllByRecursion P xs → Contains xs x → P x
all_among P xs x all h = all_at P xs h.0 x all (slice_get_read xs (length xs) h.0 x refl h.1 (sym h.2))

-- Names that differ.

among_front : (xs ys : List (List ℕ)) (n : List ℕ) → IsOneOf xs n → IsOneOf (xs ++ ys) n
among_front [] ys n h = absurd h
among_front (x ∷ xs) ys n (inl is) = inl is
among_front (x ∷ xs) ys n (inr h) = inr (among_front xs ys n h)

among_back : (xs ys : List (List ℕ)) (n : List ℕ) → IsOneOf ys n → IsOneOf (xs ++ ys) n
among_back [] ys n h = h
among_back (x ∷ xs) ys n h = inr (among_back xs ys n h)

apart : (xs ys : List (List ℕ)) (n : List ℕ) → AreDistinct (xs ++ ys) → IsOneOf xs n → IsOneOf ys n → ⊥
apart [] ys n h one other = one
apart (x ∷ xs) ys n h (inl is) other = h.0 (subst (IsOneOf (xs ++ ys)) (sym is) (among_back xs ys n other))
apart (x ∷ xs) ys n h (inr one) other = apart xs ys n h.1 one other

not_before : (ns : List (List ℕ)) (i : ℕ) (n : List ℕ) → AreDistinct ns → slice_get ns i ≡ Some n → IsOneOf (take i ns) n → ⊥
not_before [] i n h at before = absurd (cc)
not_before (x ∷ ns) zero n h at before = before
not_before (x ∷ ns) (suc i) n h at (inl is) = h.0 (subst (IsOneOf ns) (sym is) (place_among ns i n at))
not_before (x ∷ ns) (suc i) n h at (inr before) = not_before ns i n h.1 at before

-- the names of an item are none of those before it
not_taken : {X : Type 0} (g : X → List (List ℕ)) (taken : List (List ℕ)) (xs : List X) (i : ℕ) (x : X) (n : List ℕ) → AreDistinct (taken ++ flat_map g xs) → slice_get xs i ≡ Some x → IsOneOf (g x) n
    → IsOneOf (taken ++ flat_map g (take i xs)) n → ⊥
not_taken g taken [] i x n h at its before = absurd (cc)
not_taken g taken (y ∷ xs) zero x n h at its before =
    let same : y ≡ x = cc in
    apart taken (g y ++ flat_map g xs) n h (subst (λ l. IsOneOf l n) (append-nil taken) before) (among_front (g y) (flat_map g xs) n (subst (λ z. IsOneOf (g z) n) (sym same) its))
not_taken g taken (y ∷ xs) (suc i) x n h at its before =
    not_taken g (taken ++ g y) xs i x n (subst AreDistinct (sym (append_assoc taken (g y) (flat_map g xs))) h) at its
    (subst (λ l. IsOneOf l n) (sym (append_assoc taken (g y) (flat_map g (take i xs)))) before)

-- the names that an import takes
abbrev own_taken : List ℕ → Import → List (List ℕ)
own_taken src i = names_of (import_names src i)

each_taken : (src : List ℕ) (is : List Import) → taken_names src is ≡ flat_map (own_taken src) is
each_taken src [] = refl
each_taken src (i ∷ is) =
    map-append (λ (n : List ℕ × Span). n.0) (import_names src i) (flat_map (import_names src) is) ∙ ap (λ l. own_taken src i ++ l) (each_taken src is)

no_member : (f : plain.File) (span : Span) → RepeatsMember f span → DistinctMembers f → ⊥
no_member f span r all =
    let src = f.source in
    let lists : ListsDiffer src r.declaration = all_among (ListsDiffer src) f.declarations r.declaration all r.among in
    let names = r.repeats.names in
    let differ : NamesDiffer src names = all_among (NamesDiffer src) (body_lists r.declaration.body) names lists r.repeats.list in
    let n = r.repeats.repeats in
    not_before (map (text_at src) names) n.index (text_at src span) differ (slice_get-map (text_at src) names n.index ∙ ap (option_map (text_at src)) n.stands) n.earlier

no_library : (libraries : List (List ℕ)) (f : File) (number : ℕ) (place : Place) → ImportsNothing libraries f number place → ImportsAreKnown libraries f → ⊥
no_library libraries f number place r all = r.unknown (all_at (λ (i : Import). IsOneOf libraries (path_text f.src.now i.path)) f.imports.items r.index r.an_import all r.stands)

no_import : (f : File) (number : ℕ) (place : Place) → RepeatsImport f number place → ImportsAreApart f → ⊥
no_import f number place r all =
    let src = f.src.now in
    let is = f.imports.items in
    let names : names_of (flat_map (visible_by src) is) ≡ flat_map (own_taken src) is = names_of-visible src is ∙ each_taken src is in
    let differ : AreDistinct (library_of f ∷ flat_map (own_taken src) is) = subst (λ l. AreDistinct (library_of f ∷ l)) names all in
    let taken = subst (λ l. IsOneOf (library_of f ∷ l) r.repeats.name) (each_taken src (take r.index is)) r.repeats.is_taken in
    not_taken (own_taken src) (library_of f ∷ []) is r.index r.an_import r.repeats.name differ r.stands (entry_among (import_names src r.an_import) r.repeats.name r.repeats.span r.repeats.its) taken

-- Names in the files.

module _ (files : List File) (fault : NameFault) (other : fault ≡ Memory → ⊥) where
  no_path : (f : File) (n : ℕ) (kind : Wanted) (p : plain.Path) (m : Meaning) → IsTrueOfPath files f n kind p fault → Means files f kind (texts f.src.now p) m → ⊥
  no_path f n kind p m = by_fault fault refl
    where
      by_fault : (x : NameFault) → fault ≡ x → IsTrueOfPath files f n kind p x → Means files f kind (texts f.src.now p) m → ⊥
      by_fault (UnknownName place) is h means = h.0 m means.0
      by_fault (AmbiguousName place) is h means = h.0.differ (means.1 h.0.one h.0.first ∙ sym (means.1 h.0.other h.0.second))
      by_fault Memory is h means = other is
      by_fault (DuplicateName place) is h means = h
      by_fault (UnknownLibrary place) is h means = h
      by_fault (AliasCycle place) is h means = h
      by_fault (ImportCycle place) is h means = h
      by_fault (BadImport place) is h means = h

  no_value : (f : File) (n : ℕ) (v : plain.Value) → NameOfValueFails files f n v fault → ValueMeans files f v → ⊥
  no_value f n v fails holds =
      let meant = all_among (λ p. (m : Meaning) × Means files f wanted.Value (texts f.src.now p) m) (value_paths v) fails.path holds fails.among in
      no_path f n wanted.Value fails.path meant.0 fails.fails meant.1

  no_item_name : (f : File) (n : ℕ) (end : Option Meaning) (rank : ℕ) (p : plain.Path) (m : Meaning) → NameOfItemFails files f n end rank p fault → ItemMeans files f end rank p m → ⊥
  no_item_name f n end rank p m fails (ItemMeans.of_property h) = fails.no_property m h
  no_item_name f n end rank p m fails (ItemMeans.ordinary_name none means) = no_path f n (item_kind end) p m fails.fails means

  no_item : (f : File) (n : ℕ) (end : Option Meaning) (rank : ℕ) (v : plain.Value) (alone : Option plain.Path) → name_or_value_fails files f n end rank v fault alone → name_or_value files f end rank v alone → ⊥
  no_item f n end rank v (Some p) fails holds = no_item_name f n end rank p holds.0 fails holds.1
  no_item f n end rank v None fails holds = no_value f n v fails holds

  no_items : (f : File) (n : ℕ) (end : Option Meaning) (cs : List plain.Value) → ItemsFail files f n end cs fault → ItemsHold files f end cs → ⊥
  no_items f n end cs fails holds = no_item f n end fails.rank fails.value (path_alone fails.value) fails.fails (holds fails.rank fails.value fails.stands)

  no_place : (f : File) (n : ℕ) (place : NamePlace) → PlaceFails files f n fault place → PlaceHolds files f place → ⊥
  no_place f n _ (PlaceFails.of_name kind p fails) (PlaceHolds.of_name _ _ m means) = no_path f n kind p m fails means
  no_place f n _ (PlaceFails.of_type of p cs kind wants fails) (PlaceHolds.of_type _ _ _ k m end also means resolved holds) =
      let same : k ≡ kind = one_wanted (IsArrayName files f) of k kind also wants in
      no_path f n kind p m fails (subst (λ x. Means files f x (texts f.src.now p) m) same means)
  no_place f n _ (PlaceFails.of_constraint of p cs kind m end wants means resolved fails) (PlaceHolds.of_type _ _ _ k l last also meant stands holds) =
      let kinds : k ≡ kind = one_wanted (IsArrayName files f) of k kind also wants in
      let same : l ≡ m = means.1 l (subst (λ x. Means files f x (texts f.src.now p) l) kinds meant).0 in
      let ends : last ≡ end = one_resolved files m last end (subst (λ x. ResolvesTo files x last) same stands) resolved in
      no_items f n (Some end) cs fails (subst (λ x. ItemsHold files f (Some x) cs) ends holds)
  no_place f n _ (PlaceFails.of_layout cs fails) (PlaceHolds.of_layout _ holds) = no_items f n None cs fails holds
  no_place f n _ (PlaceFails.of_members values underlying members fails) (PlaceHolds.of_members _ _ _ holds) =
      no_value f n fails.member.value fails.fails (all_among (λ (m : plain.ValueMember). ValueMeans files f m.value) members fails.member holds fails.among)

  no_names : IsTrueOfOne files (NameFails files) fault → AllByRecursion (NamesHold files) files → ⊥
  no_names one all =
      let f = one.file in
      let of_file : NamesHold files f = all_at (NamesHold files) files one.file_index f all one.file_at in
      let d = one.says.declaration in
      let of_declaration = all_among (λ (x : Declaration). DeclarationHolds files f (declared_view x.body)) f.declarations.items d of_file one.says.among in
      let r = one.says.fails in
      no_place f one.file_index r.place r.fails (all_among (PlaceHolds files f) (body_places (declared_view d.body)) r.place of_declaration r.stands)

pub excluded : (files : List File) → Resolves files → (fault : NameFault) → (fault ≡ Memory → ⊥) → IsTrueOfResolving files fault → ⊥
excluded files h (DuplicateName place) other one =
    no_member (file_view one.file) place.span one.says.1 (all_at (λ (f : File). DistinctMembers (file_view f)) files one.file_index one.file h.rules.members one.file_at)
excluded files h (UnknownLibrary place) other one =
    no_library (libraries_of files) one.file one.file_index place one.says (all_at (ImportsAreKnown (libraries_of files)) files one.file_index one.file h.rules.known one.file_at)
excluded files h (BadImport place) other one = no_import one.file one.file_index place one.says (all_at ImportsAreApart files one.file_index one.file h.rules.apart one.file_at)
excluded files h (ImportCycle place) other back = h.rules.imports place back
excluded files h (AliasCycle place) other back = h.rules.aliases place back
excluded files h (UnknownName place) other one = no_names files (UnknownName place) other one h.names
excluded files h (AmbiguousName place) other one = no_names files (AmbiguousName place) other one h.names
excluded files h Memory other _ = other refl
