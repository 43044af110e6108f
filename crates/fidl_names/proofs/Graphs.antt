-- The graph of the libraries of a set, and the imports that make it.
use Rattle.std.proofs.Common.{◌≡◌, ◌<◌, ◌+◌, ℕ, List, Some, inl, inr, refl, sym, subst, length, get_or, take}
use Rattle.std.specs.Prelude.{◌⊎◌, ◌↔◌, slice_get}
use Rattle.std.specs.List.{Contains, Any, AllByRecursion}
use Rattle.fidl_tree.specs.declared.file.File.{File}
use Rattle.fidl_tree.specs.declared.file.Import.{Import}
use Rattle.fidl_named.specs.declared.place.Place.{Place}
use Rattle.fidl_cycles.specs.Cycles.{Leads, step, further, IsEdge, IsEdgeFrom, IsFirstEdge}
use Rattle.fidl_named.specs.Names.{IsOneOf, AreDistinct, path_text, library_of}
use Rattle.fidl_names.specs.ImportRules.{libraries_of, ImportsAreKnown}
use Rattle.fidl_named.specs.Imports.{IsEntry}
use Rattle.fidl_named.specs.NameMaps.{names_of}
use Rattle.fidl_names.specs.TakenNames.{HaveSame}
use Rattle.fidl_names.specs.ImportCycles.{Imports, ImportsBack, AreNumbered, HasEdge, IsImportAt}
use Rattle.fidl_names.proofs.Sames.{known_by}
use Rattle.fidl_cycles.proofs.Firsts.{leads_by}
use Rattle.fidl_named.proofs.FullNames.{one_entry}
use Rattle.fidl_cycles.proofs.Lists.{contains_at, all_at, pick, any_of, any_more}
use Rattle.fidl_names.proofs.LibraryNumbers.{one_of_them, one_name, number_within, number_of}

-- what is known so far, and one thing more
pub both_more : (Before Now Old Part Last All : Type 0) → Before ↔ (Old ⊎ Part) → Now ↔ (Before ⊎ Last) → All ↔ (Part ⊎ Last) → Now ↔ (Old ⊎ All)
both_more Before Now Old Part Last All h k m = ((λ n. there (k.0 n)), (λ o. k.1 (back o)))
  where
    older : Old ⊎ Part → Old ⊎ All
    older (inl o) = inl o
    older (inr p) = inr (m.1 (inl p))

    there : Before ⊎ Last → Old ⊎ All
    there (inl b) = older (h.0 b)
    there (inr l) = inr (m.1 (inr l))

    part : Part ⊎ Last → Before ⊎ Last
    part (inl p) = inl (h.1 (inr p))
    part (inr l) = inr l

    back : Old ⊎ All → Before ⊎ Last
    back (inl o) = inl (h.1 (inl o))
    back (inr a) = part (m.0 a)

-- one import more
module _ (es : List (List ℕ × ℕ)) (names : AreDistinct (names_of es)) (f : File) (imports : List Import) (i : ℕ) (item : Import) (lt : i < length imports) (at : item ≡ get_or imports i item) (from to : ℕ)
    (own : IsEntry es (library_of f) from) (its : IsEntry es (path_text f.src.now item.path) to) where
  pub edge_more : (one other : ℕ) → HasEdge es f (take (i + 1) imports) one other ↔ (HasEdge es f (take i imports) one other ⊎ ((one ≡ from) × (other ≡ to)))
  edge_more one other = (there, back)
    where
      more : Any (λ x. IsEntry es (path_text f.src.now x.path) other) (take (i + 1) imports) ↔ (Any (λ x. IsEntry es (path_text f.src.now x.path) other) (take i imports) ⊎ IsEntry es (path_text f.src.now item.path) other)
      more = any_more (λ x. IsEntry es (path_text f.src.now x.path) other) imports i item lt at

      there : HasEdge es f (take (i + 1) imports) one other → HasEdge es f (take i imports) one other ⊎ ((one ≡ from) × (other ≡ to))
      there h = elim (more.0 h.to) as (λ _. HasEdge es f (take i imports) one other ⊎ ((one ≡ from) × (other ≡ to))) [
        | inl a ↦ inl (record { from = h.from; to = a })
        | inr p ↦ inr (one_entry es (library_of f) one from names h.from own, one_entry es (path_text f.src.now item.path) other to names p its)
      ]

      back : HasEdge es f (take i imports) one other ⊎ ((one ≡ from) × (other ≡ to)) → HasEdge es f (take (i + 1) imports) one other
      back (inl h) = record { from = h.from; to = more.1 (inl h.to) }
      back (inr h) = record { from = subst (IsEntry es (library_of f)) (sym h.0) own; to = more.1 (inr (subst (IsEntry es (path_text f.src.now item.path)) (sym h.1) its)) }

-- a file's own library is known, and those that it imports
module _ (libraries : List (List ℕ)) (files : List File) (same : HaveSame libraries (libraries_of files)) (k : ℕ) (f : File) (at : slice_get files k ≡ Some f) where
  pub own_known : IsOneOf libraries (library_of f)
  own_known = (same (library_of f)).1 (one_of_them library_of files f (contains_at files k f at))

  pub imports_known : AllByRecursion (ImportsAreKnown (libraries_of files)) files → ImportsAreKnown libraries f
  imports_known known = known_by (libraries_of files) libraries f (λ x. ((same x).1, (same x).0)) (all_at (ImportsAreKnown (libraries_of files)) files f known (contains_at files k f at))

-- numbers and names stand for one another
module _ (files : List File) (es : List (List ℕ × ℕ)) (g : List (List ℕ)) (numbered : AreNumbered es) (edges : (one other : ℕ) → IsEdge g one other ↔ Any (λ f. HasEdge es f f.imports.items one other) files) where
  pub edge_within : (one other : ℕ) → IsEdge g one other → other < length es
  edge_within one other e =
      let f = pick (λ f. HasEdge es f f.imports.items one other) files ((edges one other).0 e) in
      let i = pick (λ i. IsEntry es (path_text f.item.src.now i.path) other) f.item.imports.items f.holds.to in
      number_within es numbered (path_text f.item.src.now i.item.path) other i.holds

  edge_imports : (x y : List ℕ) (one other : ℕ) → IsEdge g one other → IsEntry es x one → IsEntry es y other → Imports files x y
  edge_imports x y one other e hx hy =
      let f = pick (λ f. HasEdge es f f.imports.items one other) files ((edges one other).0 e) in
      let i = pick (λ i. IsEntry es (path_text f.item.src.now i.path) other) f.item.imports.items f.holds.to in
      record {
        file = f.item;
        an_import = i.item;
        among = f.among;
        belongs = one_name es numbered (library_of f.item) x one f.holds.from hx;
        stands = i.among;
        imports = one_name es numbered (path_text f.item.src.now i.item.path) y other i.holds hy;
      }

  -- a way along numbers is one along names
  pub names_lead : (one other : ℕ) → Leads (IsEdge g) one other → (x z : List ℕ) → IsEntry es x one → IsEntry es z other → Leads (Imports files) x z
  names_lead one other (step a b e) x z hx hz = step x z (edge_imports x z a b e hx hz)
  names_lead one other (further a b c e l) x z hx hz =
      let f = pick (λ f. HasEdge es f f.imports.items a b) files ((edges a b).0 e) in
      let i = pick (λ i. IsEntry es (path_text f.item.src.now i.path) b) f.item.imports.items f.holds.to in
      let y = path_text f.item.src.now i.item.path in
      further x y z (edge_imports x y a b e hx i.holds) (names_lead b c l y z i.holds hz)

  -- a place where an edge of a cycle stands is one of an import that leads back
  pub reported_back : (one other : ℕ) (place : Place) → IsFirstEdge g one other → IsImportAt es files one other place → ImportsBack files place
  reported_back one other place cycle h =
      let e = h.edge in
      let round : Leads (IsEdge g) other one = leads_by (IsEdgeFrom g one) (IsEdge g) (λ a b d. d.0) other one cycle.1 in
      record {
        file = h.file;
        an_import = e.an_import;
        file_at = h.file_at;
        stands = e.stands;
        back = names_lead other one round (path_text h.file.src.now e.an_import.path) (library_of h.file) e.to e.from;
        span_is = e.span_is;
      }

  module _ (same : HaveSame (names_of es) (libraries_of files)) (known : AllByRecursion (ImportsAreKnown (libraries_of files)) files) where
    imported_known : (f : File) (i : Import) → Contains files f → Contains f.imports.items i → IsOneOf (names_of es) (path_text f.src.now i.path)
    imported_known f i m n =
        let all = all_at (ImportsAreKnown (libraries_of files)) files f known m in
        (same (path_text f.src.now i.path)).1 (all_at (λ i. IsOneOf (libraries_of files) (path_text f.src.now i.path)) f.imports.items i all n)

    imports_edge : (x y : List ℕ) (one other : ℕ) → Imports files x y → IsEntry es x one → IsEntry es y other → IsEdge g one other
    imports_edge x y one other h hx hy =
        let f = h.file in
        let to : Any (λ i. IsEntry es (path_text f.src.now i.path) other) f.imports.items = any_of (λ i. IsEntry es (path_text f.src.now i.path) other) f.imports.items h.an_import h.stands (subst (λ n. IsEntry es n other) (sym h.imports) hy) in
        let e : HasEdge es f f.imports.items one other = record { from = subst (λ n. IsEntry es n one) (sym h.belongs) hx; to = to } in
        (edges one other).1 (any_of (λ f. HasEdge es f f.imports.items one other) files f h.among e)

    -- a way along names is one along numbers
    numbers_lead : (x z : List ℕ) → Leads (Imports files) x z → (one other : ℕ) → IsEntry es x one → IsEntry es z other → Leads (IsEdge g) one other
    numbers_lead x z (step a b e) one other hx hz = step one other (imports_edge a b one other e hx hz)
    numbers_lead x z (further a b c e l) one other hx hz =
        let n = number_of es b (subst (IsOneOf (names_of es)) e.imports (imported_known e.file e.an_import e.among e.stands)) in
        further one n.number other (imports_edge a b one n.number e hx n.stands) (numbers_lead b c l n.number other n.stands hz)

    -- where no point leads to itself, no import leads back
    pub none_back : ((t : ℕ) → Leads (IsEdge g) t t → ⊥) → (place : Place) → ImportsBack files place → ⊥
    none_back acyclic place h =
        let f = h.file in
        let x = library_of f in
        let y = path_text f.src.now h.an_import.path in
        let m = contains_at files place.file f h.file_at in
        let e : Imports files x y = record { file = f; an_import = h.an_import; among = m; belongs = refl; stands = h.stands; imports = refl } in
        let n = number_of es x ((same x).1 (one_of_them library_of files f m)) in
        acyclic n.number (numbers_lead x x (further x y x e h.back) n.number n.number n.stands n.stands)
