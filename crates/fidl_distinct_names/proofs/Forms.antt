-- The members of each layout that is numbered have different names.
use Rattle.std.proofs.Common.{◌≡◌, ℕ, suc, ◌+◌, List, [], ◌∷◌, map, flat_map, refl, subst, arith}
use Rattle.std.specs.Prelude.{Some, slice_get}
use Rattle.std.specs.List.{AllByRecursion}
use Rattle.fidl_tree.specs.Syntax.{File, Layout, values_layout, struct_layout, table_layout, union_layout}
use Rattle.fidl_tree.specs.Views.{file_view}
use Rattle.fidl_tree.specs.declared.file.File.{File as Tree}
use Rattle.fidl_named.specs.MemberNames.{layout_names}
use Rattle.fidl_names.specs.MemberLists.{NamesDiffer, DistinctMembers}
use Rattle.fidl_declarations.specs.declared.step.Step.{Step}
use Rattle.fidl_declarations.specs.Sites.{Site, type_site, layout_site, result_site, empty_response_site, attributes_site, file_sites}
use Rattle.fidl_declarations.specs.Forms.{Form, FormKind, layout_form, result_form, empty_response_form, layout_kinds, form_at}
use Rattle.fidl_declarations.specs.Forms.{site_forms, file_forms, forms_from}
use Rattle.fidl_lower_types.specs.Numbers.{all_forms}
use Rattle.fidl_distinct_names.proofs.Walked.{SiteDiffers, all_both, sites_differ}

-- the members of a numbered layout have different names in this source
abbrev pub KindDiffers : List ℕ → FormKind → Type 0
KindDiffers src (layout_form optional l) = NamesDiffer src (layout_names l)
KindDiffers src (result_form strict r) = Unit {0}
KindDiffers src empty_response_form = Unit {0}

-- in that of the form's file
abbrev pub FormDiffers : List File → Form → Type 0
FormDiffers files form = (f : File) → slice_get files form.file ≡ Some f → KindDiffers f.source form.kind

kinds_differ : (src : List ℕ) (l : Layout) → NamesDiffer src (layout_names l) → AllByRecursion (KindDiffers src) (layout_kinds l)
kinds_differ src (values_layout kind strict keyword u members) h = (h, tt)
kinds_differ src (struct_layout is_resource keyword ms) h = (h, tt)
kinds_differ src (table_layout is_resource keyword ms) h = (h, tt)
kinds_differ src (union_layout strict is_resource keyword ms) h = (h, (h, tt))

module _ (files : List File) where
  abbrev Forms : List Form → Type 0
  Forms = AllByRecursion (FormDiffers files)

  module _ (number : ℕ) (f : File) (at : slice_get files number ≡ Some f) where
    of_kinds : (path : List Step) (kinds : List FormKind) → AllByRecursion (KindDiffers f.source) kinds → Forms (map (form_at number f path) kinds)
    of_kinds path [] h = tt
    of_kinds path (k ∷ ks) h =
        (λ g is. let same : f ≡ g = cc in subst (λ (x : File). KindDiffers x.source k) same h.0, of_kinds path ks h.1)

    of_site : (s : Site) → SiteDiffers f.source s → Forms (site_forms number f s)
    of_site (layout_site path l) h = of_kinds path (layout_kinds l) (kinds_differ f.source l h)
    of_site (result_site path strict r) h = (λ g is. tt, tt)
    of_site (empty_response_site path) h = (λ g is. tt, tt)
    of_site (type_site role t) h = tt
    of_site (attributes_site attributes) h = tt

    of_sites : (sites : List Site) → AllByRecursion (SiteDiffers f.source) sites → Forms (flat_map (site_forms number f) sites)
    of_sites [] h = tt
    of_sites (s ∷ ss) h = all_both (FormDiffers files) (site_forms number f s) (flat_map (site_forms number f) ss) (of_site s h.0) (of_sites ss h.1)

  of_files : (number : ℕ) (rest : List File) → ((i : ℕ) (f : File) → slice_get rest i ≡ Some f → slice_get files (i + number) ≡ Some f) → AllByRecursion DistinctMembers rest → Forms (forms_from number rest)
  of_files number [] at h = tt
  of_files number (f ∷ rest) at h =
      all_both (FormDiffers files) (file_forms number f) (forms_from (suc number) rest)
      (of_sites number f (let e : 0 + number ≡ number = omega arith in subst (λ n. slice_get files n ≡ Some f) e (at 0 f refl)) (file_sites f) (sites_differ f h.0))
      (of_files (suc number) rest (λ i g is. let e : suc i + number ≡ i + suc number = omega arith in
      subst (λ n. slice_get files n ≡ Some g) e (at (suc i) g is)) h.1)

all_seen : (files : List Tree) → AllByRecursion (λ f. DistinctMembers (file_view f)) files → AllByRecursion DistinctMembers (map file_view files)
all_seen [] h = tt
all_seen (f ∷ files) h = (h.0, all_seen files h.1)

-- each form of files does
pub forms_differ : (files : List Tree) → AllByRecursion (λ f. DistinctMembers (file_view f)) files → AllByRecursion (FormDiffers (map file_view files)) (all_forms files)
forms_differ files h =
    let seen = map file_view files in
    of_files seen 0 seen (λ i f is. let e : i ≡ i + 0 = omega arith in subst (λ n. slice_get seen n ≡ Some f) e is) (all_seen files h)
