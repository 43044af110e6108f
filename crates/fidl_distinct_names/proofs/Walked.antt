-- Where the lists of members of a declaration have different names, so have the members of each layout that stands in it.
use Rattle.std.proofs.Common.{ℕ, List, [], ◌∷◌, ◌++◌, map, flat_map, subst}
use Rattle.std.specs.Prelude.{Bool, true, false, Option, Some, None}
use Rattle.std.specs.List.{AllByRecursion}
use Rattle.std.proofs.lemmas.Grind.{flat_map-append}
use Rattle.fidl_span.specs.declared.words.Span.{Span}
use Rattle.fidl_tree.specs.Syntax.{Path, ValueMember, TypeUse, named_type, layout_type}
use Rattle.fidl_tree.specs.Syntax.{Arguments, no_arguments, next_argument, Argument, number_argument, type_argument}
use Rattle.fidl_tree.specs.Syntax.{Layout, values_layout, struct_layout, table_layout, union_layout}
use Rattle.fidl_tree.specs.Syntax.{Underlying, no_underlying, underlying_type, Members, no_members, next_member}
use Rattle.fidl_tree.specs.Syntax.{Member, named_member, ordinal_member, reserved_member}
use Rattle.fidl_tree.specs.Syntax.{Response, ProtocolMember, compose_member, method_member, event_member}
use Rattle.fidl_tree.specs.Syntax.{Body, const_body, alias_body, type_body, protocol_body, service_body, resource_body}
use Rattle.fidl_tree.specs.Syntax.{Declaration, Import, File}
use Rattle.fidl_named.specs.Spots.{Spot, type_spot, layout_spot, type_spots, arguments_spots, further_spots, argument_spots}
use Rattle.fidl_named.specs.Spots.{layout_spots, underlying_spots, members_spots, member_spots}
use Rattle.fidl_named.specs.MemberNames.{own_names, layout_names}
use Rattle.fidl_names.specs.MemberLists.{spot_lists, lists_of, type_lists, members_lists, perhaps, response_lists, protocol_lists}
use Rattle.fidl_names.specs.MemberLists.{body_lists, NamesDiffer, ListsDiffer, DistinctMembers}
use Rattle.fidl_declarations.specs.declared.step.Step.{Step}
use Rattle.fidl_declarations.specs.declared.step.Step.TheVariants as step
use Rattle.fidl_declarations.specs.Sites.{Role, any_type, aliased_type, bare_type, present_type, service_type, second_argument}
use Rattle.fidl_declarations.specs.Sites.{Site, type_site, layout_site, result_site, empty_response_site, attributes_site, within}
use Rattle.fidl_declarations.specs.Sites.{type_sites, arguments_sites, further_sites, argument_sites, layout_sites, underlying_sites}
use Rattle.fidl_declarations.specs.Sites.{members_sites, member_sites, part_sites, has_result, empty_sites, result_sites}
use Rattle.fidl_declarations.specs.Sites.{response_sites, answer_sites, protocol_sites, body_sites, declaration_sites, import_site, file_sites}

-- the members of a layout that stands there have different names
abbrev pub SiteDiffers : List ℕ → Site → Type 0
SiteDiffers src (layout_site path l) = NamesDiffer src (layout_names l)
SiteDiffers src (type_site role t) = Unit {0}
SiteDiffers src (result_site path strict r) = Unit {0}
SiteDiffers src (empty_response_site path) = Unit {0}
SiteDiffers src (attributes_site attributes) = Unit {0}

-- of all elements of two lists, and of the whole

all_front : {X : Type 0} (P : X → Type 0) (xs ys : List X) → AllByRecursion P (xs ++ ys) → AllByRecursion P xs
all_front P [] ys h = tt
all_front P (x ∷ xs) ys h = (h.0, all_front P xs ys h.1)

all_back : {X : Type 0} (P : X → Type 0) (xs ys : List X) → AllByRecursion P (xs ++ ys) → AllByRecursion P ys
all_back P [] ys h = h
all_back P (x ∷ xs) ys h = all_back P xs ys h.1

pub all_both : {X : Type 0} (P : X → Type 0) (xs ys : List X) → AllByRecursion P xs → AllByRecursion P ys → AllByRecursion P (xs ++ ys)
all_both P [] ys h k = k
all_both P (x ∷ xs) ys h k = (h.0, all_both P xs ys h.1 k)

module _ (src : List ℕ) where
  abbrev Lists : List (List Span) → Type 0
  Lists = AllByRecursion (NamesDiffer src)

  abbrev Sites : List Site → Type 0
  Sites = AllByRecursion (SiteDiffers src)

  front : (xs ys : List Spot) → Lists (lists_of (xs ++ ys)) → Lists (lists_of xs)
  front xs ys h = all_front (NamesDiffer src) (lists_of xs) (lists_of ys) (subst Lists (flat_map-append spot_lists xs ys) h)

  back : (xs ys : List Spot) → Lists (lists_of (xs ++ ys)) → Lists (lists_of ys)
  back xs ys h = all_back (NamesDiffer src) (lists_of xs) (lists_of ys) (subst Lists (flat_map-append spot_lists xs ys) h)

  both : (xs ys : List Site) → Sites xs → Sites ys → Sites (xs ++ ys)
  both = all_both (SiteDiffers src)

  attributes : (members : List ValueMember) → Sites (map (λ (m : ValueMember). attributes_site m.attributes) members)
  attributes [] = tt
  attributes (m ∷ ms) = (tt, attributes ms)

  mutual
    of_type : (of : Option Path) (path : List Step) (role : Role) (t : TypeUse) → Lists (lists_of (type_spots of t)) → Sites (type_sites path role t)
    of_type of path role (named_type name args constraints) h = (tt, of_arguments path name args h)
    of_type of path role (layout_type attrs l constraints) h =
        (tt, (tt, of_layout path l (front (layout_spots l) (type_spot of (layout_type attrs l constraints) ∷ []) h)))

    of_arguments : (path : List Step) (head : Path) (args : Arguments) → Lists (lists_of (arguments_spots head args)) → Sites (arguments_sites path head args)
    of_arguments path head no_arguments h = tt
    of_arguments path head (next_argument a rest) h =
        let xs = argument_spots None a in
        let ys = further_spots (Some head) rest in
        both (argument_sites path any_type a) (further_sites path (second_argument head) rest)
        (of_argument None path any_type a (front xs ys h)) (of_further (Some head) path (second_argument head) rest (back xs ys h))

    of_further : (of : Option Path) (path : List Step) (role : Role) (args : Arguments) → Lists (lists_of (further_spots of args)) → Sites (further_sites path role args)
    of_further of path role no_arguments h = tt
    of_further of path role (next_argument a rest) h =
        let xs = argument_spots of a in
        let ys = further_spots None rest in
        both (argument_sites path role a) (further_sites path any_type rest)
        (of_argument of path role a (front xs ys h)) (of_further None path any_type rest (back xs ys h))

    of_argument : (of : Option Path) (path : List Step) (role : Role) (a : Argument) → Lists (lists_of (argument_spots of a)) → Sites (argument_sites path role a)
    of_argument of path role (number_argument n) h = tt
    of_argument of path role (type_argument t) h = of_type of path role t h

    of_layout : (path : List Step) (l : Layout) → Lists (lists_of (layout_spots l)) → Sites (layout_sites path l)
    of_layout path (values_layout kind strict keyword u members) h =
        let own = layout_spot (values_layout kind strict keyword u members) ∷ [] in
        let xs = underlying_spots u in (
          (back xs own h).0,
          both (underlying_sites path u) (map (λ (m : ValueMember). attributes_site m.attributes) members)
              (of_underlying path u (front xs own h)) (attributes members),
        )
    of_layout path (struct_layout is_resource keyword ms) h =
        let own = layout_spot (struct_layout is_resource keyword ms) ∷ [] in
        let xs = members_spots ms in
        ((back xs own h).0, of_members path any_type ms (front xs own h))
    of_layout path (table_layout is_resource keyword ms) h =
        let own = layout_spot (table_layout is_resource keyword ms) ∷ [] in
        let xs = members_spots ms in
        ((back xs own h).0, of_members path present_type ms (front xs own h))
    of_layout path (union_layout strict is_resource keyword ms) h =
        let own = layout_spot (union_layout strict is_resource keyword ms) ∷ [] in
        let xs = members_spots ms in
        ((back xs own h).0, of_members path present_type ms (front xs own h))

    of_underlying : (path : List Step) (u : Underlying) → Lists (lists_of (underlying_spots u)) → Sites (underlying_sites path u)
    of_underlying path no_underlying h = tt
    of_underlying path (underlying_type t) h = of_type None path bare_type t h

    of_members : (path : List Step) (role : Role) (ms : Members) → Lists (lists_of (members_spots ms)) → Sites (members_sites path role ms)
    of_members path role no_members h = tt
    of_members path role (next_member m ms) h =
        let xs = member_spots m in
        let ys = members_spots ms in
        both (member_sites path role m) (members_sites path role ms) (of_member path role m (front xs ys h)) (of_members path role ms (back xs ys h))

    of_member : (path : List Step) (role : Role) (m : Member) → Lists (lists_of (member_spots m)) → Sites (member_sites path role m)
    of_member path role (named_member attrs name t) h = (tt, of_type None (within path (step.Name name)) role t h)
    of_member path role (ordinal_member attrs ordinal name t) h = (tt, of_type None (within path (step.Name name)) role t h)
    of_member path role (reserved_member attrs ordinal) h = (tt, tt)

  of_part : (path : List Step) (role : Role) (part : Option TypeUse) → Lists (perhaps type_lists part) → Sites (part_sites path role part)
  of_part path role None h = tt
  of_part path role (Some t) h = of_type None path role t h

  of_empty : (path : List Step) (payload : Option TypeUse) → Sites (empty_sites path payload)
  of_empty path None = (tt, tt)
  of_empty path (Some t) = tt

  of_result : (path : List Step) (strict : Bool) (r : Response) (has : Bool) → Sites (result_sites path strict r has)
  of_result path strict r false = tt
  of_result path strict r true = (tt, of_empty path r.payload)

  first : (xs ys : List (List Span)) → Lists (xs ++ ys) → Lists xs
  first = all_front (NamesDiffer src)

  then : (xs ys : List (List Span)) → Lists (xs ++ ys) → Lists ys
  then = all_back (NamesDiffer src)

  of_response : (path : List Step) (strict : Bool) (r : Response) → Lists (response_lists r) → Sites (response_sites path strict r)
  of_response path strict r h =
      let xs = perhaps type_lists r.payload in
      let ys = perhaps type_lists r.error in
      let payload = within path step.Response in
      let error = within path step.Error in
      let result = result_sites path strict r (has_result strict r.error) in
      both (part_sites payload any_type r.payload ++ part_sites error present_type r.error) result
      (both (part_sites payload any_type r.payload) (part_sites error present_type r.error)
      (of_part payload any_type r.payload (first xs ys h)) (of_part error present_type r.error (then xs ys h)))
      (of_result path strict r (has_result strict r.error))

  of_answer : (path : List Step) (strict : Bool) (r : Option Response) → Lists (perhaps response_lists r) → Sites (answer_sites path strict r)
  of_answer path strict None h = tt
  of_answer path strict (Some r) h = of_response path strict r h

  of_method : (path : List Step) (m : ProtocolMember) → Lists (protocol_lists m) → Sites (protocol_sites path m)
  of_method path (compose_member attrs name) h = (tt, tt)
  of_method path (method_member attrs strict name request response) h =
      let xs = perhaps type_lists request in
      let ys = perhaps response_lists response in
      let at = within path (step.Name name) in (
        tt,
        both (part_sites (within at step.Request) any_type request) (answer_sites at strict response)
            (of_part (within at step.Request) any_type request (first xs ys h)) (of_answer at strict response (then xs ys h)),
      )
  of_method path (event_member attrs strict name payload) h =
      (tt, of_part (within (within path (step.Name name)) step.Response) any_type payload h)

  of_methods : (path : List Step) (ms : List ProtocolMember) → Lists (flat_map protocol_lists ms) → Sites (flat_map (protocol_sites path) ms)
  of_methods path [] h = tt
  of_methods path (m ∷ ms) h =
      let xs = protocol_lists m in
      let ys = flat_map protocol_lists ms in
      both (protocol_sites path m) (flat_map (protocol_sites path) ms) (of_method path m (first xs ys h)) (of_methods path ms (then xs ys h))

  of_body : (path : List Step) (b : Body) → Lists (body_lists b) → Sites (body_sites path b)
  of_body path (const_body t v) h = of_type None path any_type t h
  of_body path (alias_body t) h = of_type None path aliased_type t h
  of_body path (type_body attrs l) h = (tt, of_layout path l h)
  of_body path (protocol_body openness members) h = of_methods path members h
  of_body path (service_body ms) h = of_members path service_type ms (first (lists_of (members_spots ms)) (own_names ms ∷ []) h)
  of_body path (resource_body t properties) h =
      let xs = type_lists t in
      let ys = members_lists properties in
      both (type_sites path bare_type t) (members_sites path bare_type properties) (of_type None path bare_type t (first xs ys h))
      (of_members path bare_type properties (first (lists_of (members_spots properties)) (own_names properties ∷ []) (then xs ys h)))

  of_declarations : (ds : List Declaration) → AllByRecursion (ListsDiffer src) ds → Sites (flat_map declaration_sites ds)
  of_declarations [] h = tt
  of_declarations (d ∷ ds) h = (
    tt,
    both (body_sites (step.Name d.name ∷ []) d.body) (flat_map declaration_sites ds)
        (of_body (step.Name d.name ∷ []) d.body h.0) (of_declarations ds h.1),
  )

  of_imports : (is : List Import) → Sites (map import_site is)
  of_imports [] = tt
  of_imports (i ∷ is) = (tt, of_imports is)

-- each layout of a file has members of different names
pub sites_differ : (f : File) → DistinctMembers f → AllByRecursion (SiteDiffers f.source) (file_sites f)
sites_differ f h = (
  tt,
  all_both (SiteDiffers f.source) (map import_site f.imports) (flat_map declaration_sites f.declarations)
      (of_imports f.source f.imports) (of_declarations f.source f.declarations h),
)
