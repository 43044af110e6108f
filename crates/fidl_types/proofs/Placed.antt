-- Each bits or enum that stands in a file is a place whose members owe values: where the places of
-- its declarations hold, so does that one.
use Rattle.std.proofs.Common.{List, [], ◌∷◌, ◌++◌, Option, Some, None, true, false, Bool, map}
use Rattle.std.specs.Prelude.{flat_map}
use Rattle.std.specs.List.{AllByRecursion}
use Rattle.fidl_tree.specs.Syntax.{Path, ValueMember, TypeUse, named_type, layout_type, Arguments, no_arguments, next_argument, Argument, number_argument, type_argument}
use Rattle.fidl_tree.specs.Syntax.{Layout, values_layout, struct_layout, table_layout, union_layout, Underlying, no_underlying, underlying_type}
use Rattle.fidl_tree.specs.Syntax.{Members, no_members, next_member, Member, named_member, ordinal_member, reserved_member}
use Rattle.fidl_tree.specs.Syntax.{Response, ProtocolMember, compose_member, method_member, event_member}
use Rattle.fidl_tree.specs.Syntax.{Body, const_body, alias_body, type_body, protocol_body, service_body, resource_body, Import}
use Rattle.fidl_tree.specs.Views.{declared_view, declaration_view, file_view}
use Rattle.fidl_tree.specs.declared.file.File.{File}
use Rattle.fidl_tree.specs.declared.declaration.Declaration.{Declaration}
use Rattle.fidl_named.specs.Spots.{Spot, type_spot, layout_spot, type_spots, arguments_spots, further_spots, argument_spots, layout_spots, underlying_spots, members_spots, member_spots}
use Rattle.fidl_named.specs.Places.{NamePlace, a_members, underlying_path, spot_places, places_of, perhaps, response_places, protocol_places, value_places}
use Rattle.fidl_consts.specs.Places.{PlaceHolds, DeclarationHolds, PlacesHold}
use Rattle.fidl_declarations.specs.declared.step.Step.{Step}
use Rattle.fidl_declarations.specs.declared.step.Step.TheVariants as step
use Rattle.fidl_declarations.specs.Sites.{Role, any_type, aliased_type, bare_type, present_type, service_type, second_argument, Site, type_site, layout_site, result_site, empty_response_site, attributes_site}
use Rattle.fidl_declarations.specs.Sites.{within, type_sites, arguments_sites, further_sites, argument_sites, layout_sites, underlying_sites, members_sites, member_sites, part_sites, has_result, empty_sites, result_sites, response_sites, answer_sites, protocol_sites, body_sites, declaration_sites, import_site, file_sites}
use Rattle.fidl_types.proofs.Closed.{all_append}

module _ {X : Type 0} (P : X → Type 0) where
  pub all_front : (xs ys : List X) → AllByRecursion P (xs ++ ys) → AllByRecursion P xs
  all_front [] ys h = tt
  all_front (x ∷ xs) ys h = (h.0, all_front xs ys h.1)

  pub all_back : (xs ys : List X) → AllByRecursion P (xs ++ ys) → AllByRecursion P ys
  all_back [] ys h = h
  all_back (x ∷ xs) ys h = all_back xs ys h.1

  -- what holds of all that each gives
  all_of_each : {Y : Type 0} (g : Y → List X) (ys : List Y) → AllByRecursion P (flat_map g ys) → AllByRecursion (λ y. AllByRecursion P (g y)) ys
  all_of_each g [] h = tt
  all_of_each g (y ∷ ys) h = (all_front (g y) (flat_map g ys) h, all_of_each g ys (all_back (g y) (flat_map g ys) h))

module _ (files : List File) (f : File) where
  -- the members of a layout hold at their place
  abbrev pub LayoutPlaced : Layout → Type 0
  LayoutPlaced (values_layout values strict keyword u ms) = PlaceHolds files f (a_members values (underlying_path u) ms)
  LayoutPlaced (struct_layout is_resource keyword ms) = Unit {0}
  LayoutPlaced (table_layout is_resource keyword ms) = Unit {0}
  LayoutPlaced (union_layout strict is_resource keyword ms) = Unit {0}

  abbrev pub SitePlaced : Site → Type 0
  SitePlaced (layout_site path l) = LayoutPlaced l
  SitePlaced (type_site role t) = Unit {0}
  SitePlaced (result_site path strict r) = Unit {0}
  SitePlaced (empty_response_site path) = Unit {0}
  SitePlaced (attributes_site attributes) = Unit {0}

  abbrev Placed : List Site → Type 0
  Placed sites = AllByRecursion SitePlaced sites

  abbrev SpotHolds : Spot → Type 0
  SpotHolds s = AllByRecursion (PlaceHolds files f) (spot_places s)

  abbrev Hold : List Spot → Type 0
  Hold spots = AllByRecursion SpotHolds spots

  front : (xs ys : List Spot) → Hold (xs ++ ys) → Hold xs
  front xs ys h = all_front SpotHolds xs ys h

  back : (xs ys : List Spot) → Hold (xs ++ ys) → Hold ys
  back xs ys h = all_back SpotHolds xs ys h

  attributes_placed : (members : List ValueMember) → Placed (map (λ (m : ValueMember). attributes_site m.attributes) members)
  attributes_placed [] = tt
  attributes_placed (m ∷ ms) = (tt, attributes_placed ms)

  mutual
    type_placed : (path : List Step) (role : Role) (of : Option Path) (t : TypeUse) → Hold (type_spots of t) → Placed (type_sites path role t)
    type_placed path role of (named_type name arguments constraints) h = (tt, arguments_placed path name arguments h.1)
    type_placed path role of (layout_type attributes l constraints) h = (tt, (tt, layout_placed path l (front (layout_spots l) (type_spot of (layout_type attributes l constraints) ∷ []) h)))

    arguments_placed : (path : List Step) (head : Path) (arguments : Arguments) → Hold (arguments_spots head arguments) → Placed (arguments_sites path head arguments)
    arguments_placed path head no_arguments h = tt
    arguments_placed path head (next_argument a more) h =
        all_append SitePlaced (argument_sites path any_type a) (further_sites path (second_argument head) more)
        (argument_placed path any_type None a (front (argument_spots None a) (further_spots (Some head) more) h))
        (further_placed path (second_argument head) (Some head) more (back (argument_spots None a) (further_spots (Some head) more) h))

    further_placed : (path : List Step) (role : Role) (of : Option Path) (arguments : Arguments) → Hold (further_spots of arguments) → Placed (further_sites path role arguments)
    further_placed path role of no_arguments h = tt
    further_placed path role of (next_argument a more) h =
        all_append SitePlaced (argument_sites path role a) (further_sites path any_type more)
        (argument_placed path role of a (front (argument_spots of a) (further_spots None more) h))
        (further_placed path any_type None more (back (argument_spots of a) (further_spots None more) h))

    argument_placed : (path : List Step) (role : Role) (of : Option Path) (a : Argument) → Hold (argument_spots of a) → Placed (argument_sites path role a)
    argument_placed path role of (number_argument n) h = tt
    argument_placed path role of (type_argument t) h = type_placed path role of t h

    layout_placed : (path : List Step) (l : Layout) → Hold (layout_spots l) → Placed (layout_sites path l)
    layout_placed path (values_layout kind strict keyword u members) h = (
      (back (underlying_spots u) (layout_spot (values_layout kind strict keyword u members) ∷ []) h).0.0,
      all_append SitePlaced (underlying_sites path u) (map (λ (m : ValueMember). attributes_site m.attributes) members)
          (underlying_placed path u (front (underlying_spots u) (layout_spot (values_layout kind strict keyword u members) ∷ []) h))
          (attributes_placed members),
    )
    layout_placed path (struct_layout is_resource keyword ms) h = (tt, members_placed path any_type ms (front (members_spots ms) (layout_spot (struct_layout is_resource keyword ms) ∷ []) h))
    layout_placed path (table_layout is_resource keyword ms) h = (tt, members_placed path present_type ms (front (members_spots ms) (layout_spot (table_layout is_resource keyword ms) ∷ []) h))
    layout_placed path (union_layout strict is_resource keyword ms) h = (tt, members_placed path present_type ms (front (members_spots ms) (layout_spot (union_layout strict is_resource keyword ms) ∷ []) h))

    underlying_placed : (path : List Step) (u : Underlying) → Hold (underlying_spots u) → Placed (underlying_sites path u)
    underlying_placed path no_underlying h = tt
    underlying_placed path (underlying_type t) h = type_placed path bare_type None t h

    members_placed : (path : List Step) (role : Role) (ms : Members) → Hold (members_spots ms) → Placed (members_sites path role ms)
    members_placed path role no_members h = tt
    members_placed path role (next_member m ms) h =
        all_append SitePlaced (member_sites path role m) (members_sites path role ms)
        (member_placed path role m (front (member_spots m) (members_spots ms) h))
        (members_placed path role ms (back (member_spots m) (members_spots ms) h))

    member_placed : (path : List Step) (role : Role) (m : Member) → Hold (member_spots m) → Placed (member_sites path role m)
    member_placed path role (named_member attributes name t) h = (tt, type_placed (within path (step.Name name)) role None t h)
    member_placed path role (ordinal_member attributes ordinal name t) h = (tt, type_placed (within path (step.Name name)) role None t h)
    member_placed path role (reserved_member attributes ordinal) h = (tt, tt)

  -- Declarations.
  abbrev Owed : List NamePlace → Type 0
  Owed places = AllByRecursion (PlaceHolds files f) places

  spots_of : (spots : List Spot) → Owed (places_of spots) → Hold spots
  spots_of spots h = all_of_each (PlaceHolds files f) spot_places spots h

  type_owed : (path : List Step) (role : Role) (t : TypeUse) → Owed (places_of (type_spots None t)) → Placed (type_sites path role t)
  type_owed path role t h = type_placed path role None t (spots_of (type_spots None t) h)

  members_owed : (path : List Step) (role : Role) (ms : Members) → Owed (places_of (members_spots ms)) → Placed (members_sites path role ms)
  members_owed path role ms h = members_placed path role ms (spots_of (members_spots ms) h)

  part_placed : (path : List Step) (role : Role) (t : Option TypeUse) → Owed (perhaps t) → Placed (part_sites path role t)
  part_placed path role None h = tt
  part_placed path role (Some t) h = type_owed path role t h

  empty_placed : (path : List Step) (payload : Option TypeUse) → Placed (empty_sites path payload)
  empty_placed path None = (tt, tt)
  empty_placed path (Some t) = tt

  result_placed : (path : List Step) (strict : Bool) (r : Response) (b : Bool) → Placed (result_sites path strict r b)
  result_placed path strict r false = tt
  result_placed path strict r true = (tt, empty_placed path r.payload)

  response_placed : (path : List Step) (strict : Bool) (r : Response) → Owed (perhaps r.payload ++ perhaps r.error) → Placed (response_sites path strict r)
  response_placed path strict r h =
      let one = part_sites (within path step.Response) any_type r.payload in
      let two = part_sites (within path step.Error) present_type r.error in
      let three = result_sites path strict r (has_result strict r.error) in
      all_append SitePlaced (one ++ two) three
      (all_append SitePlaced one two
      (part_placed (within path step.Response) any_type r.payload (all_front (PlaceHolds files f) (perhaps r.payload) (perhaps r.error) h))
      (part_placed (within path step.Error) present_type r.error (all_back (PlaceHolds files f) (perhaps r.payload) (perhaps r.error) h)))
      (result_placed path strict r (has_result strict r.error))

  answer_placed : (path : List Step) (strict : Bool) (r : Option Response) → Owed (response_places r) → Placed (answer_sites path strict r)
  answer_placed path strict None h = tt
  answer_placed path strict (Some r) h = response_placed path strict r h

  protocol_placed : (path : List Step) (m : ProtocolMember) → Owed (protocol_places m) → Placed (protocol_sites path m)
  protocol_placed path (compose_member attributes name) h = (tt, tt)
  protocol_placed path (method_member attributes strict name request response) h = (
    tt,
    all_append SitePlaced (part_sites (within (within path (step.Name name)) step.Request) any_type request) (answer_sites (within path (step.Name name)) strict response)
        (part_placed (within (within path (step.Name name)) step.Request) any_type request (all_front (PlaceHolds files f) (perhaps request) (response_places response) h))
        (answer_placed (within path (step.Name name)) strict response (all_back (PlaceHolds files f) (perhaps request) (response_places response) h)),
  )
  protocol_placed path (event_member attributes strict name payload) h = (tt, part_placed (within (within path (step.Name name)) step.Response) any_type payload h)

  protocols_placed : (path : List Step) (ms : List ProtocolMember) → Owed (flat_map protocol_places ms) → Placed (flat_map (protocol_sites path) ms)
  protocols_placed path [] h = tt
  protocols_placed path (m ∷ ms) h =
      all_append SitePlaced (protocol_sites path m) (flat_map (protocol_sites path) ms)
      (protocol_placed path m (all_front (PlaceHolds files f) (protocol_places m) (flat_map protocol_places ms) h))
      (protocols_placed path ms (all_back (PlaceHolds files f) (protocol_places m) (flat_map protocol_places ms) h))

  body_placed : (path : List Step) (b : Body) → DeclarationHolds files f b → Placed (body_sites path b)
  body_placed path (const_body t v) h = type_owed path any_type t (all_front (PlaceHolds files f) (places_of (type_spots None t)) (value_places v) h)
  body_placed path (alias_body t) h = type_owed path aliased_type t h
  body_placed path (type_body attributes l) h = (tt, layout_placed path l (spots_of (layout_spots l) h))
  body_placed path (protocol_body openness members) h = protocols_placed path members h
  body_placed path (service_body ms) h = members_owed path service_type ms h
  body_placed path (resource_body t properties) h =
      all_append SitePlaced (type_sites path bare_type t) (members_sites path bare_type properties)
      (type_owed path bare_type t (all_front (PlaceHolds files f) (places_of (type_spots None t)) (places_of (members_spots properties)) h))
      (members_owed path bare_type properties (all_back (PlaceHolds files f) (places_of (type_spots None t)) (places_of (members_spots properties)) h))

  declarations_placed : (ds : List Declaration) → AllByRecursion (λ (d : Declaration). DeclarationHolds files f (declared_view d.body)) ds → Placed (flat_map declaration_sites (map declaration_view ds))
  declarations_placed [] h = tt
  declarations_placed (d ∷ ds) h =
      all_append SitePlaced (declaration_sites (declaration_view d)) (flat_map declaration_sites (map declaration_view ds))
      (tt, body_placed (step.Name (declaration_view d).name ∷ []) (declared_view d.body) h.0)
      (declarations_placed ds h.1)

  imports_placed : (imports : List Import) → Placed (map import_site imports)
  imports_placed [] = tt
  imports_placed (i ∷ is) = (tt, imports_placed is)

  -- each layout of a file whose places hold
  pub sites_placed : PlacesHold files f → Placed (file_sites (file_view f))
  sites_placed h = (
    tt,
    all_append SitePlaced (map import_site (file_view f).imports) (flat_map declaration_sites (map declaration_view f.declarations.items))
        (imports_placed (file_view f).imports)
        (declarations_placed f.declarations.items h),
  )
