-- What stands in a file stands there with the types that it is made of: the first argument of a type
-- and the type of an alias are sites too.
use Rattle.std.proofs.Common.{◌≡◌, ◌∙◌, ℕ, List, [], ◌∷◌, ◌++◌, Option, Some, None, true, false, Bool, ap, refl, sym, subst, map}
use Rattle.std.specs.Prelude.{flat_map, slice_get}
use Rattle.std.specs.List.{Contains, AllByRecursion}
use Rattle.std.proofs.lemmas.List.Elements.{All-from_recursion, Contains-append_left, Contains-append_right}
use Rattle.fidl_tree.specs.Syntax.{Path, ValueMember, TypeUse, named_type, layout_type, Arguments, no_arguments, next_argument, Argument, number_argument, type_argument}
use Rattle.fidl_tree.specs.Syntax.{Layout, values_layout, struct_layout, table_layout, union_layout, Underlying, no_underlying, underlying_type}
use Rattle.fidl_tree.specs.Syntax.{Members, no_members, next_member, Member, named_member, ordinal_member, reserved_member}
use Rattle.fidl_tree.specs.Syntax.{Response, ProtocolMember, compose_member, method_member, event_member}
use Rattle.fidl_tree.specs.Syntax.{Body, const_body, alias_body, type_body, protocol_body, service_body, resource_body, Declaration, Import, File}
use Rattle.fidl_consts.proofs.Among.{among_first, among_rest, among_flat}
use Rattle.fidl_declarations.specs.declared.step.Step.{Step}
use Rattle.fidl_declarations.specs.declared.step.Step.TheVariants as step
use Rattle.fidl_declarations.specs.Sites.{Role, any_type, aliased_type, bare_type, present_type, service_type, second_argument, Site, type_site, layout_site, result_site, empty_response_site, attributes_site}
use Rattle.fidl_declarations.specs.Sites.{within, type_sites, arguments_sites, further_sites, argument_sites, layout_sites, underlying_sites, members_sites, member_sites, part_sites, has_result, empty_sites, result_sites, response_sites, answer_sites, protocol_sites, body_sites, declaration_sites, import_site, file_sites}
use Rattle.fidl_type_rules.specs.Words.{arguments_in}
use Rattle.fidl_type_rules.specs.Made.{first_type}

-- each element of the first is one of the second
abbrev Within : {X : Type 0} → List X → List X → Type 0
Within {X} xs all = (x : X) → Contains xs x → Contains all x

module _ {X : Type 0} (xs ys all : List X) (within_all : Within (xs ++ ys) all) where
  left : Within xs all
  left x h = within_all x (Contains-append_left xs ys x h)

  right : Within ys all
  right x h = within_all x (Contains-append_right xs ys x h)

module _ {X : Type 0} (x : X) (xs all : List X) (within_all : Within (x ∷ xs) all) where
  first : Contains all x
  first = within_all x (among_first x xs)

  rest : Within xs all
  rest = right (x ∷ []) xs all within_all

all_append : {X : Type 0} (P : X → Type 0) (xs ys : List X) → AllByRecursion P xs → AllByRecursion P ys → AllByRecursion P (xs ++ ys)
all_append P [] ys h k = k
all_append P (x ∷ xs) ys h k = (h.0, all_append P xs ys h.1 k)

-- What follows from a site.

module _ (all : List Site) where
  -- a type that is there is a site
  abbrev FirstHas : Option TypeUse → Type 0
  FirstHas None = Unit {0}
  FirstHas (Some t) = Contains all (type_site any_type t)

  abbrev SiteHas : Site → Type 0
  SiteHas (type_site role t) = FirstHas (first_type (arguments_in t))
  SiteHas (layout_site path l) = Unit {0}
  SiteHas (result_site path strict r) = Unit {0}
  SiteHas (empty_response_site path) = Unit {0}
  SiteHas (attributes_site attributes) = Unit {0}

  abbrev AllHave : List Site → Type 0
  AllHave sites = AllByRecursion SiteHas sites

  -- Types.

  has_type : (path : List Step) (role : Role) (t : TypeUse) → Within (type_sites path role t) all → Contains all (type_site role t)
  has_type path role (named_type name arguments constraints) h = first (type_site role (named_type name arguments constraints)) (arguments_sites path name arguments) all h
  has_type path role (layout_type attributes l constraints) h = first (type_site role (layout_type attributes l constraints)) (attributes_site attributes ∷ layout_sites path l) all h

  first_has : (path : List Step) (head : Path) (arguments : Arguments) → Within (arguments_sites path head arguments) all → FirstHas (first_type arguments)
  first_has path head no_arguments h = tt
  first_has path head (next_argument (number_argument n) more) h = tt
  first_has path head (next_argument (type_argument t) more) h = has_type path any_type t (left (argument_sites path any_type (type_argument t)) (further_sites path (second_argument head) more) all h)

  values_have : (members : List ValueMember) → AllHave (map (λ (m : ValueMember). attributes_site m.attributes) members)
  values_have [] = tt
  values_have (m ∷ ms) = (tt, values_have ms)

  mutual
    type_all : (path : List Step) (role : Role) (t : TypeUse) → Within (type_sites path role t) all → AllHave (type_sites path role t)
    type_all path role (named_type name arguments constraints) h =
        let below = rest (type_site role (named_type name arguments constraints)) (arguments_sites path name arguments) all h in
        (first_has path name arguments below, arguments_all path name arguments below)
    type_all path role (layout_type attributes l constraints) h =
        (tt, (tt, layout_all path l (rest (attributes_site attributes) (layout_sites path l) all (rest (type_site role (layout_type attributes l constraints)) (attributes_site attributes ∷ layout_sites path l) all h))))

    arguments_all : (path : List Step) (head : Path) (arguments : Arguments) → Within (arguments_sites path head arguments) all → AllHave (arguments_sites path head arguments)
    arguments_all path head no_arguments h = tt
    arguments_all path head (next_argument a more) h =
        all_append SiteHas (argument_sites path any_type a) (further_sites path (second_argument head) more)
        (argument_all path any_type a (left (argument_sites path any_type a) (further_sites path (second_argument head) more) all h))
        (further_all path (second_argument head) more (right (argument_sites path any_type a) (further_sites path (second_argument head) more) all h))

    further_all : (path : List Step) (role : Role) (arguments : Arguments) → Within (further_sites path role arguments) all → AllHave (further_sites path role arguments)
    further_all path role no_arguments h = tt
    further_all path role (next_argument a more) h =
        all_append SiteHas (argument_sites path role a) (further_sites path any_type more)
        (argument_all path role a (left (argument_sites path role a) (further_sites path any_type more) all h))
        (further_all path any_type more (right (argument_sites path role a) (further_sites path any_type more) all h))

    argument_all : (path : List Step) (role : Role) (a : Argument) → Within (argument_sites path role a) all → AllHave (argument_sites path role a)
    argument_all path role (number_argument n) h = tt
    argument_all path role (type_argument t) h = type_all path role t h

    layout_all : (path : List Step) (l : Layout) → Within (layout_sites path l) all → AllHave (layout_sites path l)
    layout_all path (values_layout kind strict keyword u members) h = (
      tt,
      all_append SiteHas (underlying_sites path u) (map (λ (m : ValueMember). attributes_site m.attributes) members)
          (underlying_all path u (left (underlying_sites path u) (map (λ (m : ValueMember). attributes_site m.attributes) members) all (rest (layout_site path (values_layout kind strict keyword u members)) (underlying_sites path u ++ map (λ (m : ValueMember). attributes_site m.attributes) members) all h)))
          (values_have members),
    )
    layout_all path (struct_layout is_resource keyword ms) h =
        let below = rest (layout_site path (struct_layout is_resource keyword ms)) (members_sites path any_type ms) all h in
        (tt, members_all path any_type ms below)
    layout_all path (table_layout is_resource keyword ms) h =
        let below = rest (layout_site path (table_layout is_resource keyword ms)) (members_sites path present_type ms) all h in
        (tt, members_all path present_type ms below)
    layout_all path (union_layout strict is_resource keyword ms) h =
        let below = rest (layout_site path (union_layout strict is_resource keyword ms)) (members_sites path present_type ms) all h in
        (tt, members_all path present_type ms below)

    underlying_all : (path : List Step) (u : Underlying) → Within (underlying_sites path u) all → AllHave (underlying_sites path u)
    underlying_all path no_underlying h = tt
    underlying_all path (underlying_type t) h = type_all path bare_type t h

    members_all : (path : List Step) (role : Role) (ms : Members) → Within (members_sites path role ms) all → AllHave (members_sites path role ms)
    members_all path role no_members h = tt
    members_all path role (next_member m ms) h =
        all_append SiteHas (member_sites path role m) (members_sites path role ms)
        (member_all path role m (left (member_sites path role m) (members_sites path role ms) all h))
        (members_all path role ms (right (member_sites path role m) (members_sites path role ms) all h))

    member_all : (path : List Step) (role : Role) (m : Member) → Within (member_sites path role m) all → AllHave (member_sites path role m)
    member_all path role (named_member attributes name t) h = (tt, type_all (within path (step.Name name)) role t (rest (attributes_site attributes) (type_sites (within path (step.Name name)) role t) all h))
    member_all path role (ordinal_member attributes ordinal name t) h = (tt, type_all (within path (step.Name name)) role t (rest (attributes_site attributes) (type_sites (within path (step.Name name)) role t) all h))
    member_all path role (reserved_member attributes ordinal) h = (tt, tt)

  -- Declarations.

  part_all : (path : List Step) (role : Role) (t : Option TypeUse) → Within (part_sites path role t) all → AllHave (part_sites path role t)
  part_all path role None h = tt
  part_all path role (Some t) h = type_all path role t h

  empty_all : (path : List Step) (payload : Option TypeUse) → AllHave (empty_sites path payload)
  empty_all path None = (tt, tt)
  empty_all path (Some t) = tt

  result_all : (path : List Step) (strict : Bool) (r : Response) (b : Bool) → AllHave (result_sites path strict r b)
  result_all path strict r false = tt
  result_all path strict r true = (tt, empty_all path r.payload)

  response_all : (path : List Step) (strict : Bool) (r : Response) → Within (response_sites path strict r) all → AllHave (response_sites path strict r)
  response_all path strict r h =
      let one = part_sites (within path step.Response) any_type r.payload in
      let two = part_sites (within path step.Error) present_type r.error in
      let three = result_sites path strict r (has_result strict r.error) in
      let before = left (one ++ two) three all h in
      all_append SiteHas (one ++ two) three
      (all_append SiteHas one two (part_all (within path step.Response) any_type r.payload (left one two all before)) (part_all (within path step.Error) present_type r.error (right one two all before)))
      (result_all path strict r (has_result strict r.error))

  answer_all : (path : List Step) (strict : Bool) (r : Option Response) → Within (answer_sites path strict r) all → AllHave (answer_sites path strict r)
  answer_all path strict None h = tt
  answer_all path strict (Some r) h = response_all path strict r h

  protocol_all : (path : List Step) (m : ProtocolMember) → Within (protocol_sites path m) all → AllHave (protocol_sites path m)
  protocol_all path (compose_member attributes name) h = (tt, tt)
  protocol_all path (method_member attributes strict name request response) h =
      let one = part_sites (within (within path (step.Name name)) step.Request) any_type request in
      let two = answer_sites (within path (step.Name name)) strict response in
      let below = rest (attributes_site attributes) (one ++ two) all h in
      (tt, all_append SiteHas one two (part_all (within (within path (step.Name name)) step.Request) any_type request (left one two all below)) (answer_all (within path (step.Name name)) strict response (right one two all below)))
  protocol_all path (event_member attributes strict name payload) h =
      (tt, part_all (within (within path (step.Name name)) step.Response) any_type payload (rest (attributes_site attributes) (part_sites (within (within path (step.Name name)) step.Response) any_type payload) all h))

  each_all : {X : Type 0} (g : X → List Site) → ((x : X) → Within (g x) all → AllHave (g x)) → (xs : List X) → Within (flat_map g xs) all → AllHave (flat_map g xs)
  each_all g have [] h = tt
  each_all g have (x ∷ xs) h = all_append SiteHas (g x) (flat_map g xs) (have x (left (g x) (flat_map g xs) all h)) (each_all g have xs (right (g x) (flat_map g xs) all h))

  body_all : (path : List Step) (b : Body) → Within (body_sites path b) all → AllHave (body_sites path b)
  body_all path (const_body t v) h = type_all path any_type t h
  body_all path (alias_body t) h = type_all path aliased_type t h
  body_all path (type_body attributes l) h = (tt, layout_all path l (rest (attributes_site attributes) (layout_sites path l) all h))
  body_all path (protocol_body openness members) h = each_all (protocol_sites path) (protocol_all path) members h
  body_all path (service_body ms) h = members_all path service_type ms h
  body_all path (resource_body t properties) h =
      let one = type_sites path bare_type t in
      let two = members_sites path bare_type properties in
      all_append SiteHas one two (type_all path bare_type t (left one two all h)) (members_all path bare_type properties (right one two all h))

  declaration_all : (d : Declaration) → Within (declaration_sites d) all → AllHave (declaration_sites d)
  declaration_all d h = (tt, body_all (step.Name d.name ∷ []) d.body (rest (attributes_site d.attributes) (body_sites (step.Name d.name ∷ []) d.body) all h))

  imports_all : (imports : List Import) → AllHave (map import_site imports)
  imports_all [] = tt
  imports_all (i ∷ is) = (tt, imports_all is)

  file_all : (f : File) → Within (file_sites f) all → AllHave (file_sites f)
  file_all f h =
      let one = map import_site f.imports in
      let two = flat_map declaration_sites f.declarations in
      let below = rest (attributes_site f.attributes) (one ++ two) all h in
      (tt, all_append SiteHas one two (imports_all f.imports) (each_all declaration_sites declaration_all f.declarations (right one two all below)))

sites_have : (f : File) → AllHave (file_sites f) (file_sites f)
sites_have f = file_all (file_sites f) f (λ x h. h)

-- the first argument of a type stands where the type does
pub argument_among : (f : File) (role : Role) (t u : TypeUse) → first_type (arguments_in t) ≡ Some u → Contains (file_sites f) (type_site role t) → Contains (file_sites f) (type_site any_type u)
argument_among f role t u is among =
    let sites = file_sites f in
    let P = SiteHas sites in
    let its : P (type_site role t) = subst P among.2 (All-from_recursion P sites (sites_have f) among.0 (type_site role t) among.1) in
    subst (FirstHas sites) is its

-- the type of an alias stands where the alias does
pub alias_among : (f : File) (d : Declaration) (t : TypeUse) → Contains f.declarations d → d.body ≡ alias_body t → Contains (file_sites f) (type_site aliased_type t)
alias_among f d t declared is =
    let path = step.Name d.name ∷ [] in
    let its : Contains (body_sites path d.body) (type_site aliased_type t) = subst (λ (b : Body). Contains (body_sites path b) (type_site aliased_type t)) (sym is) (has_type (type_sites path aliased_type t) path aliased_type t (λ x h. h)) in
    let here = among_rest (attributes_site d.attributes) (type_site aliased_type t) (body_sites path d.body) its in
    let there = among_flat declaration_sites f.declarations d (type_site aliased_type t) declared here in
    let imports = map import_site f.imports in
    among_rest (attributes_site f.attributes) (type_site aliased_type t) (imports ++ flat_map declaration_sites f.declarations) (Contains-append_right imports (flat_map declaration_sites f.declarations) (type_site aliased_type t) there)
