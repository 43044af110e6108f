-- One walk: what stands in a file, in the order of its source (docs/language.md, "Sites").
use Rattle.std.specs.Prelude.{Bool, true, false, List, [], ◌∷◌, ◌++◌, Option, Some, None, map}
use Rattle.std.specs.Prelude.{flat_map}
use Rattle.fidl_tree.specs.Syntax.{Path, Attribute, ValueMember, TypeUse, named_type, layout_type}
use Rattle.fidl_tree.specs.Syntax.{Arguments, no_arguments, next_argument, Argument}
use Rattle.fidl_tree.specs.Syntax.{number_argument, type_argument}
use Rattle.fidl_tree.specs.Syntax.{Layout, values_layout, struct_layout, table_layout, union_layout}
use Rattle.fidl_tree.specs.Syntax.{Underlying, no_underlying, underlying_type}
use Rattle.fidl_tree.specs.Syntax.{Members, no_members, next_member}
use Rattle.fidl_tree.specs.Syntax.{Member, named_member, ordinal_member, reserved_member}
use Rattle.fidl_tree.specs.Syntax.{Response, ProtocolMember, compose_member, method_member}
use Rattle.fidl_tree.specs.Syntax.{event_member}
use Rattle.fidl_tree.specs.Syntax.{Body, const_body, alias_body, type_body, protocol_body}
use Rattle.fidl_tree.specs.Syntax.{service_body, resource_body, Declaration, Import, File}
use Rattle.fidl_declarations.specs.declared.step.Step.{Step}
use Rattle.fidl_declarations.specs.declared.step.Step.TheVariants as step

-- what the place of a type asks of it
pub data Role : Type 0 where
  -- nothing of its own
  any_type : Role
  -- what an alias stands for: it may leave open what other places ask for
  aliased_type : Role
  -- an underlying type, or that of a property: neither arguments nor constraints
  bare_type : Role
  -- a member of a table or a union, or the type after `error`: it is never absent
  present_type : Role
  -- a member of a service
  service_type : Role
  -- the second argument of a type of this name
  second_argument : Path → Role

-- what stands in a file. A layout and a result have a path: from the name of the declaration that
-- they stand in, step by step
pub data Site : Type 0 where
  type_site : Role → TypeUse → Site
  layout_site : (path : List Step) → Layout → Site
  -- the union in which a method answers
  result_site : (path : List Step) → (strict : Bool) → Response → Site
  -- the struct in it where the method answers nothing
  empty_response_site : (path : List Step) → Site
  attributes_site : List Attribute → Site

-- a path, one step on
abbrev pub within : (path : List Step) → Step → List Step
within path step = path ++ step ∷ []

abbrev mutual
  -- what stands in a type: a layout in it has this path
  pub type_sites : (path : List Step) → Role → TypeUse → List Site
  type_sites path role (named_type name arguments constraints) =
      type_site role (named_type name arguments constraints) ∷ arguments_sites path name arguments
  type_sites path role (layout_type attributes l constraints) =
      type_site role (layout_type attributes l constraints)
      ∷ attributes_site attributes ∷ layout_sites path l

  -- in the arguments of a type of this name
  pub arguments_sites : (path : List Step) → (head : Path) → Arguments → List Site
  arguments_sites path head no_arguments = []
  arguments_sites path head (next_argument a rest) =
      argument_sites path any_type a ++ further_sites path (second_argument head) rest

  -- in further arguments, of which the first has this role
  pub further_sites : (path : List Step) → Role → Arguments → List Site
  further_sites path role no_arguments = []
  further_sites path role (next_argument a rest) =
      argument_sites path role a ++ further_sites path any_type rest

  pub argument_sites : (path : List Step) → Role → Argument → List Site
  argument_sites path role (number_argument n) = []
  argument_sites path role (type_argument t) = type_sites path role t

  -- a layout of this path, and what stands in it
  pub layout_sites : (path : List Step) → Layout → List Site
  layout_sites path (values_layout kind strict keyword u members) =
      layout_site path (values_layout kind strict keyword u members)
      ∷ underlying_sites path u
      ++ map (λ (m : ValueMember). attributes_site m.attributes) members
  layout_sites path (struct_layout is_resource keyword ms) =
      layout_site path (struct_layout is_resource keyword ms) ∷ members_sites path any_type ms
  layout_sites path (table_layout is_resource keyword ms) =
      layout_site path (table_layout is_resource keyword ms) ∷ members_sites path present_type ms
  layout_sites path (union_layout strict is_resource keyword ms) =
      layout_site path (union_layout strict is_resource keyword ms)
      ∷ members_sites path present_type ms

  pub underlying_sites : (path : List Step) → Underlying → List Site
  underlying_sites path no_underlying = []
  underlying_sites path (underlying_type t) = type_sites path bare_type t

  -- in members whose types have this role
  pub members_sites : (path : List Step) → Role → Members → List Site
  members_sites path role no_members = []
  members_sites path role (next_member m ms) =
      member_sites path role m ++ members_sites path role ms

  pub member_sites : (path : List Step) → Role → Member → List Site
  member_sites path role (named_member attributes name t) =
      attributes_site attributes ∷ type_sites (within path (step.Name name)) role t
  member_sites path role (ordinal_member attributes ordinal name t) =
      attributes_site attributes ∷ type_sites (within path (step.Name name)) role t
  member_sites path role (reserved_member attributes ordinal) = attributes_site attributes ∷ []

-- in a payload or the type behind `error`, where one is written
abbrev pub part_sites : (path : List Step) → Role → Option TypeUse → List Site
part_sites path role None = []
part_sites path role (Some t) = type_sites path role t

-- a response with an `error`, and each of a flexible method, is a union
abbrev pub has_result : (strict : Bool) → (error : Option TypeUse) → Bool
has_result true None = false
has_result true (Some t) = true
has_result false error = true

-- the struct in the result of a method that answers nothing
abbrev pub empty_sites : (path : List Step) → (payload : Option TypeUse) → List Site
empty_sites path None = empty_response_site (within path step.Response) ∷ []
empty_sites path (Some t) = []

-- the result of a method of this path, if it has one
abbrev pub result_sites : (path : List Step) → (strict : Bool) → Response → (has_result : Bool)
    → List Site
result_sites path strict r false = []
result_sites path strict r true =
    result_site (within path step.Result) strict r ∷ empty_sites path r.payload

-- in the response of a method
abbrev pub response_sites : (path : List Step) → (strict : Bool) → Response → List Site
response_sites path strict r =
    part_sites (within path step.Response) any_type r.payload
    ++ part_sites (within path step.Error) present_type r.error
    ++ result_sites path strict r (has_result strict r.error)

abbrev pub answer_sites : (path : List Step) → (strict : Bool) → Option Response → List Site
answer_sites path strict None = []
answer_sites path strict (Some r) = response_sites path strict r

-- in a member of a protocol of this path
abbrev pub protocol_sites : (path : List Step) → ProtocolMember → List Site
protocol_sites path (compose_member attributes name) = attributes_site attributes ∷ []
protocol_sites path (method_member attributes strict name request response) =
    attributes_site attributes
    ∷ part_sites (within (within path (step.Name name)) step.Request) any_type request
    ++ answer_sites (within path (step.Name name)) strict response
protocol_sites path (event_member attributes strict name payload) =
    attributes_site attributes
    ∷ part_sites (within (within path (step.Name name)) step.Response) any_type payload

-- in a declaration of this path
abbrev pub body_sites : (path : List Step) → Body → List Site
body_sites path (const_body t v) = type_sites path any_type t
body_sites path (alias_body t) = type_sites path aliased_type t
body_sites path (type_body attributes l) = attributes_site attributes ∷ layout_sites path l
body_sites path (protocol_body openness members) = flat_map (protocol_sites path) members
body_sites path (service_body ms) = members_sites path service_type ms
body_sites path (resource_body t properties) =
    type_sites path bare_type t ++ members_sites path bare_type properties

-- a declaration's path is its name
abbrev pub declaration_sites : Declaration → List Site
declaration_sites d = attributes_site d.attributes ∷ body_sites (step.Name d.name ∷ []) d.body

abbrev pub import_site : Import → Site
import_site i = attributes_site i.attributes

-- what stands in a file
abbrev pub file_sites : File → List Site
file_sites f =
    attributes_site f.attributes
    ∷ map import_site f.imports ++ flat_map declaration_sites f.declarations
