-- In each file that the code read, the members of each struct are named.
use Rattle.std.proofs.Common.{Bool, true, false, List, [], ◌∷◌, ◌++◌, Option, Some, None, map}
use Rattle.std.specs.Prelude.{flat_map, option_map}
use Rattle.std.specs.List.{AllByRecursion}
use Rattle.fidl_tree.specs.Syntax as plain
use Rattle.fidl_tree.specs.Syntax.{TypeUse, Import, members_of}
use Rattle.fidl_tree.specs.Views.{type_view, member_view, property_view, payload_view, error_view, response_view, protocol_member_view, protocol_body_view, declared_view, declaration_view, file_view, attributes_view, is_strict}
use Rattle.fidl_tree.specs.declared.type_constructor.TypeConstructor.{TypeConstructor}
use Rattle.fidl_tree.specs.declared.type_constructor.Member.{Member}
use Rattle.fidl_tree.specs.declared.protocol.ProtocolMember.{ProtocolMember}
use Rattle.fidl_tree.specs.declared.protocol.ProtocolMemberBody.{ProtocolMemberBody}
use Rattle.fidl_tree.specs.declared.protocol.ProtocolMemberBody.TheVariants as protocol
use Rattle.fidl_tree.specs.declared.protocol.Response.{Response}
use Rattle.fidl_tree.specs.declared.protocol.ErrorType.{ErrorType}
use Rattle.fidl_tree.specs.declared.declaration.Declaration.{Declaration}
use Rattle.fidl_tree.specs.declared.declaration.DeclarationBody.{DeclarationBody}
use Rattle.fidl_tree.specs.declared.declaration.DeclarationBody.TheVariants as body
use Rattle.fidl_tree.specs.declared.declaration.Property.{Property}
use Rattle.fidl_tree.specs.declared.file.File.{File}
use Rattle.fidl_declarations.specs.declared.step.Step.{Step}
use Rattle.fidl_declarations.specs.declared.step.Step.TheVariants as step
use Rattle.fidl_declarations.specs.Sites.{Role, any_type, aliased_type, bare_type, present_type, service_type}
use Rattle.fidl_declarations.specs.Sites.{within, type_sites, members_sites, part_sites, has_result, empty_sites, result_sites, response_sites, answer_sites, protocol_sites, body_sites, declaration_sites, import_site, file_sites}
use Rattle.fidl_types.proofs.Closed.{all_append}
use Rattle.fidl_types.proofs.Made.{SiteShaped}
use Rattle.fidl_types.proofs.Shapes.{Shaped, OfMember, members_shaped, types_shaped, layouts_shaped, code_members_shaped}

-- Types that may be left out.
part_shaped : (path : List Step) (role : Role) (o : Option TypeConstructor) → Shaped (part_sites path role (option_map type_view o))
part_shaped path role None = tt
part_shaped path role (Some t) = types_shaped t path role

error_shaped : (path : List Step) (o : Option ErrorType) → Shaped (part_sites path present_type (option_map error_view o))
error_shaped path None = tt
error_shaped path (Some e) = types_shaped e.constructor path present_type

empty_shaped : (path : List Step) (payload : Option TypeUse) → Shaped (empty_sites path payload)
empty_shaped path None = (tt, tt)
empty_shaped path (Some t) = tt

result_shaped : (path : List Step) (strict : Bool) (r : plain.Response) (b : Bool) → Shaped (result_sites path strict r b)
result_shaped path strict r false = tt
result_shaped path strict r true = (tt, empty_shaped path r.payload)

response_shaped : (path : List Step) (strict : Bool) (r : Response) → Shaped (response_sites path strict (response_view r))
response_shaped path strict r =
    let one = part_sites (within path step.Response) any_type (payload_view r.payload) in
    let two = part_sites (within path step.Error) present_type (option_map error_view r.error) in
    all_append SiteShaped (one ++ two) (result_sites path strict (response_view r) (has_result strict (option_map error_view r.error)))
    (all_append SiteShaped one two (part_shaped (within path step.Response) any_type r.payload.constructor) (error_shaped (within path step.Error) r.error))
    (result_shaped path strict (response_view r) (has_result strict (option_map error_view r.error)))

answer_shaped : (path : List Step) (strict : Bool) (o : Option Response) → Shaped (answer_sites path strict (option_map response_view o))
answer_shaped path strict None = tt
answer_shaped path strict (Some r) = response_shaped path strict r

protocol_shaped : (path : List Step) (attributes : List plain.Attribute) (b : ProtocolMemberBody) → Shaped (protocol_sites path (protocol_body_view attributes b))
protocol_shaped path attributes (protocol.Compose c) = (tt, tt)
protocol_shaped path attributes (protocol.Method m) =
    let on = within path (step.Name m.name) in (
      tt,
      all_append SiteShaped (part_sites (within on step.Request) any_type (payload_view m.request)) (answer_sites on (is_strict m.strictness) (option_map response_view m.response))
          (part_shaped (within on step.Request) any_type m.request.constructor) (answer_shaped on (is_strict m.strictness) m.response),
    )
protocol_shaped path attributes (protocol.Event e) = (tt, part_shaped (within (within path (step.Name e.name)) step.Response) any_type e.payload.constructor)

protocols_shaped : (path : List Step) (ms : List ProtocolMember) → Shaped (flat_map (protocol_sites path) (map protocol_member_view ms))
protocols_shaped path [] = tt
protocols_shaped path (m ∷ ms) =
    all_append SiteShaped (protocol_sites path (protocol_member_view m)) (flat_map (protocol_sites path) (map protocol_member_view ms))
    (protocol_shaped path (attributes_view m.attributes.items) m.body) (protocols_shaped path ms)

all_members : (ms : List Member) → AllByRecursion OfMember ms
all_members [] = tt
all_members (m ∷ ms) = (code_members_shaped m, all_members ms)

properties_shaped : (path : List Step) (ps : List Property) → Shaped (members_sites path bare_type (members_of (map property_view ps)))
properties_shaped path [] = tt
properties_shaped path (p ∷ ps) = (
  tt,
  all_append SiteShaped (type_sites (within path (step.Name p.name)) bare_type (type_view p.constructor)) (members_sites path bare_type (members_of (map property_view ps)))
      (types_shaped p.constructor (within path (step.Name p.name)) bare_type) (properties_shaped path ps),
)

body_shaped : (path : List Step) (b : DeclarationBody) → Shaped (body_sites path (declared_view b))
body_shaped path (body.Const d) = types_shaped d.constructor path any_type
body_shaped path (body.Alias d) = types_shaped d.constructor path aliased_type
body_shaped path (body.«Type» d) = (tt, layouts_shaped d.layout path)
body_shaped path (body.Protocol d) = protocols_shaped path d.members.items
body_shaped path (body.Service d) = members_shaped member_view d.members.items (all_members d.members.items) path service_type
body_shaped path (body.Resource d) =
    all_append SiteShaped (type_sites path bare_type (type_view d.constructor)) (members_sites path bare_type (members_of (map property_view d.properties.members.items)))
    (types_shaped d.constructor path bare_type) (properties_shaped path d.properties.members.items)

declarations_shaped : (ds : List Declaration) → Shaped (flat_map declaration_sites (map declaration_view ds))
declarations_shaped [] = tt
declarations_shaped (d ∷ ds) =
    all_append SiteShaped (declaration_sites (declaration_view d)) (flat_map declaration_sites (map declaration_view ds))
    (tt, body_shaped (step.Name (declaration_view d).name ∷ []) d.body) (declarations_shaped ds)

imports_shaped : (imports : List Import) → Shaped (map import_site imports)
imports_shaped [] = tt
imports_shaped (i ∷ is) = (tt, imports_shaped is)

pub file_shaped : (f : File) → Shaped (file_sites (file_view f))
file_shaped f = (
  tt,
  all_append SiteShaped (map import_site (file_view f).imports) (flat_map declaration_sites (map declaration_view f.declarations.items))
      (imports_shaped (file_view f).imports) (declarations_shaped f.declarations.items),
)
