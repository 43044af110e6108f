-- Declarations (docs/language.md, "Grammar"). Imports: none of them begins with `using`.
use Rattle.std.specs.Prelude.{List, ◌++◌, map, codes}
use Rattle.fidl_span.specs.declared.words.WordKind.TheVariants as kind
use Rattle.fidl_tree.specs.Leaf.{Leaf, symbol, name, keyword, optional, joined, braced}
use Rattle.fidl_tree.specs.Value.{value_leaves}
use Rattle.fidl_tree.specs.Attribute.{attributes_leaves}
use Rattle.fidl_tree.specs.Keyword.{openness_leaves}
use Rattle.fidl_tree.specs.TypeConstructor.{type_leaves, layout_leaves, member_leaves}
use Rattle.fidl_tree.specs.Protocol.{protocol_member_leaves}
use Rattle.fidl_tree.specs.declared.declaration.Declaration.{Declaration}
use Rattle.fidl_tree.specs.declared.declaration.DeclarationBody.{DeclarationBody}
use Rattle.fidl_tree.specs.declared.declaration.DeclarationBody.TheVariants as body
use Rattle.fidl_tree.specs.declared.declaration.ConstDeclaration.{ConstDeclaration}
use Rattle.fidl_tree.specs.declared.declaration.AliasDeclaration.{AliasDeclaration}
use Rattle.fidl_tree.specs.declared.declaration.TypeDeclaration.{TypeDeclaration}
use Rattle.fidl_tree.specs.declared.declaration.ProtocolDeclaration.{ProtocolDeclaration}
use Rattle.fidl_tree.specs.declared.declaration.ServiceDeclaration.{ServiceDeclaration}
use Rattle.fidl_tree.specs.declared.declaration.ResourceDefinition.{ResourceDefinition}
use Rattle.fidl_tree.specs.declared.declaration.Properties.{Properties}
use Rattle.fidl_tree.specs.declared.declaration.Property.{Property}

-- const = "const" ident type "=" value
abbrev pub const_leaves : ConstDeclaration → List Leaf
const_leaves d =
    keyword (codes "const") d.keyword ++ name d.name ++ type_leaves d.constructor
    ++ symbol kind.Equals d.equals
    ++ value_leaves d.value

-- alias = "alias" ident "=" type
abbrev pub alias_leaves : AliasDeclaration → List Leaf
alias_leaves d =
    keyword (codes "alias") d.keyword ++ name d.name ++ symbol kind.Equals d.equals
    ++ type_leaves d.constructor

-- type_declaration = "type" ident "=" layout
abbrev pub type_declaration_leaves : TypeDeclaration → List Leaf
type_declaration_leaves d =
    keyword (codes "type") d.keyword ++ name d.name ++ symbol kind.Equals d.equals
    ++ layout_leaves d.layout

-- protocol = [openness] "protocol" ident "{" { protocol_member } "}"
abbrev pub protocol_leaves : ProtocolDeclaration → List Leaf
protocol_leaves d =
    optional openness_leaves d.openness ++ keyword (codes "protocol") d.keyword ++ name d.name
    ++ braced d.left (joined (map protocol_member_leaves d.members.items)) d.right

-- service = "service" ident "{" { member } "}"
abbrev pub service_leaves : ServiceDeclaration → List Leaf
service_leaves d =
    keyword (codes "service") d.keyword ++ name d.name
    ++ braced d.left (joined (map member_leaves d.members.items)) d.right

-- property = ident type ";"
abbrev pub property_leaves : Property → List Leaf
property_leaves p = name p.name ++ type_leaves p.constructor ++ symbol kind.Semicolon p.semicolon

-- properties = "properties" "{" { property } "}" ";"
abbrev pub properties_leaves : Properties → List Leaf
properties_leaves p =
    keyword (codes "properties") p.keyword
    ++ braced p.left (joined (map property_leaves p.members.items)) p.right
    ++ symbol kind.Semicolon p.semicolon

-- resource_definition = "resource_definition" ident ":" type "{" properties "}"
abbrev pub resource_definition_leaves : ResourceDefinition → List Leaf
resource_definition_leaves d =
    keyword (codes "resource_definition") d.keyword ++ name d.name ++ symbol kind.Colon d.colon
    ++ type_leaves d.constructor
    ++ braced d.left (properties_leaves d.properties) d.right

-- declaration_body = const | alias | type_declaration | protocol | service | resource_definition
abbrev pub declaration_body_leaves : DeclarationBody → List Leaf
declaration_body_leaves (body.Const d) = const_leaves d
declaration_body_leaves (body.Alias d) = alias_leaves d
declaration_body_leaves (body.Type d) = type_declaration_leaves d
declaration_body_leaves (body.Protocol d) = protocol_leaves d
declaration_body_leaves (body.Service d) = service_leaves d
declaration_body_leaves (body.Resource d) = resource_definition_leaves d

-- declaration = attributes declaration_body ";"
abbrev pub declaration_leaves : Declaration → List Leaf
declaration_leaves d =
    attributes_leaves d.attributes.items ++ declaration_body_leaves d.body
    ++ symbol kind.Semicolon d.semicolon
