-- The members of protocols (docs/language.md, "Grammar"). Method names: `compose`, `strict` and
-- `flexible` before `(` are names of methods, since no production has `(` behind these words but
-- where they are a method's name.
use Rattle.std.specs.Prelude.{List, ◌++◌, codes}
use Rattle.fidl_span.specs.declared.words.WordKind.TheVariants as kind
use Rattle.fidl_tree.specs.Leaf.{Leaf, symbol, name, keyword, optional}
use Rattle.fidl_tree.specs.Path.{path_leaves}
use Rattle.fidl_tree.specs.Attribute.{attributes_leaves}
use Rattle.fidl_tree.specs.Keyword.{strictness_leaves}
use Rattle.fidl_tree.specs.TypeConstructor.{type_leaves}
use Rattle.fidl_tree.specs.declared.protocol.ProtocolMember.{ProtocolMember}
use Rattle.fidl_tree.specs.declared.protocol.ProtocolMemberBody.{ProtocolMemberBody}
use Rattle.fidl_tree.specs.declared.protocol.ProtocolMemberBody.TheVariants as body
use Rattle.fidl_tree.specs.declared.protocol.Compose.{Compose}
use Rattle.fidl_tree.specs.declared.protocol.Method.{Method}
use Rattle.fidl_tree.specs.declared.protocol.Response.{Response}
use Rattle.fidl_tree.specs.declared.protocol.ErrorType.{ErrorType}
use Rattle.fidl_tree.specs.declared.protocol.Event.{Event}
use Rattle.fidl_tree.specs.declared.protocol.Payload.{Payload}

-- payload = "(" [type] ")"
abbrev pub payload_leaves : Payload → List Leaf
payload_leaves p =
    symbol kind.LeftParenthesis p.left ++ optional type_leaves p.constructor
    ++ symbol kind.RightParenthesis p.right

-- compose = "compose" path
abbrev pub compose_leaves : Compose → List Leaf
compose_leaves c = keyword (codes "compose") c.keyword ++ path_leaves c.path

-- error_type = "error" type
abbrev pub error_type_leaves : ErrorType → List Leaf
error_type_leaves e = keyword (codes "error") e.keyword ++ type_leaves e.constructor

-- response = "->" payload [error_type]
abbrev pub response_leaves : Response → List Leaf
response_leaves r = symbol kind.Arrow r.arrow ++ payload_leaves r.payload
    ++ optional error_type_leaves r.error

-- method = [strictness] ident payload [response]
abbrev pub method_leaves : Method → List Leaf
method_leaves m =
    optional strictness_leaves m.strictness ++ name m.name ++ payload_leaves m.request
    ++ optional response_leaves m.response

-- event = [strictness] "->" ident payload
abbrev pub event_leaves : Event → List Leaf
event_leaves e =
    optional strictness_leaves e.strictness ++ symbol kind.Arrow e.arrow ++ name e.name
    ++ payload_leaves e.payload

-- protocol_member_body = compose | method | event
abbrev pub protocol_member_body_leaves : ProtocolMemberBody → List Leaf
protocol_member_body_leaves (body.Compose compose) = compose_leaves compose
protocol_member_body_leaves (body.Method method) = method_leaves method
protocol_member_body_leaves (body.Event event) = event_leaves event

-- protocol_member = attributes protocol_member_body ";"
abbrev pub protocol_member_leaves : ProtocolMember → List Leaf
protocol_member_leaves m =
    attributes_leaves m.attributes.items ++ protocol_member_body_leaves m.body
    ++ symbol kind.Semicolon m.semicolon
