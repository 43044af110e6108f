-- The lists of members in declarations, of layouts at every depth, services and properties, by
-- where their names stand (docs/language.md, "Members"). The one walk of specs/Spots.antt comes by
-- each layout.
use Rattle.std.specs.Prelude.{ℕ, ◌≡◌, List, [], ◌∷◌, ◌++◌, Option, Some, None, map, flat_map, take}
use Rattle.std.specs.Prelude.{slice_get}
use Rattle.std.specs.List.{Contains, AllByRecursion}
use Rattle.std.specs.Global.{Vec}
use Rattle.fidl_span.specs.declared.words.Span.{Span}
use Rattle.fidl_tree.specs.Leaf.{text_at}
use Rattle.fidl_tree.specs.Syntax.{ValueMember, Declaration, File}
use Rattle.fidl_tree.specs.Syntax.{TypeUse}
use Rattle.fidl_tree.specs.Syntax.{Layout, values_layout, struct_layout, table_layout, union_layout}
use Rattle.fidl_tree.specs.Syntax.{Members}
use Rattle.fidl_tree.specs.Syntax.{Response, ProtocolMember, compose_member, method_member}
use Rattle.fidl_tree.specs.Syntax.{event_member}
use Rattle.fidl_tree.specs.Syntax.{Body, const_body, alias_body, type_body, protocol_body}
use Rattle.fidl_tree.specs.Syntax.{service_body, resource_body}
use Rattle.fidl_named.specs.declared.fault.NameFault.{NameFault}
use Rattle.fidl_named.specs.declared.fault.NameFault.TheVariants.{DuplicateName, Memory}
use Rattle.fidl_named.specs.Names.{IsOneOf, AreDistinct}
use Rattle.fidl_named.specs.Spots.{Spot, type_spot, number_spot, layout_spot}
use Rattle.fidl_named.specs.Spots.{type_spots, layout_spots, members_spots}
use Rattle.fidl_named.specs.MemberNames.{own_names, layout_names}

-- the list that a spot of the walk makes, if it is a layout
abbrev pub spot_lists : Spot → List (List Span)
spot_lists (layout_spot l) = layout_names l ∷ []
spot_lists (type_spot of t) = []
spot_lists (number_spot of n) = []

abbrev pub lists_of : List Spot → List (List Span)
lists_of spots = flat_map spot_lists spots

-- the lists in a type
abbrev pub type_lists : TypeUse → List (List Span)
type_lists t = lists_of (type_spots None t)

-- the lists in members' types, and then the one that the members make
abbrev pub members_lists : Members → List (List Span)
members_lists ms = lists_of (members_spots ms) ++ own_names ms ∷ []

abbrev pub perhaps : {X : Type 0} → (X → List (List Span)) → Option X → List (List Span)
perhaps lists None = []
perhaps lists (Some x) = lists x

abbrev pub response_lists : Response → List (List Span)
response_lists r = perhaps type_lists r.payload ++ perhaps type_lists r.error

abbrev pub protocol_lists : ProtocolMember → List (List Span)
protocol_lists (compose_member attributes path) = []
protocol_lists (method_member attributes strict name request response) =
    perhaps type_lists request ++ perhaps response_lists response
protocol_lists (event_member attributes strict name payload) = perhaps type_lists payload

-- the lists of a declaration
abbrev pub body_lists : Body → List (List Span)
body_lists (const_body t value) = type_lists t
body_lists (alias_body t) = type_lists t
body_lists (type_body attributes layout) = lists_of (layout_spots layout)
body_lists (protocol_body openness members) = flat_map protocol_lists members
body_lists (service_body ms) = members_lists ms
body_lists (resource_body t properties) = type_lists t ++ members_lists properties

-- the members of a layout of bits or an enum; any other has none
abbrev pub layout_values : Layout → List ValueMember
layout_values (values_layout kind strict keyword u members) = members
layout_values (struct_layout is_resource keyword ms) = []
layout_values (table_layout is_resource keyword ms) = []
layout_values (union_layout strict is_resource keyword ms) = []

-- those of declared bits or a declared enum
abbrev pub body_values : Body → List ValueMember
body_values (type_body attributes layout) = layout_values layout
body_values _ = []

-- lists as vectors hold them
abbrev pub held : List (Vec Span) → List (List Span)
held lists = map (λ v. v.items) lists

-- the members of a list have different names
abbrev pub NamesDiffer : List ℕ → List Span → Type 0
NamesDiffer src names = AreDistinct (map (text_at src) names)

-- so have those of each list of a declaration
abbrev pub ListsDiffer : List ℕ → Declaration → Type 0
ListsDiffer src d = AllByRecursion (NamesDiffer src) (body_lists d.body)

-- and of each declaration of a file
abbrev pub DistinctMembers : File → Type 0
DistinctMembers f = AllByRecursion (ListsDiffer f.source) f.declarations

-- where a member of a list stands whose name one before it has
pub record RepeatsName (src : List ℕ) (names : List Span) (span : Span) : Type 0 where
  pub index : ℕ
  pub stands : slice_get names index ≡ Some span
  pub earlier : IsOneOf (take index (map (text_at src) names)) (text_at src span)

-- the same of one of these lists
pub record RepeatsIn (src : List ℕ) (lists : List (List Span)) (span : Span) : Type 0 where
  pub names : List Span
  pub list : Contains lists names
  pub repeats : RepeatsName src names span

-- the same of a declaration of a file
pub record RepeatsMember (f : File) (span : Span) : Type 0 where
  pub declaration : Declaration
  pub among : Contains f.declarations declaration
  pub repeats : RepeatsIn f.source (body_lists declaration.body) span

-- what the refusal of members says, in the file of this number: that such a member stands at the
-- place; nothing where memory ran out
abbrev pub IsRepeatedAt : (Span → Type 0) → (number : ℕ) → NameFault → Type 0
IsRepeatedAt Repeats number (DuplicateName place) = (place.file ≡ number) × Repeats place.span
IsRepeatedAt Repeats number Memory = Unit {0}
IsRepeatedAt Repeats number fault = ⊥
