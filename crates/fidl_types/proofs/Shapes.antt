-- In what the code read, the members of each struct are named: by induction over its types.
use Rattle.std.proofs.Common.{rules, ◌≡◌, List, [], ◌∷◌, Option, Some, None, map, refl, ap, sym, subst, ◌∙◌}
use Rattle.std.specs.List.{AllByRecursion}
use Rattle.fidl_span.specs.declared.words.Span.{Span}
use Rattle.fidl_tree.specs.Syntax as plain
use Rattle.fidl_tree.specs.Syntax.{TypeUse, named_type, layout_type, Arguments, no_arguments, next_argument, arguments_of, Argument, number_argument, type_argument, Path}
use Rattle.fidl_tree.specs.Syntax.{values_layout, struct_layout, table_layout, union_layout, no_underlying, underlying_type, Members, no_members, next_member, members_of, named_member, ordinal_member, reserved_member}
use Rattle.fidl_tree.specs.Views.{path_view, attributes_view, kind_view, keyword_span, is_strict, is_strict_union, value_member_view, type_view, named_view, type_arguments_view, next_argument_view, argument_view, layout_view, body_view, values_view, member_view, ordinal_member_view}
use Rattle.fidl_tree.specs.declared.type_constructor.TypeConstructor.{TypeConstructor, map-TypeConstructor, roll-TypeConstructor}
use Rattle.fidl_tree.specs.declared.type_constructor.NamedType.{NamedType, map-NamedType, out-NamedType, roll-NamedType, out-roll-NamedType}
use Rattle.fidl_tree.specs.declared.type_constructor.TypeArguments.{TypeArguments, out-TypeArguments, roll-TypeArguments, out-roll-TypeArguments}
use Rattle.fidl_tree.specs.declared.type_constructor.NextTypeArgument.{NextTypeArgument, roll-NextTypeArgument}
use Rattle.fidl_tree.specs.declared.type_constructor.TypeArgument.{TypeArgument, map-TypeArgument, roll-TypeArgument}
use Rattle.fidl_tree.specs.declared.type_constructor.Layout.{Layout, roll-Layout}
use Rattle.fidl_tree.specs.declared.type_constructor.LayoutBody.{LayoutBody, map-LayoutBody, roll-LayoutBody}
use Rattle.fidl_tree.specs.declared.type_constructor.LayoutBody.TheVariants.{rolls-Values, rolls-Struct, rolls-Table, rolls-Union}
use Rattle.fidl_tree.specs.declared.type_constructor.ValuesLayout as values
use Rattle.fidl_tree.specs.declared.type_constructor.ValuesLayout.{ValuesLayout, map-ValuesLayout, out-ValuesLayout, roll-ValuesLayout, out-roll-ValuesLayout}
use Rattle.fidl_tree.specs.declared.type_constructor.StructLayout.{StructLayout, out-StructLayout, roll-StructLayout, out-roll-StructLayout}
use Rattle.fidl_tree.specs.declared.type_constructor.TableLayout.{TableLayout, out-TableLayout, roll-TableLayout, out-roll-TableLayout}
use Rattle.fidl_tree.specs.declared.type_constructor.UnionLayout.{UnionLayout, out-UnionLayout, roll-UnionLayout, out-roll-UnionLayout}
use Rattle.fidl_tree.specs.declared.type_constructor.Underlying as underlying
use Rattle.fidl_tree.specs.declared.type_constructor.Underlying.{Underlying, out-Underlying, roll-Underlying, out-roll-Underlying}
use Rattle.fidl_tree.specs.declared.type_constructor.Member.{Member, out-Member, roll-Member}
use Rattle.fidl_tree.specs.declared.type_constructor.OrdinalMember.{OrdinalMember, out-OrdinalMember, roll-OrdinalMember, out-roll-OrdinalMember}
use Rattle.fidl_tree.specs.declared.type_constructor.OrdinalBody.{OrdinalBody, map-OrdinalBody, out-OrdinalBody, roll-OrdinalBody, out-roll-OrdinalBody, roll-out-OrdinalBody}
use Rattle.fidl_tree.specs.declared.type_constructor.OrdinalBody.TheVariants as ordinal
use Rattle.fidl_tree.specs.declared.type_constructor.LayoutBody.TheOpen.{TypeConstructor-F, NamedType-F, TypeArguments-F, NextTypeArgument-F, TypeArgument-F, Layout-F, LayoutBody-F, ValuesLayout-F, StructLayout-F, TableLayout-F, UnionLayout-F, Underlying-F, Member-F, OrdinalMember-F, OrdinalBody-F}
use Rattle.fidl_tree.specs.declared.type_constructor.LayoutBody.TheFolds.{fold_out-Member, fold-roll-TypeConstructor, fold-roll-Layout, fold-roll-TypeArgument, fold-roll-NextTypeArgument, fold-roll-Member, ind-TypeConstructor, ind-Layout}
use Rattle.fidl_constraints.specs.BehindViews.{arguments_view}
use Rattle.fidl_constraints.proofs.Naming.{named_seen}
use Rattle.fidl_declarations.specs.declared.step.Step.{Step}
use Rattle.fidl_declarations.specs.declared.step.Step.TheVariants as step
use Rattle.fidl_declarations.specs.Sites.{Role, any_type, present_type, bare_type, second_argument, Site, attributes_site, within, type_sites, arguments_sites, further_sites, argument_sites, layout_sites, underlying_sites, members_sites, member_sites}
use Rattle.fidl_lower_types.proofs.Heads.{arguments_seen}
use Rattle.fidl_lower_layouts.specs.Members.{members_in}
use Rattle.fidl_lower_layouts.proofs.Bodies.{values_body, struct_is, table_is, union_is}
use Rattle.fidl_lower_layouts.proofs.Numbered.{typed_is, reserved_is}
use Rattle.fidl_types.proofs.Closed.{all_append}
use Rattle.fidl_types.proofs.Made.{IsNamed, SiteShaped}

-- What is to hold of plain syntax.

abbrev pub Shaped : List Site → Type 0
Shaped sites = AllByRecursion SiteShaped sites

abbrev pub TypeShaped : TypeUse → Type 0
TypeShaped t = (path : List Step) (role : Role) → Shaped (type_sites path role t)

abbrev ArgumentsShaped : Arguments → Type 0
ArgumentsShaped a = (path : List Step) (head : Path) → Shaped (arguments_sites path head a)

abbrev ArgumentShaped : Argument → Type 0
ArgumentShaped a = (path : List Step) (role : Role) → Shaped (argument_sites path role a)

abbrev pub AllOf : plain.Layout → Type 0
AllOf l = (path : List Step) → Shaped (layout_sites path l)

abbrev pub MemberShaped : plain.Member → Type 0
MemberShaped m = (path : List Step) (role : Role) → Shaped (member_sites path role m)

further_shaped : (xs : List NextTypeArgument) → AllByRecursion (λ (n : NextTypeArgument). ArgumentShaped (next_argument_view n)) xs → (path : List Step) (role : Role) → Shaped (further_sites path role (arguments_of (map next_argument_view xs)))
further_shaped [] h path role = tt
further_shaped (n ∷ ns) h path role =
    all_append SiteShaped (argument_sites path role (next_argument_view n)) (further_sites path any_type (arguments_of (map next_argument_view ns))) (h.0 path role) (further_shaped ns h.1 path any_type)

pub members_shaped : {X : Type 0} (view : X → plain.Member) (xs : List X) → AllByRecursion (λ (x : X). MemberShaped (view x)) xs → (path : List Step) (role : Role) → Shaped (members_sites path role (members_of (map view xs)))
members_shaped view [] h path role = tt
members_shaped view (x ∷ xs) h path role =
    all_append SiteShaped (member_sites path role (view x)) (members_sites path role (members_of (map view xs))) (h.0 path role) (members_shaped view xs h.1 path role)

member_is : (m : Member) → member_view m ≡ named_member (attributes_view (out-Member m).attributes.items) (out-Member m).name (type_view (out-Member m).constructor)
member_is m = rw fold_out-Member refl

all_named : (xs : List Member) → AllByRecursion IsNamed (members_in (members_of (map member_view xs)))
all_named [] = tt
all_named (m ∷ ms) = (subst IsNamed (sym (member_is m)) tt, all_named ms)

attributes_shaped : (members : List plain.ValueMember) → Shaped (map (λ (m : plain.ValueMember). attributes_site m.attributes) members)
attributes_shaped [] = tt
attributes_shaped (m ∷ ms) = (tt, attributes_shaped ms)

-- What is to hold of the code's types.

abbrev ArgumentsIf : Option TypeArguments → Type 0
ArgumentsIf None = Unit {0}
ArgumentsIf (Some a) = ArgumentsShaped (type_arguments_view a)

abbrev OfBody : LayoutBody → Type 0
OfBody b = AllOf (body_view b)

abbrev pub OfType : TypeConstructor → Type 0
OfType t = TypeShaped (type_view t)

abbrev OfNamed : NamedType → Type 0
OfNamed n = TypeShaped (named_view n)

abbrev OfArguments : TypeArguments → Type 0
OfArguments a = ArgumentsShaped (type_arguments_view a)

abbrev OfNext : NextTypeArgument → Type 0
OfNext n = ArgumentShaped (next_argument_view n)

abbrev OfArgument : TypeArgument → Type 0
OfArgument a = ArgumentShaped (argument_view a)

abbrev pub OfLayout : Layout → Type 0
OfLayout l = AllOf (layout_view l).1

abbrev OfValues : ValuesLayout → Type 0
OfValues l = AllOf (values_view l)

abbrev pub OfMember : Member → Type 0
OfMember m = MemberShaped (member_view m)

abbrev OfOrdinal : OrdinalMember → Type 0
OfOrdinal m = MemberShaped (ordinal_member_view m)

abbrev OfStruct : StructLayout → Type 0
OfStruct l = AllByRecursion OfMember (out-StructLayout l).members.items

abbrev OfTable : TableLayout → Type 0
OfTable l = AllByRecursion OfOrdinal (out-TableLayout l).members.items

abbrev OfUnion : UnionLayout → Type 0
OfUnion l = AllByRecursion OfOrdinal (out-UnionLayout l).members.items

abbrev OfUnderlying : Underlying → Type 0
OfUnderlying u = TypeShaped (named_view (out-Underlying u).named)

abbrev UnderlyingIf : Option Underlying → Type 0
UnderlyingIf None = Unit {0}
UnderlyingIf (Some u) = OfUnderlying u

-- one level, of whole types
abbrev Whole : (Type 0 → Type 0 → Type 0 → Type 0 → Type 0 → Type 0 → Type 0 → Type 0 → Type 0 → Type 0 → Type 0 → Type 0 → Type 0 → Type 0 → Type 0 → Type 0) → Type 0
Whole F = F LayoutBody OrdinalBody TypeArgument TypeConstructor Layout Member NamedType NextTypeArgument OrdinalMember StructLayout TableLayout TypeArguments Underlying UnionLayout ValuesLayout

abbrev TypedShaped : Whole OrdinalBody-F → Type 0
TypedShaped (OrdinalBody-F.Reserved s) = Unit {0}
TypedShaped (OrdinalBody-F.Typed s t) = OfType t

abbrev OfOrdinalBody : OrdinalBody → Type 0
OfOrdinalBody b = TypedShaped (out-OrdinalBody b)

-- From the parts to the whole.

named_of : (n : NamedType) → ArgumentsIf (out-NamedType n).arguments → OfNamed n
named_of n h path role = subst (λ (t : TypeUse). Shaped (type_sites path role t)) (sym (named_seen n)) (tt, by_arguments (out-NamedType n).arguments h)
  where
    by_arguments : (o : Option TypeArguments) → ArgumentsIf o → Shaped (arguments_sites path (path_view (out-NamedType n).path) (arguments_view o))
    by_arguments None k = tt
    by_arguments (Some a) k = k path (path_view (out-NamedType n).path)

arguments_of_parts : (a : TypeArguments) → OfArgument (out-TypeArguments a).first.value → AllByRecursion OfNext (out-TypeArguments a).rest.items → OfArguments a
arguments_of_parts a first rest path head =
    subst (λ (x : Arguments). Shaped (arguments_sites path head x)) (sym (arguments_seen a))
    (all_append SiteShaped (argument_sites path any_type (argument_view (out-TypeArguments a).first.value)) (further_sites path (second_argument head) (arguments_of (map next_argument_view (out-TypeArguments a).rest.items)))
    (first path any_type) (further_shaped (out-TypeArguments a).rest.items rest path (second_argument head)))

abbrev after_colon : Option Underlying → plain.Underlying
after_colon None = no_underlying
after_colon (Some u) = underlying_type (named_view (out-Underlying u).named)

abbrev values_with : ValuesLayout → Option Underlying → plain.Layout
values_with l u = values_layout (kind_view (out-ValuesLayout l).keyword) (is_strict (out-ValuesLayout l).strictness) (keyword_span (out-ValuesLayout l).keyword) (after_colon u) (map value_member_view (out-ValuesLayout l).members.items)

values_are : (l : ValuesLayout) (u : Option Underlying) → (out-ValuesLayout l).underlying ≡ u → values_view l ≡ values_with l u
values_are l None is = search (rules, values.the_lemmas, is)
values_are l (Some u) is = search (rules, values.the_lemmas, underlying.the_lemmas, is)

values_of_parts : (l : ValuesLayout) → UnderlyingIf (out-ValuesLayout l).underlying → OfValues l
values_of_parts l h path =
    subst (λ (x : plain.Layout). Shaped (layout_sites path x)) (sym (values_are l (out-ValuesLayout l).underlying refl)) (
      tt,
      all_append SiteShaped (underlying_sites path (after_colon (out-ValuesLayout l).underlying)) (map (λ (m : plain.ValueMember). attributes_site m.attributes) (map value_member_view (out-ValuesLayout l).members.items))
          (by_underlying (out-ValuesLayout l).underlying h) (attributes_shaped (map value_member_view (out-ValuesLayout l).members.items)),
    )
  where
    by_underlying : (u : Option Underlying) → UnderlyingIf u → Shaped (underlying_sites path (after_colon u))
    by_underlying None k = tt
    by_underlying (Some u) k = k path bare_type

body_of_values : (l : ValuesLayout) → OfValues l → OfBody (roll-LayoutBody (LayoutBody-F.Values l))
body_of_values l h path = subst (λ (x : plain.Layout). Shaped (layout_sites path x)) (values_body (roll-LayoutBody (LayoutBody-F.Values l)) l (rolls-Values l)) (h path)

body_of_struct : (l : StructLayout) → OfStruct l → OfBody (roll-LayoutBody (LayoutBody-F.Struct l))
body_of_struct l h path =
    subst (λ (x : plain.Layout). Shaped (layout_sites path x)) (sym (struct_is (roll-LayoutBody (LayoutBody-F.Struct l)) l (rolls-Struct l) (out-StructLayout l).members.items refl))
    (all_named (out-StructLayout l).members.items, members_shaped member_view (out-StructLayout l).members.items h path any_type)

body_of_table : (l : TableLayout) → OfTable l → OfBody (roll-LayoutBody (LayoutBody-F.Table l))
body_of_table l h path =
    subst (λ (x : plain.Layout). Shaped (layout_sites path x)) (sym (table_is (roll-LayoutBody (LayoutBody-F.Table l)) l (rolls-Table l) (out-TableLayout l).members.items refl))
    (tt, members_shaped ordinal_member_view (out-TableLayout l).members.items h path present_type)

body_of_union : (l : UnionLayout) → OfUnion l → OfBody (roll-LayoutBody (LayoutBody-F.Union l))
body_of_union l h path =
    subst (λ (x : plain.Layout). Shaped (layout_sites path x)) (sym (union_is (roll-LayoutBody (LayoutBody-F.Union l)) l (rolls-Union l) (is_strict_union (out-UnionLayout l).modifiers) refl (out-UnionLayout l).members.items refl))
    (tt, members_shaped ordinal_member_view (out-UnionLayout l).members.items h path present_type)

ordinal_of_body : (m : OrdinalMember) → OfOrdinalBody (out-OrdinalMember m).body → OfOrdinal m
ordinal_of_body m h = by_body (out-OrdinalBody (out-OrdinalMember m).body) refl h
  where
    by_body : (w : Whole OrdinalBody-F) → out-OrdinalBody (out-OrdinalMember m).body ≡ w → TypedShaped w → OfOrdinal m
    by_body (OrdinalBody-F.Reserved s) is k path role =
        subst (λ (x : plain.Member). Shaped (member_sites path role x)) (sym (reserved_is m s (sym (roll-out-OrdinalBody (out-OrdinalMember m).body) ∙ ap roll-OrdinalBody is ∙ ordinal.rolls-Reserved s))) (tt, tt)
    by_body (OrdinalBody-F.Typed s t) is k path role =
        subst (λ (x : plain.Member). Shaped (member_sites path role x)) (sym (typed_is m s t (sym (roll-out-OrdinalBody (out-OrdinalMember m).body) ∙ ap roll-OrdinalBody is ∙ ordinal.rolls-Typed s t))) (tt, k (within path (step.Name s)) role)

-- One level.

all_pairs : {X : Type 0} (P : X → Type 0) (xs : List ((x : X) × P x)) → AllByRecursion P (map (λ e. e.0) xs)
all_pairs P [] = tt
all_pairs P (x ∷ xs) = (x.1, all_pairs P xs)

ordinal_body_step : (x : Whole OrdinalBody-F) → TypedShaped x → OfOrdinalBody (roll-OrdinalBody x)
ordinal_body_step x h = subst TypedShaped (sym (out-roll-OrdinalBody x)) h

argument_of_number : (s : Span) → OfArgument (roll-TypeArgument (TypeArgument-F.Number s))
argument_of_number s path role = rw fold-roll-TypeArgument tt

argument_of_type : (t : TypeConstructor) → OfType t → OfArgument (roll-TypeArgument (TypeArgument-F.Type t))
argument_of_type t h path role = rw fold-roll-TypeArgument (h path role)

abbrev TypeParts : Whole TypeConstructor-F → Type 0
TypeParts (TypeConstructor-F.Layout l constraints) = OfLayout l.value
TypeParts (TypeConstructor-F.Named n) = OfNamed n.value

type_step : (x : Whole TypeConstructor-F) → TypeParts x → OfType (roll-TypeConstructor x)
type_step (TypeConstructor-F.Layout l constraints) h path role = rw fold-roll-TypeConstructor (tt, (tt, h path))
type_step (TypeConstructor-F.Named n) h path role = rw fold-roll-TypeConstructor (h path role)

layout_step : (x : Whole Layout-F) → OfBody x.body → OfLayout (roll-Layout x)
layout_step x h path = rw fold-roll-Layout (h path)

member_step : (x : Whole Member-F) → OfType x.constructor → OfMember (roll-Member x)
member_step x h path role = rw fold-roll-Member (tt, h (within path (step.Name x.name)) role)

named_step : (x : Whole NamedType-F) → ArgumentsIf x.arguments → OfNamed (roll-NamedType x)
named_step x h = named_of (roll-NamedType x) (subst (λ (z : Whole NamedType-F). ArgumentsIf z.arguments) (sym (out-roll-NamedType x)) h)

next_step : (x : Whole NextTypeArgument-F) → OfArgument x.argument → OfNext (roll-NextTypeArgument x)
next_step x h path role = rw fold-roll-NextTypeArgument (h path role)

ordinal_step : (x : Whole OrdinalMember-F) → OfOrdinalBody x.body → OfOrdinal (roll-OrdinalMember x)
ordinal_step x h = ordinal_of_body (roll-OrdinalMember x) (subst (λ (z : Whole OrdinalMember-F). OfOrdinalBody z.body) (sym (out-roll-OrdinalMember x)) h)

struct_step : (x : Whole StructLayout-F) → AllByRecursion OfMember x.members.items → OfStruct (roll-StructLayout x)
struct_step x h = subst (λ (z : Whole StructLayout-F). AllByRecursion OfMember z.members.items) (sym (out-roll-StructLayout x)) h

table_step : (x : Whole TableLayout-F) → AllByRecursion OfOrdinal x.members.items → OfTable (roll-TableLayout x)
table_step x h = subst (λ (z : Whole TableLayout-F). AllByRecursion OfOrdinal z.members.items) (sym (out-roll-TableLayout x)) h

union_step : (x : Whole UnionLayout-F) → AllByRecursion OfOrdinal x.members.items → OfUnion (roll-UnionLayout x)
union_step x h = subst (λ (z : Whole UnionLayout-F). AllByRecursion OfOrdinal z.members.items) (sym (out-roll-UnionLayout x)) h

arguments_step : (x : Whole TypeArguments-F) → OfArgument x.first.value → AllByRecursion OfNext x.rest.items → OfArguments (roll-TypeArguments x)
arguments_step x first rest =
    arguments_of_parts (roll-TypeArguments x)
    (subst (λ (z : Whole TypeArguments-F). OfArgument z.first.value) (sym (out-roll-TypeArguments x)) first)
    (subst (λ (z : Whole TypeArguments-F). AllByRecursion OfNext z.rest.items) (sym (out-roll-TypeArguments x)) rest)

underlying_step : (x : Whole Underlying-F) → OfNamed x.named → OfUnderlying (roll-Underlying x)
underlying_step x h = subst (λ (z : Whole Underlying-F). OfNamed z.named) (sym (out-roll-Underlying x)) h

values_step : (x : Whole ValuesLayout-F) → UnderlyingIf x.underlying → OfValues (roll-ValuesLayout x)
values_step x h = values_of_parts (roll-ValuesLayout x) (subst (λ (z : Whole ValuesLayout-F). UnderlyingIf z.underlying) (sym (out-roll-ValuesLayout x)) h)

-- one level, of whole types with what holds of them
abbrev Paired : (Type 0 → Type 0 → Type 0 → Type 0 → Type 0 → Type 0 → Type 0 → Type 0 → Type 0 → Type 0 → Type 0 → Type 0 → Type 0 → Type 0 → Type 0 → Type 0) → Type 0
Paired F =
    F ((b : LayoutBody) × OfBody b) ((b : OrdinalBody) × OfOrdinalBody b) ((a : TypeArgument) × OfArgument a) ((t : TypeConstructor) × OfType t) ((l : Layout) × OfLayout l) ((m : Member) × OfMember m) ((n : NamedType) × OfNamed n) ((n : NextTypeArgument) × OfNext n)
    ((m : OrdinalMember) × OfOrdinal m) ((l : StructLayout) × OfStruct l) ((l : TableLayout) × OfTable l) ((a : TypeArguments) × OfArguments a) ((u : Underlying) × OfUnderlying u) ((l : UnionLayout) × OfUnion l) ((l : ValuesLayout) × OfValues l)

abbrev BodyParts : Whole LayoutBody-F → Type 0
BodyParts (LayoutBody-F.Values l) = OfValues l
BodyParts (LayoutBody-F.Struct l) = OfStruct l
BodyParts (LayoutBody-F.Table l) = OfTable l
BodyParts (LayoutBody-F.Union l) = OfUnion l

body_step : (x : Whole LayoutBody-F) → BodyParts x → OfBody (roll-LayoutBody x)
body_step (LayoutBody-F.Values l) h = body_of_values l h
body_step (LayoutBody-F.Struct l) h = body_of_struct l h
body_step (LayoutBody-F.Table l) h = body_of_table l h
body_step (LayoutBody-F.Union l) h = body_of_union l h

abbrev ArgumentParts : Whole TypeArgument-F → Type 0
ArgumentParts (TypeArgument-F.Number s) = Unit {0}
ArgumentParts (TypeArgument-F.Type t) = OfType t

argument_step : (x : Whole TypeArgument-F) → ArgumentParts x → OfArgument (roll-TypeArgument x)
argument_step (TypeArgument-F.Number s) h = argument_of_number s
argument_step (TypeArgument-F.Type t) h = argument_of_type t h

-- by cases of a level, whatever forgets what holds of its parts
body_parts : (forget : Paired LayoutBody-F → Whole LayoutBody-F) → ((l : _) → forget (LayoutBody-F.Values l) ≡ LayoutBody-F.Values l.0) → ((l : _) → forget (LayoutBody-F.Struct l) ≡ LayoutBody-F.Struct l.0) → ((l : _) → forget (LayoutBody-F.Table l) ≡ LayoutBody-F.Table l.0) → ((l : _) → forget (LayoutBody-F.Union l) ≡ LayoutBody-F.Union l.0)
    → (y : Paired LayoutBody-F) → BodyParts (forget y)
body_parts forget v s t u (LayoutBody-F.Values l) = subst BodyParts (sym (v l)) l.1
body_parts forget v s t u (LayoutBody-F.Struct l) = subst BodyParts (sym (s l)) l.1
body_parts forget v s t u (LayoutBody-F.Table l) = subst BodyParts (sym (t l)) l.1
body_parts forget v s t u (LayoutBody-F.Union l) = subst BodyParts (sym (u l)) l.1

abbrev forget_ordinal : Paired OrdinalBody-F → Whole OrdinalBody-F
forget_ordinal = map-OrdinalBody _ _ _ _ _ _ _ _ _ _ _ _ _ _ _ _ _ _ _ _ _ _ _ _ _ _ _ _ _ _ (λ (e : (x : LayoutBody) × OfBody x). e.0) (λ (e : (x : OrdinalBody) × OfOrdinalBody x). e.0) (λ (e : (x : TypeArgument) × OfArgument x). e.0) (λ (e : (x : TypeConstructor) × OfType x). e.0) (λ (e : (x : Layout) × OfLayout x). e.0) (λ (e : (x : Member) × OfMember x). e.0) (λ (e : (x : NamedType) × OfNamed x). e.0) (λ (e : (x : NextTypeArgument) × OfNext x). e.0) (λ (e : (x : OrdinalMember) × OfOrdinal x). e.0) (λ (e : (x : StructLayout) × OfStruct x). e.0) (λ (e : (x : TableLayout) × OfTable x). e.0) (λ (e : (x : TypeArguments) × OfArguments x). e.0) (λ (e : (x : Underlying) × OfUnderlying x). e.0) (λ (e : (x : UnionLayout) × OfUnion x). e.0) (λ (e : (x : ValuesLayout) × OfValues x). e.0)

abbrev forget_argument : Paired TypeArgument-F → Whole TypeArgument-F
forget_argument = map-TypeArgument _ _ _ _ _ _ _ _ _ _ _ _ _ _ _ _ _ _ _ _ _ _ _ _ _ _ _ _ _ _ (λ (e : (x : LayoutBody) × OfBody x). e.0) (λ (e : (x : OrdinalBody) × OfOrdinalBody x). e.0) (λ (e : (x : TypeArgument) × OfArgument x). e.0) (λ (e : (x : TypeConstructor) × OfType x). e.0) (λ (e : (x : Layout) × OfLayout x). e.0) (λ (e : (x : Member) × OfMember x). e.0) (λ (e : (x : NamedType) × OfNamed x). e.0) (λ (e : (x : NextTypeArgument) × OfNext x). e.0) (λ (e : (x : OrdinalMember) × OfOrdinal x). e.0) (λ (e : (x : StructLayout) × OfStruct x). e.0) (λ (e : (x : TableLayout) × OfTable x). e.0) (λ (e : (x : TypeArguments) × OfArguments x). e.0) (λ (e : (x : Underlying) × OfUnderlying x). e.0) (λ (e : (x : UnionLayout) × OfUnion x). e.0) (λ (e : (x : ValuesLayout) × OfValues x). e.0)

abbrev forget_type : Paired TypeConstructor-F → Whole TypeConstructor-F
forget_type = map-TypeConstructor _ _ _ _ _ _ _ _ _ _ _ _ _ _ _ _ _ _ _ _ _ _ _ _ _ _ _ _ _ _ (λ (e : (x : LayoutBody) × OfBody x). e.0) (λ (e : (x : OrdinalBody) × OfOrdinalBody x). e.0) (λ (e : (x : TypeArgument) × OfArgument x). e.0) (λ (e : (x : TypeConstructor) × OfType x). e.0) (λ (e : (x : Layout) × OfLayout x). e.0) (λ (e : (x : Member) × OfMember x). e.0) (λ (e : (x : NamedType) × OfNamed x). e.0) (λ (e : (x : NextTypeArgument) × OfNext x). e.0) (λ (e : (x : OrdinalMember) × OfOrdinal x). e.0) (λ (e : (x : StructLayout) × OfStruct x). e.0) (λ (e : (x : TableLayout) × OfTable x). e.0) (λ (e : (x : TypeArguments) × OfArguments x). e.0) (λ (e : (x : Underlying) × OfUnderlying x). e.0) (λ (e : (x : UnionLayout) × OfUnion x). e.0) (λ (e : (x : ValuesLayout) × OfValues x). e.0)

abbrev forget_whole : Paired LayoutBody-F → Whole LayoutBody-F
forget_whole = map-LayoutBody _ _ _ _ _ _ _ _ _ _ _ _ _ _ _ _ _ _ _ _ _ _ _ _ _ _ _ _ _ _ (λ (e : (x : LayoutBody) × OfBody x). e.0) (λ (e : (x : OrdinalBody) × OfOrdinalBody x). e.0) (λ (e : (x : TypeArgument) × OfArgument x). e.0) (λ (e : (x : TypeConstructor) × OfType x). e.0) (λ (e : (x : Layout) × OfLayout x). e.0) (λ (e : (x : Member) × OfMember x). e.0) (λ (e : (x : NamedType) × OfNamed x). e.0) (λ (e : (x : NextTypeArgument) × OfNext x). e.0) (λ (e : (x : OrdinalMember) × OfOrdinal x). e.0) (λ (e : (x : StructLayout) × OfStruct x). e.0) (λ (e : (x : TableLayout) × OfTable x). e.0) (λ (e : (x : TypeArguments) × OfArguments x). e.0) (λ (e : (x : Underlying) × OfUnderlying x). e.0) (λ (e : (x : UnionLayout) × OfUnion x). e.0) (λ (e : (x : ValuesLayout) × OfValues x). e.0)

-- All levels.

abbrev forget_named : Paired NamedType-F → Whole NamedType-F
forget_named = map-NamedType _ _ _ _ _ _ _ _ _ _ _ _ _ _ _ _ _ _ _ _ _ _ _ _ _ _ _ _ _ _ (λ (e : (x : LayoutBody) × OfBody x). e.0) (λ (e : (x : OrdinalBody) × OfOrdinalBody x). e.0) (λ (e : (x : TypeArgument) × OfArgument x). e.0) (λ (e : (x : TypeConstructor) × OfType x). e.0) (λ (e : (x : Layout) × OfLayout x). e.0) (λ (e : (x : Member) × OfMember x). e.0) (λ (e : (x : NamedType) × OfNamed x). e.0) (λ (e : (x : NextTypeArgument) × OfNext x). e.0) (λ (e : (x : OrdinalMember) × OfOrdinal x). e.0) (λ (e : (x : StructLayout) × OfStruct x). e.0) (λ (e : (x : TableLayout) × OfTable x). e.0) (λ (e : (x : TypeArguments) × OfArguments x). e.0) (λ (e : (x : Underlying) × OfUnderlying x). e.0) (λ (e : (x : UnionLayout) × OfUnion x). e.0) (λ (e : (x : ValuesLayout) × OfValues x). e.0)

arguments_pair : (y : Paired NamedType-F) → ArgumentsIf (forget_named y).arguments
arguments_pair y = elim y.arguments as (λ o. ArgumentsIf (forget_named (record { path = y.path; arguments = o; constraints = y.constraints })).arguments) [
  | None ↦ tt
  | Some a ↦ a.1
]

abbrev forget_values : Paired ValuesLayout-F → Whole ValuesLayout-F
forget_values = map-ValuesLayout _ _ _ _ _ _ _ _ _ _ _ _ _ _ _ _ _ _ _ _ _ _ _ _ _ _ _ _ _ _ (λ (e : (x : LayoutBody) × OfBody x). e.0) (λ (e : (x : OrdinalBody) × OfOrdinalBody x). e.0) (λ (e : (x : TypeArgument) × OfArgument x). e.0) (λ (e : (x : TypeConstructor) × OfType x). e.0) (λ (e : (x : Layout) × OfLayout x). e.0) (λ (e : (x : Member) × OfMember x). e.0) (λ (e : (x : NamedType) × OfNamed x). e.0) (λ (e : (x : NextTypeArgument) × OfNext x). e.0) (λ (e : (x : OrdinalMember) × OfOrdinal x). e.0) (λ (e : (x : StructLayout) × OfStruct x). e.0) (λ (e : (x : TableLayout) × OfTable x). e.0) (λ (e : (x : TypeArguments) × OfArguments x). e.0) (λ (e : (x : Underlying) × OfUnderlying x). e.0) (λ (e : (x : UnionLayout) × OfUnion x). e.0) (λ (e : (x : ValuesLayout) × OfValues x). e.0)

underlying_pair : (y : Paired ValuesLayout-F) → UnderlyingIf (forget_values y).underlying
underlying_pair y = elim y.underlying as (λ o. UnderlyingIf (forget_values (record { strictness = y.strictness; keyword = y.keyword; underlying = o; left = y.left; members = y.members; right = y.right })).underlying) [
  | None ↦ tt
  | Some u ↦ u.1
]

pub types_shaped : (t : TypeConstructor) → OfType t
types_shaped =
    ind-TypeConstructor OfBody OfOrdinalBody OfArgument OfType OfLayout OfMember OfNamed OfNext OfOrdinal OfStruct OfTable OfArguments OfUnderlying OfUnion OfValues
    (λ x y is. body_step x (subst BodyParts is (body_parts forget_whole (λ l. refl) (λ l. refl) (λ l. refl) (λ l. refl) y)))
    (λ x y is. ordinal_body_step x (subst TypedShaped is (elim y as (λ w. TypedShaped (forget_ordinal w)) [
      | OrdinalBody-F.Reserved s ↦ tt
      | OrdinalBody-F.Typed s t ↦ t.1
    ])))
    (λ x y is. argument_step x (subst ArgumentParts is (elim y as (λ w. ArgumentParts (forget_argument w)) [
      | TypeArgument-F.Number s ↦ tt
      | TypeArgument-F.Type t ↦ t.1
    ])))
    (λ x y is. type_step x (subst TypeParts is (elim y as (λ w. TypeParts (forget_type w)) [
      | TypeConstructor-F.Layout l constraints ↦ l.value.1
      | TypeConstructor-F.Named n ↦ n.value.1
    ])))
    (λ x y is. layout_step x (subst (λ (z : Whole Layout-F). OfBody z.body) is y.body.1))
    (λ x y is. member_step x (subst (λ (z : Whole Member-F). OfType z.constructor) is y.constructor.1))
    (λ x y is. named_step x (subst (λ (z : Whole NamedType-F). ArgumentsIf z.arguments) is (arguments_pair y)))
    (λ x y is. next_step x (subst (λ (z : Whole NextTypeArgument-F). OfArgument z.argument) is y.argument.1))
    (λ x y is. ordinal_step x (subst (λ (z : Whole OrdinalMember-F). OfOrdinalBody z.body) is y.body.1))
    (λ x y is. struct_step x (subst (λ (z : Whole StructLayout-F). AllByRecursion OfMember z.members.items) is (all_pairs OfMember y.members.items)))
    (λ x y is. table_step x (subst (λ (z : Whole TableLayout-F). AllByRecursion OfOrdinal z.members.items) is (all_pairs OfOrdinal y.members.items)))
    (λ x y is. arguments_step x (subst (λ (z : Whole TypeArguments-F). OfArgument z.first.value) is y.first.value.1) (subst (λ (z : Whole TypeArguments-F). AllByRecursion OfNext z.rest.items) is (all_pairs OfNext y.rest.items)))
    (λ x y is. underlying_step x (subst (λ (z : Whole Underlying-F). OfNamed z.named) is y.named.1))
    (λ x y is. union_step x (subst (λ (z : Whole UnionLayout-F). AllByRecursion OfOrdinal z.members.items) is (all_pairs OfOrdinal y.members.items)))
    (λ x y is. values_step x (subst (λ (z : Whole ValuesLayout-F). UnderlyingIf z.underlying) is (underlying_pair y)))

pub layouts_shaped : (l : Layout) → OfLayout l
layouts_shaped =
    ind-Layout OfBody OfOrdinalBody OfArgument OfType OfLayout OfMember OfNamed OfNext OfOrdinal OfStruct OfTable OfArguments OfUnderlying OfUnion OfValues
    (λ x y is. body_step x (subst BodyParts is (body_parts forget_whole (λ l. refl) (λ l. refl) (λ l. refl) (λ l. refl) y)))
    (λ x y is. ordinal_body_step x (subst TypedShaped is (elim y as (λ w. TypedShaped (forget_ordinal w)) [
      | OrdinalBody-F.Reserved s ↦ tt
      | OrdinalBody-F.Typed s t ↦ t.1
    ])))
    (λ x y is. argument_step x (subst ArgumentParts is (elim y as (λ w. ArgumentParts (forget_argument w)) [
      | TypeArgument-F.Number s ↦ tt
      | TypeArgument-F.Type t ↦ t.1
    ])))
    (λ x y is. type_step x (subst TypeParts is (elim y as (λ w. TypeParts (forget_type w)) [
      | TypeConstructor-F.Layout l constraints ↦ l.value.1
      | TypeConstructor-F.Named n ↦ n.value.1
    ])))
    (λ x y is. layout_step x (subst (λ (z : Whole Layout-F). OfBody z.body) is y.body.1))
    (λ x y is. member_step x (subst (λ (z : Whole Member-F). OfType z.constructor) is y.constructor.1))
    (λ x y is. named_step x (subst (λ (z : Whole NamedType-F). ArgumentsIf z.arguments) is (arguments_pair y)))
    (λ x y is. next_step x (subst (λ (z : Whole NextTypeArgument-F). OfArgument z.argument) is y.argument.1))
    (λ x y is. ordinal_step x (subst (λ (z : Whole OrdinalMember-F). OfOrdinalBody z.body) is y.body.1))
    (λ x y is. struct_step x (subst (λ (z : Whole StructLayout-F). AllByRecursion OfMember z.members.items) is (all_pairs OfMember y.members.items)))
    (λ x y is. table_step x (subst (λ (z : Whole TableLayout-F). AllByRecursion OfOrdinal z.members.items) is (all_pairs OfOrdinal y.members.items)))
    (λ x y is. arguments_step x (subst (λ (z : Whole TypeArguments-F). OfArgument z.first.value) is y.first.value.1) (subst (λ (z : Whole TypeArguments-F). AllByRecursion OfNext z.rest.items) is (all_pairs OfNext y.rest.items)))
    (λ x y is. underlying_step x (subst (λ (z : Whole Underlying-F). OfNamed z.named) is y.named.1))
    (λ x y is. union_step x (subst (λ (z : Whole UnionLayout-F). AllByRecursion OfOrdinal z.members.items) is (all_pairs OfOrdinal y.members.items)))
    (λ x y is. values_step x (subst (λ (z : Whole ValuesLayout-F). UnderlyingIf z.underlying) is (underlying_pair y)))

pub code_members_shaped : (m : Member) → OfMember m
code_members_shaped m path role = subst (λ (x : plain.Member). Shaped (member_sites path role x)) (sym (member_is m)) (tt, types_shaped (out-Member m).constructor (within path (step.Name (out-Member m).name)) role)
