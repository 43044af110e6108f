-- Where a declaration has the members of its bits or enum, and a type its own name, among the places.
use Rattle.std.proofs.Common.{rules, ◌≡◌, ◌++◌, List, [], ◌∷◌, Option, Some, None, map, refl, sym, subst, ◌∙◌}
use Rattle.std.specs.Prelude.{Bool}
use Rattle.std.specs.List.{Contains}
use Rattle.std.proofs.lemmas.Grind.{flat_map-append}
use Rattle.std.proofs.lemmas.List.Elements.{Contains-append_left, Contains-append_right}
use Rattle.std.proofs.lemmas.Option.{none-some, same_Some}
use Rattle.fidl_span.specs.declared.words.Span.{Span}
use Rattle.fidl_tree.specs.Syntax as plain
use Rattle.fidl_tree.specs.Syntax.{Path, ValuesKind, named_type, layout_type, no_arguments, values_layout, no_underlying, underlying_type}
use Rattle.fidl_tree.specs.Views.{path_view, constraints_view, kind_view, keyword_span, is_strict, value_member_view, values_view, body_view, layout_view, named_view, type_view, declared_view}
use Rattle.fidl_tree.specs.declared.declaration.DeclarationBody.{DeclarationBody}
use Rattle.fidl_tree.specs.declared.declaration.DeclarationBody.TheVariants.{Const, Alias, «Type» as Declared, Protocol, Service, Resource}
use Rattle.fidl_tree.specs.declared.type_constructor.Layout as whole
use Rattle.fidl_tree.specs.declared.type_constructor.LayoutBody as kind
use Rattle.fidl_tree.specs.declared.type_constructor.LayoutBody.{LayoutBody, out-LayoutBody}
use Rattle.fidl_tree.specs.declared.type_constructor.LayoutBody.TheOpen.{LayoutBody-F, TypeConstructor-F}
use Rattle.fidl_tree.specs.declared.type_constructor.Underlying as underlying
use Rattle.fidl_tree.specs.declared.type_constructor.Underlying.{Underlying, out-Underlying}
use Rattle.fidl_tree.specs.declared.type_constructor.NamedType as named
use Rattle.fidl_tree.specs.declared.type_constructor.NamedType.{NamedType, out-NamedType}
use Rattle.fidl_tree.specs.declared.type_constructor.TypeConstructor as constructor
use Rattle.fidl_tree.specs.declared.type_constructor.TypeConstructor.{TypeConstructor, out-TypeConstructor}
use Rattle.fidl_tree.specs.declared.type_constructor.ValuesLayout as values
use Rattle.fidl_tree.specs.declared.type_constructor.ValuesLayout.{ValuesLayout, out-ValuesLayout}
use Rattle.fidl_named.specs.Spots.{Spot, type_spot, layout_spot, type_spots, layout_spots, underlying_spots}
use Rattle.fidl_named.specs.Places.{NamePlace, a_members, a_type, body_places, places_of, spot_places, use_path, underlying_path}
use Rattle.fidl_consts.specs.Types.{values_in, written_values, declared_values, constraints_of, own_path, path_of}
use Rattle.fidl_consts.proofs.Among.{among_first}

abbrev its_members : ValuesLayout → NamePlace
its_members l = a_members (kind_view (out-ValuesLayout l).keyword) (path_of (out-ValuesLayout l).underlying) (map value_member_view (out-ValuesLayout l).members.items)

-- the places of two parts, one after another
in_first : (xs ys : List Spot) (x : NamePlace) → Contains (places_of xs) x → Contains (places_of (xs ++ ys)) x
in_first xs ys x h = subst (λ ps. Contains ps x) (sym (flat_map-append spot_places xs ys)) (Contains-append_left (places_of xs) (places_of ys) x h)

in_second : (xs ys : List Spot) (x : NamePlace) → Contains (places_of ys) x → Contains (places_of (xs ++ ys)) x
in_second xs ys x h = subst (λ ps. Contains ps x) (sym (flat_map-append spot_places xs ys)) (Contains-append_right (places_of xs) (places_of ys) x h)

-- of bits or an enum the members come last
members_last : (k : ValuesKind) (strict : Bool) (keyword : Span) (u : plain.Underlying) (ms : List plain.ValueMember)
    → Contains (places_of (layout_spots (values_layout k strict keyword u ms))) (a_members k (underlying_path u) ms)
members_last k strict keyword u ms =
    in_second (underlying_spots u) (layout_spot (values_layout k strict keyword u ms) ∷ []) (a_members k (underlying_path u) ms) (among_first (a_members k (underlying_path u) ms) [])

-- the underlying type that is written
abbrev its_underlying : Option Underlying → plain.Underlying
its_underlying None = no_underlying
its_underlying (Some u) = underlying_type (named_view (out-Underlying u).named)

name_is : (n : NamedType) → use_path (named_view n) ≡ Some (path_view (out-NamedType n).path)
name_is n = search (rules, named.the_lemmas)

its_path : (u : Option Underlying) → underlying_path (its_underlying u) ≡ path_of u
its_path None = refl
its_path (Some u) = name_is (out-Underlying u).named

values_are : (l : ValuesLayout) (u : Option Underlying) → (out-ValuesLayout l).underlying ≡ u → values_view l
    ≡ values_layout (kind_view (out-ValuesLayout l).keyword) (is_strict (out-ValuesLayout l).strictness) (keyword_span (out-ValuesLayout l).keyword) (its_underlying u) (map value_member_view (out-ValuesLayout l).members.items)
values_are l None is = search (rules, values.the_lemmas, is)
values_are l (Some u) is = search (rules, values.the_lemmas, underlying.the_lemmas, is)

in_values : (l : ValuesLayout) → Contains (places_of (layout_spots (values_view l))) (its_members l)
in_values l =
    let u = (out-ValuesLayout l).underlying in
    let k = kind_view (out-ValuesLayout l).keyword in
    let ms = map value_member_view (out-ValuesLayout l).members.items in
    let there = members_last k (is_strict (out-ValuesLayout l).strictness) (keyword_span (out-ValuesLayout l).keyword) (its_underlying u) ms in
    subst (λ o. Contains (places_of (layout_spots (values_view l))) (a_members k o ms)) (its_path u)
    (subst (λ x. Contains (places_of (layout_spots x)) (a_members k (underlying_path (its_underlying u)) ms)) (sym (values_are l u refl)) there)

in_body : (b : LayoutBody) (l : ValuesLayout) → values_in b ≡ Some l → Contains (places_of (layout_spots (body_view b))) (its_members l)
in_body b l = elim (out-LayoutBody b) as (λ o. out-LayoutBody b ≡ o → (elim o as (λ _. Option ValuesLayout) [
  | LayoutBody-F.Values k ↦ Some k
  | _ ↦ None
]) ≡ Some l → Contains (places_of (layout_spots (body_view b))) (its_members l)) [
  | LayoutBody-F.Values k ↦ λ is found.
      let same : k ≡ l = same_Some k l found in
      let seen : values_view k ≡ body_view b = search (rules, kind.the_lemmas, is) in
      subst (λ x. Contains (places_of (layout_spots x)) (its_members l)) seen (subst (λ x. Contains (places_of (layout_spots (values_view x))) (its_members l)) (sym same) (in_values l))
  | _ ↦ λ is found. absurd (none-some l found)
] refl

in_layout : (w : whole.Layout) (l : ValuesLayout) → values_in (whole.out-Layout w).body ≡ Some l → Contains (places_of (layout_spots (layout_view w).1)) (its_members l)
in_layout w l is =
    let seen : body_view (whole.out-Layout w).body ≡ (layout_view w).1 = search (rules, whole.the_lemmas) in
    subst (λ x. Contains (places_of (layout_spots x)) (its_members l)) seen (in_body (whole.out-Layout w).body l is)

in_type : (t : TypeConstructor) (l : ValuesLayout) → written_values t ≡ Some l → Contains (places_of (type_spots None (type_view t))) (its_members l)
in_type t l = elim (out-TypeConstructor t) as (λ o. out-TypeConstructor t ≡ o → written_values t ≡ Some l → Contains (places_of (type_spots None (type_view t))) (its_members l)) [
  | TypeConstructor-F.Layout w cs ↦ λ is found.
      let seen : layout_type (layout_view w.value).0 (layout_view w.value).1 (constraints_view cs) ≡ type_view t = search (rules, constructor.the_lemmas, is) in
      let written : written_values t ≡ values_in (whole.out-Layout w.value).body = search (rules, is) in
      subst (λ x. Contains (places_of (type_spots None x)) (its_members l)) seen
      (in_first (layout_spots (layout_view w.value).1) (type_spot None (layout_type (layout_view w.value).0 (layout_view w.value).1 (constraints_view cs)) ∷ []) (its_members l) (in_layout w.value l (sym written ∙ found)))
  | TypeConstructor-F.Named n ↦ λ is found.
      let written : written_values t ≡ None = search (rules, is) in
      absurd (none-some l (sym written ∙ found))
] refl

pub members_place : (body : DeclarationBody) (l : ValuesLayout) → declared_values body ≡ Some l → Contains (body_places (declared_view body)) (its_members l)
members_place (Declared d) l is = in_layout d.layout l is
members_place (Alias d) l is = in_type d.constructor l is
members_place (Const d) l is = absurd (none-some l is)
members_place (Protocol d) l is = absurd (none-some l is)
members_place (Service d) l is = absurd (none-some l is)
members_place (Resource d) l is = absurd (none-some l is)

-- of a named type its name comes first
abbrev arguments_in : plain.TypeUse → plain.Arguments
arguments_in (named_type path rest constraints) = rest
arguments_in (layout_type attributes layout constraints) = no_arguments

named_is : (n : NamedType) → named_view n ≡ named_type (path_view (out-NamedType n).path) (arguments_in (named_view n)) (constraints_view (out-NamedType n).constraints)
named_is n = search (rules, named.the_lemmas)

name_first : (n : NamedType) → Contains (places_of (type_spots None (named_view n))) (a_type None (path_view (out-NamedType n).path) (constraints_view (out-NamedType n).constraints))
name_first n = subst (λ x. Contains (places_of (type_spots None x)) (a_type None (path_view (out-NamedType n).path) (constraints_view (out-NamedType n).constraints))) (sym (named_is n)) (among_first _ _)

pub type_place : (t : TypeConstructor) (path : Path) → own_path t ≡ Some path → Contains (places_of (type_spots None (type_view t))) (a_type None path (constraints_of t))
type_place t path = elim (out-TypeConstructor t) as (λ o. out-TypeConstructor t ≡ o → own_path t ≡ Some path → Contains (places_of (type_spots None (type_view t))) (a_type None path (constraints_of t))) [
  | TypeConstructor-F.Named n ↦ λ is found.
      let seen : named_view n.value ≡ type_view t = search (rules, constructor.the_lemmas, is) in
      let own : own_path t ≡ Some (path_view (out-NamedType n.value).path) = search (rules, is) in
      let constraints : constraints_of t ≡ constraints_view (out-NamedType n.value).constraints = search (rules, is) in
      let same : path_view (out-NamedType n.value).path ≡ path = same_Some (path_view (out-NamedType n.value).path) path (sym own ∙ found) in
      subst (λ p. Contains (places_of (type_spots None (type_view t))) (a_type None p (constraints_of t))) same
      (subst (λ cs. Contains (places_of (type_spots None (type_view t))) (a_type None (path_view (out-NamedType n.value).path) cs)) (sym constraints)
      (subst (λ x. Contains (places_of (type_spots None x)) (a_type None (path_view (out-NamedType n.value).path) (constraints_view (out-NamedType n.value).constraints))) seen (name_first n.value)))
  | TypeConstructor-F.Layout w cs ↦ λ is found.
      let own : own_path t ≡ None = search (rules, is) in
      absurd (none-some path (sym own ∙ found))
] refl
