-- The members of declared bits and enums make one of the declaration's lists.
use Rattle.std.proofs.Common.{rules, ◌≡◌, ℕ, List, [], ◌∷◌, map, refl, ap, sym, subst, ◌∙◌}
use Rattle.std.specs.List.{AllByRecursion}
use Rattle.std.proofs.lemmas.Grind.{flat_map-append}
use Rattle.fidl_tree.specs.Leaf.{text_at}
use Rattle.fidl_tree.specs.Syntax as plain
use Rattle.fidl_tree.specs.Syntax.{values_layout, struct_layout, table_layout, union_layout}
use Rattle.fidl_tree.specs.Syntax.{const_body, alias_body, type_body, protocol_body, service_body, resource_body}
use Rattle.fidl_tree.specs.Views.{value_member_view, values_view, body_view, layout_view, declared_view, declaration_view, file_view}
use Rattle.fidl_tree.specs.declared.file.File.{File}
use Rattle.fidl_tree.specs.declared.value_member.ValueMember.{ValueMember}
use Rattle.fidl_tree.specs.declared.declaration.Declaration.{Declaration}
use Rattle.fidl_tree.specs.declared.declaration.DeclarationBody.{DeclarationBody}
use Rattle.fidl_tree.specs.declared.declaration.DeclarationBody.TheVariants.{Const, Alias, «Type» as Declared, Protocol, Service, Resource}
use Rattle.fidl_tree.specs.declared.type_constructor.Layout as whole
use Rattle.fidl_tree.specs.declared.type_constructor.LayoutBody as kind
use Rattle.fidl_tree.specs.declared.type_constructor.LayoutBody.{LayoutBody, out-LayoutBody}
use Rattle.fidl_tree.specs.declared.type_constructor.LayoutBody.TheOpen.{LayoutBody-F}
use Rattle.fidl_tree.specs.declared.type_constructor.ValuesLayout as values
use Rattle.fidl_tree.specs.declared.type_constructor.ValuesLayout.{ValuesLayout, out-ValuesLayout}
use Rattle.fidl_named.specs.Names.{AreDistinct}
use Rattle.fidl_named.specs.Meanings.{layout_members, value_members, MembersDiffer}
use Rattle.fidl_named.specs.Spots.{layout_spot, underlying_spots, layout_spots}
use Rattle.fidl_named.specs.MemberNames.{value_names}
use Rattle.fidl_names.specs.MemberLists.{spot_lists, lists_of, body_lists, layout_values, body_values, NamesDiffer, ListsDiffer, DistinctMembers}
use Rattle.fidl_cycles.proofs.Trails.{all_last}
use Rattle.fidl_cycles.proofs.Lists.{all_get as all_at}

-- in plain data

module _ (src : List ℕ) where
  of_layout : (l : plain.Layout) → AllByRecursion (NamesDiffer src) (lists_of (layout_spots l)) → NamesDiffer src (value_names (layout_values l))
  of_layout (values_layout kind strict keyword u members) h =
      let own = layout_spot (values_layout kind strict keyword u members) ∷ [] in
      all_last (NamesDiffer src) (lists_of (underlying_spots u)) (value_names members)
      (subst (AllByRecursion (NamesDiffer src)) (flat_map-append spot_lists (underlying_spots u) own) h)
  of_layout (struct_layout is_resource keyword ms) h = tt
  of_layout (table_layout is_resource keyword ms) h = tt
  of_layout (union_layout strict is_resource keyword ms) h = tt

  of_plain : (b : plain.Body) → AllByRecursion (NamesDiffer src) (body_lists b) → NamesDiffer src (value_names (body_values b))
  of_plain (type_body attributes layout) h = of_layout layout h
  of_plain (const_body t v) h = tt
  of_plain (alias_body t) h = tt
  of_plain (protocol_body openness members) h = tt
  of_plain (service_body ms) h = tt
  of_plain (resource_body t properties) h = tt

-- the members of the tree are those of the plain data

seen_values : (l : ValuesLayout) → map value_member_view (out-ValuesLayout l).members.items ≡ layout_values (values_view l)
seen_values l = search (rules, values.the_lemmas)

seen_body : (b : LayoutBody) → map value_member_view (layout_members b) ≡ layout_values (body_view b)
seen_body b = elim (out-LayoutBody b) as (λ o. out-LayoutBody b ≡ o → map value_member_view (elim o as (λ _. List ValueMember) [
  | LayoutBody-F.Values l ↦ (out-ValuesLayout l).members.items
  | _ ↦ []
]) ≡ layout_values (body_view b)) [
  | LayoutBody-F.Values l ↦ λ is. seen_values l ∙ ap layout_values (let e : values_view l ≡ body_view b = search (rules, kind.the_lemmas, is) in e)
  | LayoutBody-F.Struct l ↦ λ is. search (rules, kind.the_lemmas, is)
  | LayoutBody-F.Table l ↦ λ is. search (rules, kind.the_lemmas, is)
  | LayoutBody-F.Union l ↦ λ is. search (rules, kind.the_lemmas, is)
] refl

pub seen_members : (body : DeclarationBody) → map value_member_view (value_members body) ≡ body_values (declared_view body)
seen_members (Declared d) =
    let e : body_view (whole.out-Layout d.layout).body ≡ (layout_view d.layout).1 = search (rules, whole.the_lemmas) in
    seen_body (whole.out-Layout d.layout).body ∙ ap layout_values e
seen_members (Const d) = refl
seen_members (Alias d) = refl
seen_members (Protocol d) = refl
seen_members (Service d) = refl
seen_members (Resource d) = refl

names_again : (src : List ℕ) (ms : List ValueMember) → map (text_at src) (value_names (map value_member_view ms)) ≡ map (λ (m : ValueMember). text_at src m.name) ms
names_again src [] = refl
names_again src (m ∷ ms) = ap (λ l. text_at src m.name ∷ l) (names_again src ms)

of_declaration : (src : List ℕ) (d : Declaration) → ListsDiffer src (declaration_view d) → AreDistinct (map (λ (m : ValueMember). text_at src m.name) (value_members d.body))
of_declaration src d h =
    subst AreDistinct (ap (λ ms. map (text_at src) (value_names ms)) (sym (seen_members d.body)) ∙ names_again src (value_members d.body)) (of_plain src (declared_view d.body) h)

all_mapped : {X Y : Type 0} (view : X → Y) (P : Y → Type 0) (xs : List X) → AllByRecursion P (map view xs) → AllByRecursion (λ x. P (view x)) xs
all_mapped view P [] h = tt
all_mapped view P (x ∷ xs) h = (h.0, all_mapped view P xs h.1)

-- where members differ in all files, those of declared bits and enums do
pub members_differ : (files : List File) → AllByRecursion (λ f. DistinctMembers (file_view f)) files → MembersDiffer files
members_differ files h full p f d declared =
    let of_file = all_at (λ (g : File). DistinctMembers (file_view g)) files p.file f h declared.file_at in
    let of_trees = all_mapped declaration_view (ListsDiffer f.src.now) f.declarations.items of_file in
    of_declaration f.src.now d (all_at (λ (e : Declaration). ListsDiffer f.src.now (declaration_view e)) f.declarations.items p.index d of_trees declared.stands)
