-- Layouts of the tree as plain data.
use Rattle.std.proofs.Common.{rules, ◌≡◌, Bool, List, Option, Some, None, map, ap, sym, ◌∙◌}
use Rattle.std.specs.Prelude.{is_some, IfSome}
use Rattle.fidl_tree.specs.Syntax.{struct_layout, table_layout, union_layout, members_of}
use Rattle.fidl_tree.specs.Views.{body_view, values_view, member_view, ordinal_member_view, is_strict_union, is_resource_union}
use Rattle.fidl_tree.specs.declared.type_constructor.Member.{Member}
use Rattle.fidl_tree.specs.declared.type_constructor.OrdinalMember.{OrdinalMember}
use Rattle.fidl_tree.specs.declared.type_constructor.LayoutBody as body
use Rattle.fidl_tree.specs.declared.type_constructor.LayoutBody.{LayoutBody}
use Rattle.fidl_tree.specs.declared.type_constructor.ValuesLayout.{ValuesLayout}
use Rattle.fidl_tree.specs.declared.type_constructor.StructLayout as structs
use Rattle.fidl_tree.specs.declared.type_constructor.StructLayout.{StructLayout, out-StructLayout}
use Rattle.fidl_tree.specs.declared.type_constructor.TableLayout as tables
use Rattle.fidl_tree.specs.declared.type_constructor.TableLayout.{TableLayout, out-TableLayout}
use Rattle.fidl_tree.specs.declared.type_constructor.UnionLayout as unions
use Rattle.fidl_tree.specs.declared.type_constructor.UnionLayout.{UnionLayout, out-UnionLayout}

module _ (b : LayoutBody) where
  pub values_body : (l : ValuesLayout) → b ≡ body.TheVariants.Values l → values_view l ≡ body_view b
  values_body l is = search (rules, body.the_lemmas, is)

  struct_body : (l : StructLayout) → b ≡ body.TheVariants.Struct l → body_view b ≡ struct_layout (is_some (out-StructLayout l).resource) (out-StructLayout l).keyword (members_of (map member_view (out-StructLayout l).members.items))
  struct_body l is = search (rules, body.the_lemmas, structs.the_lemmas, is)

  table_body : (l : TableLayout) → b ≡ body.TheVariants.Table l → body_view b ≡ table_layout (is_some (out-TableLayout l).resource) (out-TableLayout l).keyword (members_of (map ordinal_member_view (out-TableLayout l).members.items))
  table_body l is = search (rules, body.the_lemmas, tables.the_lemmas, is)

  union_body : (l : UnionLayout) → b ≡ body.TheVariants.Union l → body_view b ≡ union_layout (is_strict_union (out-UnionLayout l).modifiers) (is_resource_union (out-UnionLayout l).modifiers) (out-UnionLayout l).keyword (members_of (map ordinal_member_view (out-UnionLayout l).members.items))
  union_body l is = search (rules, body.the_lemmas, unions.the_lemmas, is)

  -- of these members
  pub struct_is : (l : StructLayout) → b ≡ body.TheVariants.Struct l → (ms : List Member) → ms ≡ (out-StructLayout l).members.items → body_view b ≡ struct_layout (is_some (out-StructLayout l).resource) (out-StructLayout l).keyword (members_of (map member_view ms))
  struct_is l is ms same = struct_body l is ∙ ap (λ (xs : List Member). struct_layout (is_some (out-StructLayout l).resource) (out-StructLayout l).keyword (members_of (map member_view xs))) (sym same)

  pub table_is : (l : TableLayout) → b ≡ body.TheVariants.Table l → (ms : List OrdinalMember) → ms ≡ (out-TableLayout l).members.items → body_view b ≡ table_layout (is_some (out-TableLayout l).resource) (out-TableLayout l).keyword (members_of (map ordinal_member_view ms))
  table_is l is ms same = table_body l is ∙ ap (λ (xs : List OrdinalMember). table_layout (is_some (out-TableLayout l).resource) (out-TableLayout l).keyword (members_of (map ordinal_member_view xs))) (sym same)

  pub union_is : (l : UnionLayout) → b ≡ body.TheVariants.Union l → (strict : Bool) → strict ≡ is_strict_union (out-UnionLayout l).modifiers → (ms : List OrdinalMember) → ms ≡ (out-UnionLayout l).members.items
      → body_view b ≡ union_layout strict (is_resource_union (out-UnionLayout l).modifiers) (out-UnionLayout l).keyword (members_of (map ordinal_member_view ms))
  union_is l is strict marked ms same =
      union_body l is
      ∙ ap (λ (xs : List OrdinalMember). union_layout (is_strict_union (out-UnionLayout l).modifiers) (is_resource_union (out-UnionLayout l).modifiers) (out-UnionLayout l).keyword (members_of (map ordinal_member_view xs))) (sym same)
      ∙ ap (λ (x : Bool). union_layout x (is_resource_union (out-UnionLayout l).modifiers) (out-UnionLayout l).keyword (members_of (map ordinal_member_view ms))) (sym marked)

-- what holds of one that is there, in other words
pub some_more : {X : Type 0} (P Q : X → Type 0) → ((x : X) → P x → Q x) → (o : Option X) → IfSome o P → IfSome o Q
some_more P Q wider None h = tt
some_more P Q wider (Some x) h = wider x h
