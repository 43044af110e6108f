-- A table has what the names of a declaration or a member mean, where it has all on which it depends.
use Rattle.std.proofs.Common.{◌≡◌, ℕ, List, Some, sym, subst}
use Rattle.std.specs.Prelude.{slice_get}
use Rattle.fidl_tree.specs.Syntax.{Path}
use Rattle.fidl_tree.specs.declared.file.File.{File}
use Rattle.fidl_tree.specs.declared.value_member.ValueMember.{ValueMember}
use Rattle.fidl_tree.specs.declared.type_constructor.ValuesLayout.{ValuesLayout, out-ValuesLayout}
use Rattle.fidl_tree.specs.declared.declaration.AliasDeclaration.{AliasDeclaration}
use Rattle.fidl_tree.specs.declared.declaration.ConstDeclaration.{ConstDeclaration}
use Rattle.fidl_tree.specs.declared.declaration.DeclarationBody.{DeclarationBody}
use Rattle.fidl_tree.specs.declared.declaration.DeclarationBody.TheVariants.{Const, Alias}
use Rattle.fidl_tree.specs.declared.declaration.Declaration.{Declaration}
use Rattle.fidl_named.specs.declared.place.DeclarationId.{DeclarationId}
use Rattle.fidl_named.specs.declared.meaning.Wanted.{Wanted}
use Rattle.fidl_named.specs.declared.meaning.Wanted.TheVariants as wanted
use Rattle.fidl_named.specs.declared.meaning.Meaning.{Meaning}
use Rattle.fidl_named.specs.declared.meaning.Meaning.TheVariants as meaning
use Rattle.fidl_named.specs.Aliases.{IsAliasAt}
use Rattle.fidl_named.specs.Constraints.{IsDeclarationAt}
use Rattle.fidl_named.specs.Meanings.{Means}
use Rattle.fidl_named.specs.Paths.{texts}
use Rattle.fidl_named.specs.Places.{value_paths}
use Rattle.fidl_tree.specs.Views.{value_view}
use Rattle.fidl_consts.specs.declared.consts.Consts.{Consts}
use Rattle.fidl_consts.specs.Types.{IsConstAt, IsValuesAt}
use Rattle.fidl_consts.specs.Dependencies.{BodyUses, Uses, IsKnownNode}
use Rattle.fidl_consts.specs.Tables.{IsDone, PathsSettled, TypeSettled}
use Rattle.fidl_const.specs.Columns.{UsesSettled}

module _ (fs : List File) (c : Consts) where
  name_settled : (one : Meaning) (f : File) (kind : Wanted) (path : Path) (m : Meaning) → UsesSettled fs c one → Uses fs one f kind path → Means fs f kind (texts f.src.now path) m → IsKnownNode fs m → IsDone fs c m
  name_settled one f kind path m settled uses means node = settled m (record { file = f; kind = kind; path = path; uses = uses; means = means; target = node })

  pub member_settled : (p : DeclarationId) (f : File) (l : ValuesLayout) (i : ℕ) (v : ValueMember) → IsValuesAt fs p f l → slice_get (out-ValuesLayout l).members.items i ≡ Some v → UsesSettled fs c (meaning.Member p i)
      → PathsSettled fs f c (value_paths (value_view v.value))
  member_settled p f l i v at there settled = λ path m among means node. name_settled (meaning.Member p i) f wanted.Value path m settled (Uses.member p f l i v path at there among) means node

  -- what the names on which a declaration depends mean
  body_settled : (p : DeclarationId) (f : File) (d : Declaration) (body : DeclarationBody) → IsDeclarationAt fs p f d → d.body ≡ body → UsesSettled fs c (meaning.Declared p)
      → (kind : Wanted) (path : Path) (m : Meaning) → BodyUses fs f body kind path → Means fs f kind (texts f.src.now path) m → IsKnownNode fs m → IsDone fs c m
  body_settled p f d body at is settled kind path m uses means node =
      let there : BodyUses fs f d.body kind path = subst (λ (b : DeclarationBody). BodyUses fs f b kind path) (sym is) uses in
      name_settled (meaning.Declared p) f kind path m settled (Uses.declaration p f d kind path at there) means node

  pub alias_settled : (p : DeclarationId) (f : File) (a : AliasDeclaration) → IsAliasAt fs p f a → UsesSettled fs c (meaning.Declared p) → TypeSettled fs f c a.constructor
  alias_settled p f a h settled = λ kind path m uses means node.
      let at : IsDeclarationAt fs p f h.declaration = record { file_at = h.file_at; stands = h.stands } in
      body_settled p f h.declaration (Alias a) at h.body settled kind path m (BodyUses.alias_type a kind path uses) means node

  pub const_type_settled : (p : DeclarationId) (f : File) (d : ConstDeclaration) → IsConstAt fs p f d → UsesSettled fs c (meaning.Declared p) → TypeSettled fs f c d.constructor
  const_type_settled p f d h settled = λ kind path m uses means node. body_settled p f h.declaration (Const d) h.at h.body settled kind path m (BodyUses.constant_type d kind path uses) means node

  pub const_value_settled : (p : DeclarationId) (f : File) (d : ConstDeclaration) → IsConstAt fs p f d → UsesSettled fs c (meaning.Declared p) → PathsSettled fs f c (value_paths (value_view d.value))
  const_value_settled p f d h settled = λ path m among means node. body_settled p f h.declaration (Const d) h.at h.body settled wanted.Value path m (BodyUses.constant_value d path among) means node
