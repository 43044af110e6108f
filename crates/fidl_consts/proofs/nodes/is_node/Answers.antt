use Rattle.std.proofs.Common.{◌≡◌, ℕ, List, Option, Some, None, refl, sym, true≢false}
use Rattle.std.specs.Prelude.{slice_get, IfSome, IsNone, IsTrue}
use Rattle.std.specs.Option.{is_some}
use Rattle.fidl_tree.specs.declared.file.File.{File}
use Rattle.fidl_tree.specs.declared.value_member.ValueMember.{ValueMember}
use Rattle.fidl_tree.specs.declared.declaration.Declaration.{Declaration}
use Rattle.fidl_tree.specs.declared.type_constructor.ValuesLayout.{ValuesLayout, out-ValuesLayout}
use Rattle.fidl_named.specs.declared.place.DeclarationId.{DeclarationId}
use Rattle.fidl_named.specs.declared.meaning.Meaning.TheVariants as meaning
use Rattle.fidl_named.specs.Constraints.{IsDeclarationAt}
use Rattle.fidl_consts.specs.declared.found.FoundDeclaration.{FoundDeclaration}
use Rattle.fidl_consts.specs.declared.found.FoundMember.{FoundMember}
use Rattle.fidl_consts.specs.Types.{IsValuesAt}
use Rattle.fidl_consts.specs.Dependencies.{IsKnownNode}
use Rattle.fidl_consts.proofs.KnownNodes.{declared_node, member_node, known_declaration, known_member}
use Rattle.fidl_consts.proofs.nodes.is_node.Goals as goal

module _ (files : List File) (p : DeclarationId) where
  declaration_found : (o : Option FoundDeclaration) → IfSome o (λ (x : FoundDeclaration). IsDeclarationAt files p x.file.now x.declaration.now) → (IsNone o → (f : File) (d : Declaration) → IsDeclarationAt files p f d → ⊥)
      → (IsTrue (is_some o) → IsKnownNode files (meaning.Declared p)) × (IsKnownNode files (meaning.Declared p) → IsTrue (is_some o))
  declaration_found None at none = (λ h. absurd (true≢false (sym h)), λ k. let it = declared_node files p k in absurd (none refl it.0 it.1 it.2))
  declaration_found (Some x) at none = (λ h. known_declaration files p x.file.now x.declaration.now at, λ k. refl)

  member_found : (n : ℕ) (o : Option FoundMember) → IfSome o (λ (x : FoundMember). IsValuesAt files p x.file.now x.layout.now)
      → IfSome o (λ (x : FoundMember). slice_get (out-ValuesLayout x.layout.now).members.items n ≡ Some x.member.now)
      → (IsNone o → (f : File) (l : ValuesLayout) (m : ValueMember) → IsValuesAt files p f l → slice_get (out-ValuesLayout l).members.items n ≡ Some m → ⊥)
      → (IsTrue (is_some o) → IsKnownNode files (meaning.Member p n)) × (IsKnownNode files (meaning.Member p n) → IsTrue (is_some o))
  member_found n None at there none = (λ h. absurd (true≢false (sym h)), λ k. let it = member_node files p n k in absurd (none refl it.0 it.1 it.2 it.3 it.4))
  member_found n (Some x) at there none = (λ h. known_member files p x.file.now x.layout.now n x.member.now at there, λ k. refl)

pub returns-in-Declared : goal.returns-in-Declared
returns-in-Declared c =
    rw (c.is_some.ensures, c.in-Declared.is) (declaration_found c.args.named.now c.in-Declared.id c.declaration_at.result c.declaration_at.ensures.found c.declaration_at.ensures.none)

pub returns-in-Member : goal.returns-in-Member
returns-in-Member c =
    rw (c.is_some-in-Member.ensures, c.in-Member.is) (member_found c.args.named.now c.in-Member.of c.in-Member.number c.member_at.result c.member_at.ensures.layout c.member_at.ensures.member c.member_at.ensures.none)
