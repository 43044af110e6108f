-- What the types of properties are, by their names.
use Rattle.std.proofs.Common.{◌≡◌, ◌∙◌, ℕ, List, length, ap, sym, arith}
use Rattle.std.specs.Prelude.{codes}
use Rattle.fidl_tree.specs.Syntax.{TypeUse, enum_kind}
use Rattle.fidl_tree.specs.declared.file.File.{File}
use Rattle.fidl_resource_rules.specs.Kinds.{AreOfUint32, RightsSuit, TypeSuits}

names_differ : codes "subtype" ≡ codes "rights" → ⊥
names_differ e =
    let lengths : length (codes "subtype") ≡ length (codes "rights") = ap length e in
    omega (arith, lengths)

module _ (files : List File) (number : ℕ) (name : List ℕ) (t : TypeUse) where
  pub of_subtype_name : name ≡ codes "subtype" → TypeSuits files number name t → AreOfUint32 files number enum_kind t
  of_subtype_name is (TypeSuits.of_subtype own h) = h
  of_subtype_name is (TypeSuits.of_rights own h) = absurd (names_differ (sym is ∙ own))

  pub of_rights_name : name ≡ codes "rights" → TypeSuits files number name t → RightsSuit files number t
  of_rights_name is (TypeSuits.of_subtype own h) = absurd (names_differ (sym own ∙ is))
  of_rights_name is (TypeSuits.of_rights own h) = h

  pub of_other_name : (name ≡ codes "subtype" → ⊥) → (name ≡ codes "rights" → ⊥) → TypeSuits files number name t → ⊥
  of_other_name no_subtype no_rights (TypeSuits.of_subtype own h) = no_subtype own
  of_other_name no_subtype no_rights (TypeSuits.of_rights own h) = no_rights own
