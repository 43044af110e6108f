-- What a refusal says of files (docs/language.md, "Evaluating"): `IsTrueOfEvaluating`, which the
-- contract of `evaluate` cites.
use Rattle.std.specs.Prelude.{ℕ, ◌≡◌, List, Some, None, slice_get}
use Rattle.std.specs.List.{Contains}
use Rattle.fidl_tree.specs.declared.file.File.{File}
use Rattle.fidl_tree.specs.Views.{value_view, declared_view, type_view}
use Rattle.fidl_tree.specs.declared.value_member.ValueMember as tree
use Rattle.fidl_tree.specs.declared.declaration.Declaration.{Declaration}
use Rattle.fidl_tree.specs.declared.declaration.ConstDeclaration.{ConstDeclaration}
use Rattle.fidl_tree.specs.declared.declaration.AliasDeclaration.{AliasDeclaration}
use Rattle.fidl_tree.specs.declared.type_constructor.ValuesLayout.{ValuesLayout, out-ValuesLayout}
use Rattle.fidl_named.specs.declared.place.DeclarationId.{DeclarationId}
use Rattle.fidl_named.specs.declared.meaning.Meaning.TheVariants as meaning
use Rattle.fidl_named.specs.Aliases.{IsAliasAt}
use Rattle.fidl_named.specs.Constraints.{ordinary}
use Rattle.fidl_consts.specs.declared.fault.ConstFault.{ConstFault}
use Rattle.fidl_consts.specs.declared.fault.ConstFault.TheVariants.{WrongKind, ConstCycle, Memory}
use Rattle.fidl_consts.specs.declared.const_type.NumberKind.{NumberKind}
use Rattle.fidl_consts.specs.declared.const_type.ConstType.{ConstType}
use Rattle.fidl_consts.specs.declared.const_type.ConstType.TheVariants as ty
use Rattle.fidl_consts.specs.PlainValues.{PlainValue, text_length}
use Rattle.fidl_consts.specs.Types.{IsConstAt, IsValuesAt, IsStringType, TypeIs, LayoutIs}
use Rattle.fidl_consts.specs.Types.{constraints_of}
use Rattle.fidl_consts.specs.Values.{Offers}
use Rattle.fidl_consts.specs.Dependencies.{DependsOnItself}
use Rattle.fidl_consts.specs.Refusals.{type_span, at, ValueFails}
use Rattle.fidl_consts.specs.Strings.{BoundFails, TextFails}
use Rattle.fidl_consts.specs.Constraints.{LayoutFails}
use Rattle.fidl_consts.specs.Places.{DeclarationFails}

-- a constant is refused: its type is none of constants, its value is refused, or a string doesn't
-- keep to its type's bounds
pub data ConstantFails (files : List File) (p : DeclarationId) (f : File) (c : ConstDeclaration)
    (fault : ConstFault) : Type 0 where
  no_type : TypeIs files f c.constructor None
      → fault ≡ WrongKind (at p.file (type_span (type_view c.constructor)))
      → ConstantFails files p f c fault
  value : (own : ConstType) → TypeIs files f c.constructor (Some own)
      → ValueFails files f p.file own fault (value_view c.value) → ConstantFails files p f c fault
  text : (own : ConstType) (k : PlainValue) → Offers files (meaning.Declared p) own k
      → IsStringType files f c.constructor → TextFails files p f c (text_length k) fault
      → ConstantFails files p f c fault

-- what a refusal says of a declaration, a member or a type
pub data Fails (files : List File) (fault : ConstFault) : Type 0 where
  of_constant : (p : DeclarationId) (f : File) (c : ConstDeclaration) → IsConstAt files p f c
      → ConstantFails files p f c fault → Fails files fault
  of_underlying : (p : DeclarationId) (f : File) (l : ValuesLayout) → IsValuesAt files p f l
      → LayoutFails files f p.file l fault → Fails files fault
  of_member : (p : DeclarationId) (f : File) (l : ValuesLayout) (kind : NumberKind)
      (m : tree.ValueMember) → IsValuesAt files p f l → LayoutIs files f l (Some kind)
      → Contains (out-ValuesLayout l).members.items m
      → ValueFails files f p.file (ty.Number kind) fault (value_view m.value) → Fails files fault
  of_bound : (p : DeclarationId) (f : File) (a : AliasDeclaration) → IsAliasAt files p f a
      → IsStringType files f a.constructor
      → BoundFails files f p.file (ordinary f (constraints_of a.constructor)) fault
      → Fails files fault
  of_place : (number : ℕ) (f : File) (d : Declaration) → slice_get files number ≡ Some f
      → Contains f.declarations.items d
      → DeclarationFails files f number (declared_view d.body) fault → Fails files fault

-- what a refusal says of the files: nothing where memory ran out
abbrev pub IsTrueOfEvaluating : List File → ConstFault → Type 0
IsTrueOfEvaluating files (ConstCycle place) = DependsOnItself files place
IsTrueOfEvaluating files Memory = Unit {0}
IsTrueOfEvaluating files fault = Fails files fault
