-- What a refusal says of files, from what it says of a constant or a member.
use Rattle.std.proofs.Common.{◌≡◌, ℕ, List, Option, Some, subst}
use Rattle.std.specs.Prelude.{slice_get}
use Rattle.fidl_tree.specs.declared.file.File.{File}
use Rattle.fidl_tree.specs.Syntax.{Path}
use Rattle.fidl_tree.specs.declared.value_member.ValueMember.{ValueMember}
use Rattle.fidl_tree.specs.declared.type_constructor.ValuesLayout.{ValuesLayout, out-ValuesLayout}
use Rattle.fidl_tree.specs.declared.declaration.ConstDeclaration.{ConstDeclaration}
use Rattle.fidl_named.specs.declared.place.DeclarationId.{DeclarationId}
use Rattle.fidl_named.specs.declared.meaning.Meaning.TheVariants as meaning
use Rattle.fidl_tree.specs.Views.{kind_view, value_view}
use Rattle.fidl_consts.specs.declared.const_type.ConstType.{ConstType}
use Rattle.fidl_consts.specs.declared.const_type.ConstType.TheVariants as ty
use Rattle.fidl_consts.specs.declared.const_type.BitsOrEnum.TheVariants as layout
use Rattle.fidl_consts.specs.declared.const_type.NumberKind.{NumberKind}
use Rattle.fidl_consts.specs.declared.fault.ConstFault.{ConstFault}
use Rattle.fidl_consts.specs.PlainValues.{PlainValue, text_length}
use Rattle.fidl_consts.specs.Types.{IsStringType, IsValuesAt, TypeIs, UnderlyingIs, path_of}
use Rattle.fidl_consts.specs.Values.{Offers, ValueIs}
use Rattle.fidl_consts.specs.Refusals.{ValueFails}
use Rattle.fidl_consts.specs.Strings.{TextFails}
use Rattle.fidl_consts.specs.Constraints.{UnderlyingFails}
use Rattle.fidl_const.specs.Evaluating.{ConstantFails, Fails}
use Rattle.fidl_consts.specs.Tables.{IsMemoryOr}
use Rattle.fidl_consts.proofs.Reports.{reports_more}
use Rattle.fidl_cycles.proofs.Lists.{contains_at as contains_there}

-- a constant's value, or its string, is refused
module _ (fs : List File) (p : DeclarationId) (f : File) (c : ConstDeclaration) (own : ConstType) where
  pub value_reported : (found : Option ConstType) → found ≡ Some own → TypeIs fs f c.constructor found → (fault : ConstFault) → IsMemoryOr (λ fault. ValueFails fs f p.file own fault (value_view c.value)) fault → IsMemoryOr (ConstantFails fs p f c) fault
  value_reported found is type_is =
      reports_more (λ fault. ValueFails fs f p.file own fault (value_view c.value)) (ConstantFails fs p f c) (λ fault h. ConstantFails.value own (subst (TypeIs fs f c.constructor) is type_is) h)

  pub text_reported : (k : PlainValue) → Offers fs (meaning.Declared p) own k → IsStringType fs f c.constructor → (fault : ConstFault) → IsMemoryOr (TextFails fs p f c (text_length k)) fault → IsMemoryOr (ConstantFails fs p f c) fault
  text_reported k offers string = reports_more (TextFails fs p f c (text_length k)) (ConstantFails fs p f c) (λ fault h. ConstantFails.text own k offers string h)

-- a member's value, or the type of its layout's numbers, is refused
module _ (fs : List File) (p : DeclarationId) (f : File) (l : ValuesLayout) (at : IsValuesAt fs p f l) (underlying : Option Path) (is : underlying ≡ path_of (out-ValuesLayout l).underlying) where
  pub underlying_reported : (fault : ConstFault) → IsMemoryOr (UnderlyingFails fs f p.file (kind_view (out-ValuesLayout l).keyword) underlying) fault → IsMemoryOr (Fails fs) fault
  underlying_reported =
      reports_more (UnderlyingFails fs f p.file (kind_view (out-ValuesLayout l).keyword) underlying) (Fails fs)
      (λ fault h. Fails.of_underlying p f l at (subst (λ (u : Option Path). UnderlyingFails fs f p.file (kind_view (out-ValuesLayout l).keyword) u fault) is h))

  pub member_reported : (kind : NumberKind) → UnderlyingIs fs f (kind_view (out-ValuesLayout l).keyword) underlying (Some kind) → (i : ℕ) (m : ValueMember) → slice_get (out-ValuesLayout l).members.items i ≡ Some m → (fault : ConstFault)
      → IsMemoryOr (λ fault. ValueFails fs f p.file (ty.Number kind) fault (value_view m.value)) fault → IsMemoryOr (Fails fs) fault
  member_reported kind kind_is i m there =
      reports_more (λ fault. ValueFails fs f p.file (ty.Number kind) fault (value_view m.value)) (Fails fs)
      (λ fault h. Fails.of_member p f l kind m at (subst (λ (u : Option Path). UnderlyingIs fs f (kind_view (out-ValuesLayout l).keyword) u (Some kind)) is kind_is) (contains_there (out-ValuesLayout l).members.items i m there) h)

  pub member_offers : (kind : NumberKind) → UnderlyingIs fs f (kind_view (out-ValuesLayout l).keyword) underlying (Some kind) → (i : ℕ) (m : ValueMember) → slice_get (out-ValuesLayout l).members.items i ≡ Some m → (k : PlainValue)
      → ValueIs fs f (ty.Number kind) (value_view m.value) k → Offers fs (meaning.Member p i) (ty.Values (layout.Declared p)) k
  member_offers kind kind_is i m there k value_is =
      Offers.member p f l kind i m k at (subst (λ (u : Option Path). UnderlyingIs fs f (kind_view (out-ValuesLayout l).keyword) u (Some kind)) is kind_is) there value_is
