-- No refusal of a value is a cycle, so that what a refusal says of files is true of them.
use Rattle.std.proofs.Common.{◌≡◌, ℕ, Bool, true, false, List, Option, Some, None, inl, inr, refl, ap, true≢false}
use Rattle.fidl_tree.specs.declared.file.File.{File}
use Rattle.fidl_tree.specs.Syntax.{ValuesKind, Path, Operand, Value}
use Rattle.fidl_tree.specs.declared.declaration.ConstDeclaration.{ConstDeclaration}
use Rattle.fidl_named.specs.declared.place.Place.{Place}
use Rattle.fidl_named.specs.declared.place.DeclarationId.{DeclarationId}
use Rattle.fidl_named.specs.declared.meaning.Meaning.{Meaning}
use Rattle.fidl_named.specs.Places.{NamePlace}
use Rattle.fidl_tree.specs.Views.{value_view}
use Rattle.fidl_consts.specs.declared.fault.ConstFault.{ConstFault}
use Rattle.fidl_consts.specs.declared.fault.ConstFault.TheVariants.{OutOfRange, WrongKind, ConstCycle, NotBits, Memory}
use Rattle.fidl_consts.specs.declared.const_type.ConstType.{ConstType}
use Rattle.fidl_consts.specs.declared.const_type.ConstType.TheVariants as ty
use Rattle.fidl_consts.specs.Tables.{IsMemoryOr}
use Rattle.fidl_consts.specs.Refusals.{Misfits, NameFails, ValueFails, OperandFails}
use Rattle.fidl_consts.specs.Strings.{TextFails}
use Rattle.fidl_consts.specs.Constraints.{UnderlyingFails, PropertyMemberFails, ItemNameFails, ItemFails, HandleValueFails, ConstraintFails}
use Rattle.fidl_consts.specs.Places.{PlaceFails}
use Rattle.fidl_const.specs.Evaluating.{ConstantFails, Fails, IsTrueOfEvaluating}

-- a fault says that something depends on itself
abbrev is_cycle : ConstFault → Bool
is_cycle (ConstCycle place) = true
is_cycle _ = false

module _ (files : List File) where
  misfit_apart : (m : Meaning) (t : ConstType) (place : Place) (fault : ConstFault) → Misfits files m t place fault → is_cycle fault ≡ false
  misfit_apart m t place _ (Misfits.kind own k offers other) = refl
  misfit_apart m t place _ (Misfits.range own k offers suits outside) = refl

  module _ (fault : ConstFault) where
    name_apart : (f : File) (n : ℕ) (t : ConstType) (path : Path) → NameFails files f n t path fault → is_cycle fault ≡ false
    name_apart f n t path (NameFails.nothing none is) = ap is_cycle is
    name_apart f n t path (NameFails.misfit m means fails) = misfit_apart m t _ fault fails

    mutual
      value_apart : (f : File) (n : ℕ) (t : ConstType) (v : Value) → ValueFails files f n t fault v → is_cycle fault ≡ false
      value_apart f n t _ (ValueFails.not_bits v o among unjoined is) = ap is_cycle is
      value_apart f n t _ (ValueFails.too_great v first all first_is all_is outside is) = ap is_cycle is
      value_apart f n t _ (ValueFails.first v fails) = operand_apart f n t _ fails
      value_apart f n t _ (ValueFails.or_operand v o among fails) = operand_apart f n t _ fails

      operand_apart : (f : File) (n : ℕ) (t : ConstType) (e : Operand) → OperandFails files f n t fault e → is_cycle fault ≡ false
      operand_apart f n t _ (OperandFails.literal_kind e k literal_is other is) = ap is_cycle is
      operand_apart f n t _ (OperandFails.literal_range e k literal_is of_type outside is) = ap is_cycle is
      operand_apart f n t _ (OperandFails.group e v inside_is fails) = value_apart f n t v fails
      operand_apart f n t _ (OperandFails.named e path name_is fails) = name_apart f n t path fails

    text_apart : (p : DeclarationId) (f : File) (c : ConstDeclaration) (count : ℕ) → TextFails files p f c count fault → is_cycle fault ≡ false
    text_apart p f c count (TextFails.long exceeded is) = ap is_cycle is
    text_apart p f c count (TextFails.optional word is) = ap is_cycle is
    text_apart p f c count (TextFails.bound fails) = value_apart f p.file _ fails.value fails.fails

    constant_apart : (p : DeclarationId) (f : File) (c : ConstDeclaration) → ConstantFails files p f c fault → is_cycle fault ≡ false
    constant_apart p f c (ConstantFails.no_type type_is is) = ap is_cycle is
    constant_apart p f c (ConstantFails.value own type_is fails) = value_apart f p.file own (value_view c.value) fails
    constant_apart p f c (ConstantFails.text own k offers string fails) = text_apart p f c _ fails

    underlying_apart : (f : File) (n : ℕ) (values : ValuesKind) (path : Option Path) → UnderlyingFails files f n values path fault → is_cycle fault ≡ false
    underlying_apart f n values None fails = absurd fails
    underlying_apart f n values (Some path) fails = ap is_cycle fails.1

    property_member_apart : (m : Meaning) → PropertyMemberFails files fault m → is_cycle fault ≡ false
    property_member_apart _ (PropertyMemberFails.underlying p n f l i found fails) = underlying_apart f p.file _ _ fails
    property_member_apart _ (PropertyMemberFails.value p n f l kind i m found layout_is there fails) = value_apart f p.file (ty.Number kind) (value_view m.value) fails

    module _ (f : File) (n : ℕ) (end : Meaning) (rank : ℕ) where
      item_name_apart : (t : ConstType) (path : Path) → ItemNameFails files f n end rank t path fault → is_cycle fault ≡ false
      item_name_apart t path (ItemNameFails.nothing none is) = ap is_cycle is
      item_name_apart t path (ItemNameFails.valueless m means none is) = ap is_cycle is
      item_name_apart t path (ItemNameFails.member m means fails) = property_member_apart m fails
      item_name_apart t path (ItemNameFails.misfit m means fails) = misfit_apart m t _ fault fails

      item_apart : (t : ConstType) (v : Value) → ItemFails files f n end rank t v fault → is_cycle fault ≡ false
      item_apart t v (ItemFails.by_name path alone fails) = item_name_apart t path fails
      item_apart t v (ItemFails.expression alone fails) = value_apart f n t v fails

      handle_apart : (v : Value) → HandleValueFails files f n end rank v fault → is_cycle fault ≡ false
      handle_apart v (HandleValueFails.value t wants fails) = item_apart t v fails
      handle_apart v (HandleValueFails.no_type wants is) = ap is_cycle is

      constraint_apart : (v : Value) → ConstraintFails files f n end rank v fault → is_cycle fault ≡ false
      constraint_apart v (ConstraintFails.bound bounded fails) = value_apart f n _ v fails
      constraint_apart v (ConstraintFails.property fails) = handle_apart v fails

    place_apart : (f : File) (n : ℕ) (place : NamePlace) → PlaceFails files f n fault place → is_cycle fault ≡ false
    place_apart f n _ (PlaceFails.of_count argument_of word wants outside is) = ap is_cycle is
    place_apart f n _ (PlaceFails.of_underlying values underlying members fails) = underlying_apart f n values underlying fails
    place_apart f n _ (PlaceFails.of_member values underlying members kind underlying_is fails) = value_apart f n (ty.Number kind) _ fails.fails
    place_apart f n _ (PlaceFails.of_named_count argument_of path cs wants fails) = name_apart f n _ path fails
    place_apart f n _ (PlaceFails.of_type argument_of path cs m end wants means stands fails) = constraint_apart f n end fails.rank fails.value fails.fails

    apart : Fails files fault → is_cycle fault ≡ false
    apart (Fails.of_constant p f c at fails) = constant_apart p f c fails
    apart (Fails.of_underlying p f l at fails) = underlying_apart f p.file _ _ fails
    apart (Fails.of_member p f l kind m at layout_is among fails) = value_apart f p.file (ty.Number kind) (value_view m.value) fails
    apart (Fails.of_bound p f a at string fails) = value_apart f p.file _ fails.value fails.fails
    apart (Fails.of_place n f d there among fails) = place_apart f n fails.place fails.fails

-- what a refusal says is true of the files
pub reported_true : (files : List File) (fault : ConstFault) → IsMemoryOr (Fails files) fault → IsTrueOfEvaluating files fault
reported_true files (OutOfRange place) (inl is) = let bad : OutOfRange place ≡ Memory = is in absurd cc
reported_true files (OutOfRange place) (inr fails) = fails
reported_true files (WrongKind place) (inl is) = let bad : WrongKind place ≡ Memory = is in absurd cc
reported_true files (WrongKind place) (inr fails) = fails
reported_true files (ConstCycle place) (inl is) = let bad : ConstCycle place ≡ Memory = is in absurd cc
reported_true files (ConstCycle place) (inr fails) = absurd (true≢false (apart files (ConstCycle place) fails))
reported_true files (NotBits place) (inl is) = let bad : NotBits place ≡ Memory = is in absurd cc
reported_true files (NotBits place) (inr fails) = fails
reported_true files Memory fault_is_true = tt
