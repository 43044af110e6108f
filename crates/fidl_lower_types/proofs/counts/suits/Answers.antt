use Rattle.std.proofs.Common.{refl, sym, subst}
use Rattle.fidl_consts.specs.declared.const_type.ConstType.{ConstType}
use Rattle.fidl_consts.specs.declared.const_type.NumberKind.TheVariants.{Uint32}
use Rattle.fidl_consts.specs.declared.const_type.ConstType.TheVariants as ty
use Rattle.fidl_consts.specs.PlainValues.{Suits}
use Rattle.fidl_lower_types.proofs.Counting.{values_suit}
use Rattle.fidl_lower_types.proofs.counts.suits.Goals as goal

pub returns-in-Number : goal.returns-in-Number
returns-in-Number c =
    (λ _. subst (λ (o : ConstType). Suits c.args.member o (ty.Number Uint32)) (sym c.in-Number.is) (Suits.numbers c.in-Number.field-0 Uint32), λ _. refl)

pub returns-in-Values : goal.returns-in-Values
returns-in-Values c = (
  λ on. subst (λ (o : ConstType). Suits c.args.member o (ty.Number Uint32)) (sym c.in-Values.is) (Suits.member c.in-Values.field-0 Uint32 on),
  λ h. values_suit c.args.member c.args.own (ty.Number Uint32) c.in-Values.field-0 c.in-Values.is refl h,
)
