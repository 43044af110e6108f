use Rattle.std.proofs.Common.{◌≡◌, true, refl, sym, subst}
use Rattle.fidl_consts.specs.declared.const_type.ConstType.{ConstType}
use Rattle.std.specs.Prelude.{ℤ}
use Rattle.fidl_consts.specs.declared.const_type.NumberKind.{NumberKind}
use Rattle.fidl_consts.specs.declared.const_type.ConstType.TheVariants as ty
use Rattle.fidl_consts.specs.PlainValues.{a_number, is_literal_of}
use Rattle.fidl_consts.specs.Values.{signed_if}
use Rattle.fidl_consts.specs.Literals.{number_of}
use Rattle.fidl_consts.specs.Refusals.{LiteralFails}
use Rattle.fidl_consts.specs.declared.fault.ConstFault.TheVariants.{OutOfRange}
use Rattle.fidl_consts.proofs.Ranges.{too_great_for_all}
use Rattle.fidl_consts.proofs.values.number_literal.Goals as goal

pub returns-in-Number-clause-fault_is_true : goal.returns-in-Number-clause-fault_is_true
returns-in-Number-clause-fault_is_true c =
    let k = a_number (signed_if c.args.minus (number_of c.args.text.now)) in
    subst (λ (t : ConstType). LiteralFails t k c.args.place (OutOfRange c.args.place)) (sym c.in-Number.is)
    (LiteralFails.range refl (λ h. too_great_for_all c.in-Number.field-0 c.args.minus _ (c.in-None.ensures.none refl) h))

other_literal : (t : ConstType) (z : ℤ) → ((kind : NumberKind) → t ≡ ty.Number kind → ⊥) → is_literal_of t (a_number z) ≡ true → ⊥
other_literal ty.Bool z none h = cc
other_literal (ty.Number kind) z none h = none kind refl
other_literal ty.String z none h = cc
other_literal (ty.Values values) z none h = cc

pub returns-in_default : goal.returns-in_default
returns-in_default c = record { ok = tt; fault_is_true = LiteralFails.kind (other_literal c.args.wanted _ c.in_default.not-Number) }
