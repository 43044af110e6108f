use Rattle.std.proofs.Common.{◌≡◌, Bool, true, false, sym, subst}
use Rattle.fidl_consts.specs.PlainValues.{Suits}
use Rattle.fidl_consts.specs.Values.{Gives, is_member}
use Rattle.fidl_consts.specs.Refusals.{Misfits}
use Rattle.fidl_consts.proofs.values.given.Goals as goal

pub returns-then-not-suits-clause-fault_is_true : goal.returns-then-not-suits-clause-fault_is_true
returns-then-not-suits-clause-fault_is_true c files offers = Misfits.kind _ _ offers
    (λ h. let bad : false ≡ true = c.if-not-suits.ensures.1 (subst (λ (b : Bool). Suits b c.args.entry.own c.args.wanted) (sym c.is_member.ensures) h) in cc)

pub returns-then-not-fits-clause-fault_is_true : goal.returns-then-not-fits-clause-fault_is_true
returns-then-not-fits-clause-fault_is_true c files offers =
    let suits : Suits (is_member c.args.meaning) c.args.entry.own c.args.wanted =
    subst (λ (b : Bool). Suits b c.args.entry.own c.args.wanted) c.is_member.ensures (c.suits.ensures.0 c.if-not-suits.false) in
    Misfits.range _ _ offers suits (λ h. let bad : false ≡ true = c.if-not-fits.ensures.1 h in cc)

pub returns-clause-ok : goal.returns-clause-ok
returns-clause-ok c files offers =
    let suits : Suits (is_member c.args.meaning) c.args.entry.own c.args.wanted =
    subst (λ (b : Bool). Suits b c.args.entry.own c.args.wanted) c.is_member.ensures (c.suits.ensures.0 c.if-not-suits.false) in
    Gives.offered _ _ _ _ offers suits (c.fits.ensures.0 c.if-not-fits.false)
