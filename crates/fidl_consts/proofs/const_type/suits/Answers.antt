use Rattle.std.proofs.Common.{rules, ◌≡◌, Bool, true, refl, sym, subst, ◌∙◌}
use Rattle.fidl_consts.specs.declared.const_type.NumberKind.{NumberKind}
use Rattle.fidl_consts.specs.declared.const_type.ConstType.{ConstType}
use Rattle.fidl_consts.specs.declared.const_type.ConstType.TheVariants as ty
use Rattle.fidl_consts.specs.PlainValues.{Suits}
use Rattle.fidl_consts.proofs.const_type.suits.Goals as goal

-- the number of a member suits, and no other number of bits or an enum
suits_member : (is_member : Bool) (own wanted : ConstType) (values : _) (kind : NumberKind) → own ≡ ty.Values values → wanted ≡ ty.Number kind → Suits is_member own wanted → is_member ≡ true
suits_member is_member own wanted values kind one other (Suits.same t) =
    let no : ty.Values values ≡ ty.Number kind = sym one ∙ other in
    absurd (cc)
suits_member is_member own wanted values kind one other (Suits.numbers a b) = absurd (cc)
suits_member is_member own wanted values kind one other (Suits.member v k is) = is

pub returns-then-eq : goal.returns-then-eq
returns-then-eq c =
    let same : c.args.own ≡ c.args.wanted = search (rules, c.eq.ensures, c.if-eq.true) in
    (λ _. subst (Suits c.args.is_member c.args.own) same (Suits.same c.args.own), λ _. refl)

pub returns-in-Number-Number : goal.returns-in-Number-Number
returns-in-Number-Number c =
    let one : c.args.own ≡ ty.Number c.in-Number-Number.field-0-0 = c.in-Number-Number.is-0 in
    let other : c.args.wanted ≡ ty.Number c.in-Number-Number.field-0-1 = c.in-Number-Number.is-1 in
    (λ _. rw (one, other) (Suits.numbers _ _), λ _. refl)

pub returns-in-Values-Number : goal.returns-in-Values-Number
returns-in-Values-Number c =
    let one : c.args.own ≡ ty.Values c.in-Values-Number.field-0-0 = c.in-Values-Number.is-0 in
    let other : c.args.wanted ≡ ty.Number c.in-Values-Number.field-0-1 = c.in-Values-Number.is-1 in
    (λ h. rw (one, other) (Suits.member _ _ h), suits_member c.args.is_member c.args.own c.args.wanted _ _ one other)
