use Rattle.std.proofs.Common.{None, inl, inr, refl}
use Rattle.fidl_consts.specs.Types.{EndIs}
use Rattle.fidl_consts.proofs.types.end_type.Goals as goal

pub returns-in-Predeclared : goal.returns-in-Predeclared
returns-in-Predeclared c = rw (c.predeclared_type.ensures, c.in-Predeclared.is) (EndIs.predeclared c.in-Predeclared.name)

pub returns-in-None : goal.returns-in-None
returns-in-None c = rw c.in-Declared.is (EndIs.no_values c.in-Declared.id (c.in-None.ensures.none refl))

pub returns-in-Some : goal.returns-in-Some
returns-in-Some c = rw c.in-Declared.is (EndIs.values c.in-Declared.id c.in-Some.field-0.file.now c.in-Some.field-0.layout.now c.in-Some.ensures.found)

pub returns-in-Member : goal.returns-in-Member
returns-in-Member c = elim c.in-Member.is as (λ _. EndIs c.args.named.now c.args.end None) [
  | inl h ↦ let is = h.2 in rw is (EndIs.member h.0 h.1)
  | inr h ↦ let is = h.3 in rw is (EndIs.property_member h.0 h.1 h.2)
]
