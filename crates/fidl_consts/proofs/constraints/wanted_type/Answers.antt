use Rattle.std.proofs.Common.{◌≡◌, ◌<◌, arith, length, Some, refl, sym, subst, ap}
use Rattle.std.specs.Prelude.{slice_get}
use Rattle.std.proofs.lemmas.Option.{slice_get_read, slice_get_within}
use borrow.Author.Tests.{ltb-true}
use Rattle.fidl_consts.proofs.Properties.{property_there, property_is}
use Rattle.fidl_consts.proofs.constraints.wanted_type.Goals as goal

pub returns-in_default-clause-none : goal.returns-in_default-clause-none
returns-in_default-clause-none c = λ _ p g n m h. c.in_default.ensures.none refl p n (record { file = g; member = m; is_for = h })

pub returns-in_default-get-clause-none : goal.returns-in_default-get-clause-none
returns-in_default-get-clause-none c = λ _ p g n m h.
    let at = c.in-Some.at in
    let items = c.in-Resource.definition.properties.members.items in
    let there = property_there c.args.named.now at.id c.in-Some-declaration_at.found.file.now c.in-Some-declaration_at.found.declaration.now c.in-Resource.definition (Some c.args.end) c.args.rank at.number
    c.in-Some-declaration_at.ensures.found c.in-Resource.is c.in-Some.ensures.found in
    let within : at.number < length items = slice_get_within items at.number c.in-Some.ensures.found.member there in
    let past = c.in_default-get.ensures.lookup in
    let long : length c.deref.result.now ≡ length items = ap length c.deref.ensures.value in
    omega (arith, past.3, within, long)

pub returns-clause-found : goal.returns-clause-found
returns-clause-found c =
    let at = c.in-Some.at in
    let members = c.deref.result.now in
    let look = c.in-Some-get.ensures.lookup in
    let found : slice_get members at.number ≡ Some c.in-Some-get.property.now = slice_get_read members (length members) at.number c.in-Some-get.property.now refl (ltb-true at.number (length members) (sym look.0)) look.1 in
    let there = subst (λ l. slice_get l at.number ≡ Some c.in-Some-get.property.now) c.deref.ensures.value found in
    record {
      id = at.id;
      file = c.in-Some-declaration_at.found.file.now;
      number = at.number;
      property = c.in-Some-get.property.now;
      is_for = property_is c.args.named.now at.id c.in-Some-declaration_at.found.file.now c.in-Some-declaration_at.found.declaration.now c.in-Resource.definition (Some c.args.end) c.args.rank at.number
          c.in-Some-declaration_at.ensures.found c.in-Resource.is c.in-Some.ensures.found c.in-Some-get.property.now there;
      is = c.in_ok-wanted.ensures;
    }
