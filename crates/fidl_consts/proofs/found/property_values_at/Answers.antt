use Rattle.std.proofs.Common.{◌≡◌, Some, length, refl, sym, subst}
use Rattle.std.specs.Prelude.{slice_get}
use Rattle.std.proofs.lemmas.Option.{slice_get_read}
use borrow.Author.Tests.{ltb-true}
use Rattle.fidl_consts.proofs.found.property_values_at.Goals as goal

pub returns-clause-found : goal.returns-clause-found
returns-clause-found c =
    let properties = c.deref.result.now in
    let look = c.in_ok-property.ensures.lookup in
    let property = c.in_ok-property.property.now in
    let there : slice_get properties c.args.number ≡ Some property = slice_get_read properties (length properties) c.args.number property refl (ltb-true c.args.number (length properties) (sym look.0)) look.1 in
    record {
      declaration = c.in_ok-found.found.declaration.now;
      definition = c.in-Resource.definition;
      property = property;
      at = c.in_ok-found.ensures.found;
      body = c.in-Resource.is;
      property_at = subst (λ l. slice_get l c.args.number ≡ Some property) c.deref.ensures.value there;
      is = sym c.in_ok-layout.ensures;
    }
