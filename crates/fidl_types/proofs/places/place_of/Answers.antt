use Rattle.fidl_declarations.specs.FormViews.{form_view}
use Rattle.fidl_member_rules.proofs.Listing.{seen_at}
use Rattle.fidl_types.proofs.places.place_of.Goals as goal

pub returns : goal.returns
returns c = record {
  form = form_view c.index-forms-number.result;
  at = seen_at form_view c.args.forms.now c.args.number c.index-forms-number.result c.requires c.index-forms-number.is;
  is = c.form_place.ensures;
}
