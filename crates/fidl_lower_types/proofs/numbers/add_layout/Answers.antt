use Rattle.std.proofs.Common.{◌∙◌, refl, sym}
use Rattle.indexmap.specs.IndexMap.{get}
use Rattle.fidl_declarations.specs.FormViews.{form_view}
use Rattle.fidl_lower_types.specs.NumberViews.{same_key, IsLayoutKey}
use Rattle.fidl_lower_types.proofs.Indexing.{one_layout_key, test_layouts, stays_unknown, stays_late, stays_known, grows}
use Rattle.fidl_lower_types.proofs.numbers.add_layout.Goals as goal

pub returns-in_default : goal.returns-in_default
returns-in_default c = λ forms at. stays_unknown IsLayoutKey one_layout_key same_key test_layouts forms c.args.index (form_view c.args.form.now) at (get same_key c.args.known.now) (λ key its. absurd (let none = sym c.form_key.ensures ∙ c.in_default.is in cc))

pub returns-in_default-small : goal.returns-in_default-small
returns-in_default-small c = λ forms at. stays_late IsLayoutKey one_layout_key same_key test_layouts forms c.args.index (form_view c.args.form.now) at (get same_key c.args.known.now) (c.in_default-small.ensures.none refl)

pub returns-then-contains_key : goal.returns-then-contains_key
returns-then-contains_key c = λ forms at. stays_known IsLayoutKey one_layout_key same_key test_layouts forms c.args.index (form_view c.args.form.now) at (get same_key c.args.known.now) c.in-Some.key (sym c.form_key.ensures ∙ c.in-Some.is) (sym c.contains_key.ensures ∙ c.if-contains_key.true)

pub returns : goal.returns
returns c = λ forms at. grows IsLayoutKey one_layout_key same_key test_layouts forms c.args.index (form_view c.args.form.now) at (get same_key c.args.known.now) (get same_key c.insert.new.self) c.in-Some.key c.in-Some-small.number (sym c.form_key.ensures ∙ c.in-Some.is) c.in-Some-small.ensures.found (sym c.contains_key.ensures ∙ c.if-contains_key.false) c.in_ok-insert.ensures.updates.0
