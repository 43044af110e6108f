-- Definitions of files stand for their forms, one for each.
use Rattle.std.proofs.Common.{◌≡◌, ◌<◌, ℕ, List, Some, length, ap, arith}
use Rattle.std.specs.Prelude.{slice_get}
use Rattle.std.proofs.Math.ListN.{length-map}
use Rattle.std.proofs.lemmas.Option.{slice_get_within}
use Rattle.fidl_member_rules.proofs.Listing.{zip_length}
use Rattle.fidl_tree.specs.declared.file.File.{File}
use Rattle.fidl_declarations.specs.declared.form.Form.{Form as CodeForm}
use Rattle.fidl_declarations.specs.FormViews.{form_view, forms_view}
use Rattle.fidl_wire.specs.Term.{Term}
use Rattle.fidl_lower_types.specs.Numbers.{all_forms}
use Rattle.fidl_lower_layouts.specs.Definitions.{DefinitionIs, DefinitionsAre}

pub form_there : (files : List File) (forms : List CodeForm) (terms : List Term) → forms_view forms ≡ all_forms files → DefinitionsAre files terms → (i : ℕ) (t : Term) → slice_get terms i ≡ Some t → i < length forms
form_there files forms terms are definitions i t at =
    let within = slice_get_within terms i t at in
    let paired = zip_length (DefinitionIs files) (all_forms files) terms definitions in
    let same = ap length are in
    let long = length-map forms form_view in
    omega (arith, within, paired, same, long)
