use Rattle.std.proofs.Common.{Option, ap, refl, subst}
use Rattle.std.specs.Prelude.{option_map}
use Rattle.fidl_tree.specs.Syntax.{TypeUse}
use Rattle.fidl_tree.specs.Views.{type_view}
use Rattle.fidl_lower_layouts.specs.Results.{ResponseIs}
use Rattle.fidl_lower_layouts.proofs.results.response_type.Goals as goal

pub returns-in-None-clause-none : goal.returns-in-None-clause-none
returns-in-None-clause-none c = λ _ e h.
    let k = subst (λ (o : Option TypeUse). ResponseIs c.args.scope.sources.now.named.now c.args.scope.file_index c.args.result_path.now o e) (ap (option_map type_view) c.in_default.is) h in
    c.in-None.ensures.none refl k.0 k.1
