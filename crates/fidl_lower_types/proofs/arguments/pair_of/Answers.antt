use Rattle.std.proofs.Common.{◌∙◌, map, ap, sym, refl}
use Rattle.fidl_tree.specs.Syntax.{type_argument}
use Rattle.fidl_tree.specs.Views.{argument_view, next_argument_view}
use Rattle.fidl_tree.specs.declared.type_constructor.TypeArguments.{out-TypeArguments}
use Rattle.fidl_lower_types.proofs.Heads.{arguments_seen, behind_first}
use Rattle.fidl_lower_types.proofs.arguments.pair_of.Goals as goal

pub returns-in_err-second-clause-none : goal.returns-in_err-second-clause-none
returns-in_err-second-clause-none c = λ _ t a is.
    let all = out-TypeArguments c.args.all.now in
    let rest = behind_first (argument_view all.first.value) (type_argument t) a (map next_argument_view all.rest.items) (sym (arguments_seen c.args.all.now) ∙ is) in
    c.in_err-second.ensures.none refl a (ap (map next_argument_view) c.deref.ensures.value ∙ rest)
