use Rattle.std.proofs.Common.{◌≡◌, ◌∙◌, Some, ap, sym, subst}
use Rattle.std.specs.Prelude.{option_copied, option_map}
use Rattle.fidl_tree.specs.Syntax.{Arguments}
use Rattle.fidl_constraints.specs.Behind.{word_head}
use Rattle.fidl_constraints.specs.BehindViews.{arguments_view}
use Rattle.fidl_ir.specs.Terms.{term_view}
use Rattle.fidl_lower_types.specs.Terms.{leaf, word_term, HeadIs}
use Rattle.fidl_lower_types.proofs.node.plain_node.Goals as goal

pub returns-in-Some-2-clause-found : goal.returns-in-Some-2-clause-found
returns-in-Some-2-clause-found c = λ files number.
    let ps = c.args.parts.now.list.items in
    let e = term_view c.in-Some-2.found in
    let is : word_term c.args.name ps ≡ Some e = sym c.in_ok-word_type.ensures ∙ ap (option_map term_view) c.in-Some-2.is in
    let none = ap (λ o. arguments_view (option_copied o)) c.in_default.is in
    subst (λ (a : Arguments). HeadIs files number ps (word_head c.args.name a) (leaf e)) (sym none) (HeadIs.word c.args.name e is)
