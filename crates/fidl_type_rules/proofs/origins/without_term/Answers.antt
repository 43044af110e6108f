use Rattle.std.proofs.Common.{◌≡◌, ℕ, Option, Some, refl, subst}
use Rattle.std.specs.Prelude.{IsNone}
use Rattle.std.proofs.lemmas.Result.{IfOk-weaker}
use Rattle.fidl_tree.specs.Syntax.{TypeUse}
use Rattle.fidl_constraints.specs.Behind.{RefersTo, follows}
use Rattle.fidl_constraints.specs.BehindViews.{use_view}
use Rattle.fidl_type_rules.specs.declared.used.Used.{Used}
use Rattle.fidl_type_rules.specs.Words.{arguments_in}
use Rattle.fidl_type_rules.specs.Made.{first_type, HasTerm, IsOfTerms}
use Rattle.fidl_type_rules.proofs.Stood.{no_more}
use Rattle.fidl_type_rules.proofs.origins.without_term.Goals as goal

pub returns-in-None-clause-none : goal.returns-in-None-clause-none
returns-in-None-clause-none c =
    let fs = c.args.sources.now.named.now in
    let i = c.args.used.file_index in
    let t = use_view c.args.used.of in
    let aliased = subst (λ (x : Option Used). IsNone x → (n : ℕ) (u : TypeUse) → RefersTo fs i t (follows n u) → HasTerm fs n u) c.in-None.is c.in_ok-origin.ensures.none refl in
    IfOk-weaker c.argument_without_term.result (λ (x : Option Used). IsNone x → (u : TypeUse) → first_type (arguments_in t) ≡ Some u → HasTerm fs i u) (λ (x : Option Used). IsNone x → IsOfTerms fs i t)
    (λ x h none. no_more fs i t aliased (h none)) c.argument_without_term.ensures.none
