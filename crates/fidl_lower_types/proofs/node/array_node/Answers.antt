use Rattle.std.proofs.Common.{ℕ, refl, sym, subst}
use Rattle.std.specs.Prelude.{Option, IfSome, IsNone, option_copied}
use Rattle.fidl_tree.specs.Syntax.{Arguments}
use Rattle.fidl_tree.specs.Views.{argument_view}
use Rattle.fidl_named.specs.declared.meaning.Predeclared.TheVariants as name
use Rattle.fidl_constraints.specs.Behind.{word_head}
use Rattle.fidl_constraints.specs.BehindViews.{arguments_view, use_view}
use Rattle.fidl_constraints.specs.Gives.{InFile}
use Rattle.fidl_lower_types.specs.declared.node.Shape.TheVariants as shape
use Rattle.fidl_lower_types.specs.Counts.{CountIs}
use Rattle.fidl_lower_types.specs.Terms.{holds, HeadIs}
use Rattle.fidl_lower_types.proofs.Heads.{array_counts}
use Rattle.fidl_lower_types.proofs.node.array_node.Goals as goal

pub returns-in_default-2-clause-none : goal.returns-in_default-2-clause-none
returns-in_default-2-clause-none c = λ _ n h.
    let fs = c.args.sources.now.named.now in
    let i = c.args.file_index in
    let pair = c.in-Some.pair in
    let none = subst (λ (o : Option ℕ). IsNone o → (k : ℕ) → InFile fs i (λ f. CountIs fs f (argument_view pair.second.now) k) → ⊥) c.in_default-2.is c.in_ok-count.ensures.none refl in
    let k = array_counts fs i c.args.parts.now.list.items (arguments_view (option_copied c.args.arguments)) n (use_view pair.first) (argument_view pair.second.now) c.in-Some.ensures.found h in
    none k.0 k.1

pub returns-clause-found : goal.returns-clause-found
returns-clause-found c =
    let fs = c.args.sources.now.named.now in
    let i = c.args.file_index in
    let ps = c.args.parts.now.list.items in
    let pair = c.in-Some.pair in
    let count = subst (λ (o : Option ℕ). IfSome o (λ k. InFile fs i (λ f. CountIs fs f (argument_view pair.second.now) k))) c.in-Some-2.is c.in_ok-count.ensures.found in
    subst (λ (a : Arguments). HeadIs fs i ps (word_head name.Array a) (holds i (use_view pair.first) (shape.Array c.in-Some-2.count))) (sym c.in-Some.ensures.found)
    (HeadIs.array (use_view pair.first) (argument_view pair.second.now) c.in-Some-2.count count)
