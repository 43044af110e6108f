use Rattle.std.proofs.Common.{◌≡◌, ◌∙◌, Bool, ℕ, ap, sym, subst}
use Rattle.fidl_tree.specs.Syntax.{Arguments, next_argument, type_argument, no_arguments}
use Rattle.fidl_named.specs.declared.meaning.Predeclared.TheVariants as name
use Rattle.fidl_constraints.specs.Behind.{word_head}
use Rattle.fidl_constraints.specs.BehindViews.{use_view}
use Rattle.fidl_constraints.specs.Parts.{optional_in, bound_in}
use Rattle.fidl_lower_types.specs.declared.node.Shape.{Shape}
use Rattle.fidl_lower_types.specs.declared.node.Shape.TheVariants as shape
use Rattle.fidl_lower_types.specs.Terms.{holds, HeadIs}
use Rattle.fidl_lower_types.proofs.node.vector_node.Goals as goal

pub returns-clause-found : goal.returns-clause-found
returns-clause-found c = λ files.
    let i = c.args.file_index in
    let ps = c.args.parts.now.list.items in
    let t = use_view c.in_ok-next.next in
    let made : shape.Vector (optional_in ps) (bound_in ps) ≡ shape.Vector c.is_optional.result c.bound.result =
    ap (λ (b : Bool). shape.Vector b (bound_in ps)) (sym c.is_optional.ensures) ∙ ap (λ (n : ℕ). shape.Vector c.is_optional.result n) (sym c.bound.ensures) in
    subst (λ (a : Arguments). HeadIs files i ps (word_head name.Vector a) (holds i t (shape.Vector c.is_optional.result c.bound.result))) (sym c.in_ok-next.ensures.found)
    (subst (λ (s : Shape). HeadIs files i ps (word_head name.Vector (next_argument (type_argument t) no_arguments)) (holds i t s)) made (HeadIs.vector t))
