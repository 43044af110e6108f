use Rattle.std.proofs.Common.{ℕ, Option, refl, sym, subst}
use Rattle.std.specs.Prelude.{IfSome, IsNone, option_copied}
use Rattle.fidl_tree.specs.Syntax.{Arguments}
use Rattle.fidl_named.specs.declared.meaning.Predeclared.TheVariants as name
use Rattle.fidl_constraints.specs.Behind.{word_head}
use Rattle.fidl_constraints.specs.BehindViews.{arguments_view, use_view}
use Rattle.fidl_wire.specs.Term as ty
use Rattle.fidl_lower_types.specs.Terms.{leaf, HeadIs, IsStruct}
use Rattle.fidl_lower_types.proofs.Heads.{box_struct}
use Rattle.fidl_lower_types.proofs.node.box_node.Goals as goal

pub returns-in-None-clause-none : goal.returns-in-None-clause-none
returns-in-None-clause-none c = λ _ n h.
    let fs = c.args.sources.now.named.now in
    let i = c.args.file_index in
    let t = use_view c.in-Some.content in
    let none = subst (λ (o : Option ℕ). IsNone o → (k : ℕ) → IsStruct fs i t k → ⊥) c.in-None.is c.in_ok-struct_number.ensures.none refl in
    let k = box_struct fs i c.args.parts.now.list.items (arguments_view (option_copied c.args.arguments)) n t c.in-Some.ensures.found h in
    none k.0 k.1

pub returns-in-Some-2-clause-found : goal.returns-in-Some-2-clause-found
returns-in-Some-2-clause-found c =
    let fs = c.args.sources.now.named.now in
    let i = c.args.file_index in
    let t = use_view c.in-Some.content in
    let its = subst (λ (o : Option ℕ). IfSome o (IsStruct fs i t)) c.in-Some-2.is c.in_ok-struct_number.ensures.found in
    subst (λ (a : Arguments). HeadIs fs i c.args.parts.now.list.items (word_head name.Box a) (leaf (ty.box (ty.named c.in-Some-2.number)))) (sym c.in-Some.ensures.found) (HeadIs.box t c.in-Some-2.number its)
