use Rattle.std.proofs.Common.{◌∙◌, List, Option, Some, refl, ap, sym, subst}
use Rattle.std.specs.Prelude.{IfSome, IsNone}
use Rattle.fidl_constraints.specs.BehindViews.{use_view}
use Rattle.fidl_ir.specs.Terms.{term_view}
use Rattle.fidl_lower_types.specs.declared.node.Node.{Node as CodeNode}
use Rattle.fidl_lower_types.specs.declared.node.Shape.{Shape}
use Rattle.fidl_lower_types.specs.Terms.{Node, NodeIs, TermIs}
use Rattle.fidl_lower_types.specs.TermViews.{node_view, made_of_all}
use Rattle.fidl_lower_types.proofs.Descending.{IsReached, reached_first, reached_leaf, reached_nothing, reached_next}
use Rattle.fidl_lower_types.proofs.terms.term_of.Goals as goal

pub elements-init : goal.elements-init
elements-init c =
    let t = use_view c.args.of in
    subst (λ (l : List Shape). IsReached c.args.sources.now.named.now c.args.file_index t l c.args.file_index t) (sym c.new-shapes.ensures.items)
    (reached_first c.args.sources.now.named.now c.args.file_index t c.requires.within)

pub returns-in-None-clause-none : goal.returns-in-None-clause-none
returns-in-None-clause-none c = λ _ e h.
    let fs = c.args.sources.now.named.now in
    let at = c.elements.at in
    let t = use_view c.elements.current in
    let none = subst (λ (o : Option CodeNode). IsNone o → (n : Node) → NodeIs fs at t n → ⊥) c.in-None.is c.in_ok-node_of.ensures.none refl in
    reached_nothing fs c.args.file_index (use_view c.args.of) c.elements.shapes.items at t c.elements.invariant none e h

pub returns-in-Some-Leaf-clause-found : goal.returns-in-Some-Leaf-clause-found
returns-in-Some-Leaf-clause-found c =
    let fs = c.args.sources.now.named.now in
    let at = c.elements.at in
    let t = use_view c.elements.current in
    let first = use_view c.args.of in
    let its = subst (λ (o : Option CodeNode). IfSome o (λ n. NodeIs fs at t (node_view n))) (c.in-Some-Leaf.is ∙ ap Some c.in-Some-Leaf.field-0-is) c.in_ok-node_of.ensures.found in
    let h = reached_leaf fs c.args.file_index first c.elements.shapes.items at t c.elements.invariant (term_view c.in-Some-Leaf.last) its in
    let made = c.in_ok-made_of_all-in-Some-Leaf.ensures ∙ ap (λ (l : List Shape). made_of_all l (term_view c.in-Some-Leaf.last)) c.deref.ensures.value in
    subst (TermIs fs c.args.file_index first) (sym made) h

pub elements-preserved : goal.elements-preserved
elements-preserved c =
    let fs = c.args.sources.now.named.now in
    let at = c.elements.at in
    let t = use_view c.elements.current in
    let first = use_view c.args.of in
    let next = use_view c.in-Some-Elements.next in
    let of = c.in-Some-Elements.file_index in
    let its = subst (λ (o : Option CodeNode). IfSome o (λ n. NodeIs fs at t (node_view n))) (c.in-Some-Elements.is ∙ ap Some c.in-Some-Elements.field-0-is) c.in_ok-node_of.ensures.found in
    let h = reached_next fs c.args.file_index first c.elements.shapes.items at t c.elements.invariant of next c.in-Some-Elements.shape its in
    subst (λ (l : List Shape). IsReached fs c.args.file_index first l of next) (sym c.in_ok-push-in-Some-Elements.ensures.items) h
