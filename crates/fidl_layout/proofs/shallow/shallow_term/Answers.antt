use Rattle.std.proofs.Common.{◌≡◌, ◌∙◌, ◌++◌, ◌∷◌, [], List, Option, Some, refl, ap, sym, subst}
use Rattle.std.specs.Prelude.{IfSome}
use Rattle.fidl_constraints.specs.BehindViews.{use_view}
use Rattle.fidl_ir.specs.Terms.{term_view}
use Rattle.fidl_wire.specs.Term.{Term}
use Rattle.fidl_wire.specs.Term as ty
use Rattle.fidl_lower_types.specs.declared.node.Node.{Node as CodeNode}
use Rattle.fidl_lower_types.specs.declared.node.Shape.{Shape}
use Rattle.fidl_lower_types.specs.declared.node.Shape.TheVariants as shape
use Rattle.fidl_lower_types.specs.Terms.{leaf, holds, NodeIs}
use Rattle.fidl_lower_types.specs.TermViews.{node_view, made_of_all}
use Rattle.fidl_layout.specs.Shallow.{IsShallow}
use Rattle.fidl_layout.proofs.FirstVectors.{IsReached, reached_first, reached_next}
use Rattle.fidl_layout.proofs.shallow.shallow_term.Goals as goal

pub arrays-init : goal.arrays-init
arrays-init c =
    subst (λ (l : List Shape). IsReached c.args.sources.now.named.now c.args.file_index (use_view c.args.of) l c.args.file_index (use_view c.args.of)) (sym c.new-shapes.ensures.items)
    (reached_first c.args.sources.now.named.now c.args.file_index (use_view c.args.of) c.requires.within)

pub returns-in-Some-Leaf : goal.returns-in-Some-Leaf
returns-in-Some-Leaf c =
    let fs = c.args.sources.now.named.now in
    let at = c.arrays.at in
    let t = use_view c.arrays.current in
    let last = term_view c.in-Some-Leaf.last in
    let its = subst (λ (o : Option CodeNode). IfSome o (λ n. NodeIs fs at t (node_view n))) (c.in-Some-Leaf.is ∙ ap Some c.in-Some-Leaf.field-0-is) c.in_ok-node_of.ensures.found in
    let h = c.arrays.invariant.from last (IsShallow.alone at t last its) in
    let made = c.in_ok-made_of_all-in-Some-Leaf.ensures ∙ ap (λ (l : List Shape). made_of_all l last) c.deref.ensures.value in
    subst (IsShallow fs c.args.file_index (use_view c.args.of)) (sym made) h

pub returns-in-Vector : goal.returns-in-Vector
returns-in-Vector c =
    let fs = c.args.sources.now.named.now in
    let at = c.arrays.at in
    let t = use_view c.arrays.current in
    let of = c.in-Some-Elements.file_index in
    let next = use_view c.in-Some-Elements.next in
    let s = c.in-Some-Elements.shape in
    let its : NodeIs fs at t (holds of next s) = subst (λ (o : Option CodeNode). IfSome o (λ n. NodeIs fs at t (node_view n))) (c.in-Some-Elements.is ∙ ap Some c.in-Some-Elements.field-0-is) c.in_ok-node_of.ensures.found in
    let is : s ≡ shape.Vector c.in-Vector.optional c.in-Vector.bound = cc in
    let node = subst (λ (x : Shape). NodeIs fs at t (holds of next x)) is its in
    let h = c.arrays.invariant.from (ty.vector c.in-Vector.optional c.in-Vector.bound ty.bool) (IsShallow.of_vector at t of next c.in-Vector.optional c.in-Vector.bound node) in
    let made = c.in_ok-made_of_all-in-Vector.ensures ∙ ap (λ (l : List Shape). made_of_all l (term_view c.in_ok-last-in-Vector.last)) c.deref-in-Vector.ensures.value
    ∙ ap (made_of_all c.arrays.shapes.items) c.in_ok-last-in-Vector.ensures in
    subst (IsShallow fs c.args.file_index (use_view c.args.of)) (sym made) h

pub arrays-preserved : goal.arrays-preserved
arrays-preserved c =
    let fs = c.args.sources.now.named.now in
    let at = c.arrays.at in
    let t = use_view c.arrays.current in
    let first = use_view c.args.of in
    let of = c.in-Some-Elements.file_index in
    let next = use_view c.in-Some-Elements.next in
    let s = c.in-Some-Elements.shape in
    let its : NodeIs fs at t (holds of next s) = subst (λ (o : Option CodeNode). IfSome o (λ n. NodeIs fs at t (node_view n))) (c.in-Some-Elements.is ∙ ap Some c.in-Some-Elements.field-0-is) c.in_ok-node_of.ensures.found in
    let is : s ≡ shape.Array c.in-Array.count = cc in
    let node = subst (λ (x : Shape). NodeIs fs at t (holds of next x)) is its in
    let h = reached_next fs c.args.file_index first c.arrays.shapes.items at t c.arrays.invariant of next c.in-Array.count node in
    let shaped = subst (λ (x : Shape). IsReached fs c.args.file_index first (c.arrays.shapes.items ++ x ∷ []) of next) (sym is) h in
    subst (λ (l : List Shape). IsReached fs c.args.file_index first l of next) (sym c.in_ok-push-in-Array.ensures.items) shaped
