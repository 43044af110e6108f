use Rattle.std.proofs.Common.{◌≡◌, ◌<◌, ◌∙◌, ℕ, length, List, Option, Some, refl, ap, sym, subst}
use Rattle.std.specs.Prelude.{IfSome, IsNone}
use Rattle.fidl_constraints.specs.BehindViews.{use_view}
use Rattle.fidl_declarations.specs.Sites.{any_type, type_site}
use Rattle.fidl_declarations.specs.SiteViews.{role_view}
use Rattle.fidl_lower_types.specs.declared.node.Node.{Node as CodeNode}
use Rattle.fidl_lower_types.specs.Terms.{Node, holds, NodeIs}
use Rattle.fidl_lower_types.specs.TermViews.{node_view}
use Rattle.fidl_type_rules.proofs.Held.{held_stands, held_within, nothing_termless}
use Rattle.fidl_type_rules.proofs.origins.element_of.Goals as goal

pub returns-in-Some-Elements-clause-within : goal.returns-in-Some-Elements-clause-within
returns-in-Some-Elements-clause-within c =
    let fs = c.args.sources.now.named.now in
    let at = c.args.used.file_index in
    let t = use_view c.args.used.of in
    let of = c.in-Some-Elements.file_index in
    let next = use_view c.in-Some-Elements.next in
    let its : NodeIs fs at t (holds of next c.in-Some-Elements._shape) = subst (λ (o : Option CodeNode). IfSome o (λ n. NodeIs fs at t (node_view n))) (c.in-Some-Elements.is ∙ ap Some c.in-Some-Elements.field-0-is) c.in_ok-node_of.ensures.found in
    held_within fs at t of next c.in-Some-Elements._shape its c.requires.within

pub returns-in-Some-Elements-clause-stands : goal.returns-in-Some-Elements-clause-stands
returns-in-Some-Elements-clause-stands c =
    let fs = c.args.sources.now.named.now in
    let at = c.args.used.file_index in
    let t = use_view c.args.used.of in
    let of = c.in-Some-Elements.file_index in
    let next = use_view c.in-Some-Elements.next in
    let its : NodeIs fs at t (holds of next c.in-Some-Elements._shape) = subst (λ (o : Option CodeNode). IfSome o (λ n. NodeIs fs at t (node_view n))) (c.in-Some-Elements.is ∙ ap Some c.in-Some-Elements.field-0-is) c.in_ok-node_of.ensures.found in
    record { at = held_stands fs at t of next c.in-Some-Elements._shape its (role_view c.args.used.role) c.requires.stands.at; wanted = tt }

pub returns-in-None-clause-nothing : goal.returns-in-None-clause-nothing
returns-in-None-clause-nothing c = λ _.
    let fs = c.args.sources.now.named.now in
    let at = c.args.used.file_index in
    let t = use_view c.args.used.of in
    let none = subst (λ (o : Option CodeNode). IsNone o → (n : Node) → NodeIs fs at t n → ⊥) c.in-None.is c.in_ok-node_of.ensures.none refl in
    nothing_termless fs at t none
