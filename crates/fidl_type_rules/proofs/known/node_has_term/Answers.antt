use Rattle.std.proofs.Common.{◌≡◌, ◌∙◌, ℕ, Bool, List, Result, ap, refl, sym, subst}
use Rattle.std.specs.Prelude.{IfOk, OnOk, IsTrue}
use Rattle.std.proofs.lemmas.Result.{IfOk-weaker}
use Rattle.std.specs.declared.alloc.AllocError.{AllocError}
use Rattle.fidl_tree.specs.Syntax.{TypeUse}
use Rattle.fidl_constraints.specs.BehindViews.{use_view}
use Rattle.fidl_ir.specs.Terms.{term_view}
use Rattle.fidl_lower_types.specs.declared.node.Node.{Node as CodeNode}
use Rattle.fidl_lower_types.specs.Terms.{Node, leaf, holds, NodeIs, TermIs}
use Rattle.fidl_lower_types.specs.TermViews.{node_view}
use Rattle.fidl_type_rules.specs.Made.{HasTerm}
use Rattle.fidl_type_rules.specs.Known.{AreKnownAliases}
use Rattle.fidl_type_rules.proofs.Held.{holds_term, held_term}
use Rattle.fidl_type_rules.proofs.known.node_has_term.Goals as goal

pub follow-requires-clause-within : goal.follow-requires-clause-within
follow-requires-clause-within c = c.requires.within c.in-Elements.file_index (use_view c.in-Elements.next) c.in-Elements._shape (ap node_view c.in-Elements.is)

pub returns-in-Leaf-clause-yes : goal.returns-in-Leaf-clause-yes
returns-in-Leaf-clause-yes c = λ _ n t k.
    let fs = c.args.sources.now.named.now in
    (term_view c.in-Leaf._last, TermIs.alone n t (term_view c.in-Leaf._last) (subst (λ (x : CodeNode). NodeIs fs n t (node_view x)) c.in-Leaf.is k))

pub returns-in-Elements-clause-yes : goal.returns-in-Elements-clause-yes
returns-in-Elements-clause-yes c =
    let fs = c.args.sources.now.named.now in
    let of = c.in-Elements.file_index in
    let next = use_view c.in-Elements.next in
    IfOk-weaker c.follow.result (λ b. IsTrue b → HasTerm fs of next) (λ b. IsTrue b → (number : ℕ) (t : TypeUse) → NodeIs fs number t (node_view c.args.node) → HasTerm fs number t)
    (λ b h yes n t k. holds_term fs n t of next c.in-Elements._shape (subst (λ (x : CodeNode). NodeIs fs n t (node_view x)) c.in-Elements.is k) (h yes)) c.follow.ensures.yes

pub returns-in-Elements-clause-no : goal.returns-in-Elements-clause-no
returns-in-Elements-clause-no c =
    let fs = c.args.sources.now.named.now in
    let of = c.in-Elements.file_index in
    let next = use_view c.in-Elements.next in
    IfOk-weaker c.follow.result (λ b. HasTerm fs of next → IsTrue b) (λ b. (number : ℕ) (t : TypeUse) → NodeIs fs number t (node_view c.args.node) → HasTerm fs number t → IsTrue b)
    (λ b h n t k has. h (held_term fs n t of next c.in-Elements._shape (subst (λ (x : CodeNode). NodeIs fs n t (node_view x)) c.in-Elements.is k) has)) c.follow.ensures.no
