use Rattle.std.proofs.Common.{◌≡◌, ◌<◌, ℕ, length, arith, ◌∙◌, ◌⊎◌, ◌++◌, ◌∷◌, [], List, Option, Some, inl, inr, refl, ap, sym, subst}
use Rattle.std.specs.Prelude.{IfSome, IsNone}
use Rattle.std.specs.List.{Contains}
use Rattle.fidl_tree.specs.Syntax.{TypeUse}
use Rattle.fidl_tree.specs.declared.file.File.{File}
use Rattle.fidl_named.specs.declared.place.DeclarationId.{DeclarationId}
use Rattle.fidl_constraints.specs.BehindViews.{use_view}
use Rattle.fidl_ir.specs.Terms.{term_view}
use Rattle.fidl_lower_types.specs.declared.node.Node.{Node as CodeNode}
use Rattle.fidl_lower_types.specs.declared.node.Shape.{Shape}
use Rattle.fidl_lower_types.specs.Terms.{Node, leaf, holds, NodeIs, TermIs}
use Rattle.fidl_lower_types.specs.TermViews.{node_view, made_of_all}
use Rattle.fidl_lower_types.proofs.Descending.{IsReached, reached_first, reached_leaf, reached_nothing, reached_next}
use Rattle.fidl_type_rules.specs.Made.{HasTerm}
use Rattle.fidl_type_rules.specs.Known.{IsNameOf, IsKnownAlias, AreKnownAliases}
use Rattle.fidl_type_rules.proofs.Held.{holds_term, known_held, learned}
use Rattle.fidl_type_rules.proofs.known.follow.Goals as goal

none_yet : {X Y : Type 0} (xs : List X) → xs ≡ [] → (x : X) → Contains xs x → Y
none_yet xs is x h = let long = subst (λ l. h.0 < length l) is h.1 in absurd (omega (arith, long))

-- one that was pushed is known, as are those before
either_known : (fs : List File) (at : ℕ) (t : TypeUse) (owner : Option DeclarationId) (p : DeclarationId) (of : ℕ) (next : TypeUse) (s : Shape) → NodeIs fs at t (holds of next s) → HasTerm fs of next → IfSome owner (IsNameOf fs at t) → {A : Type 0} → (A → IsKnownAlias fs p) → A ⊎ (owner ≡ Some p) → IsKnownAlias fs p
either_known fs at t owner p of next s node h name before (inl old) = before old
either_known fs at t owner p of next s node h name before (inr is) = learned fs at t p (subst (λ (o : Option DeclarationId). IfSome o (IsNameOf fs at t)) is name) of next s node h

pub elements-init : goal.elements-init
elements-init c = record {
  reached = ([], reached_first c.args.sources.now.named.now c.args.file_index (use_view c.args.of) c.requires.within);
  way = λ h p among. none_yet c.new-way.result.items c.new-way.ensures.items p among;
  known = c.requires.aliases;
}

pub returns-in-None-clause-no : goal.returns-in-None-clause-no
returns-in-None-clause-no c = λ h.
    let fs = c.args.sources.now.named.now in
    let at = c.elements.at in
    let t = use_view c.elements.current in
    let none = subst (λ (o : Option CodeNode). IsNone o → (n : Node) → NodeIs fs at t n → ⊥) c.in-None.is c.in_ok-node_of.ensures.none refl in
    let reached = c.elements.invariant.reached in
    absurd (reached_nothing fs c.args.file_index (use_view c.args.of) reached.0 at t reached.1 none h.0 h.1)

pub returns-in-Some-Leaf-clause-yes : goal.returns-in-Some-Leaf-clause-yes
returns-in-Some-Leaf-clause-yes c = λ _.
    let fs = c.args.sources.now.named.now in
    let at = c.elements.at in
    let t = use_view c.elements.current in
    let its = subst (λ (o : Option CodeNode). IfSome o (λ n. NodeIs fs at t (node_view n))) (c.in-Some-Leaf.is ∙ ap Some c.in-Some-Leaf.field-0-is) c.in_ok-node_of.ensures.found in
    let reached = c.elements.invariant.reached in
    (_, reached_leaf fs c.args.file_index (use_view c.args.of) reached.0 at t reached.1 (term_view c.in-Some-Leaf._last) its)

pub returns-in-Some-Leaf-clause-aliases : goal.returns-in-Some-Leaf-clause-aliases
returns-in-Some-Leaf-clause-aliases c =
    let fs = c.args.sources.now.named.now in
    let at = c.elements.at in
    let t = use_view c.elements.current in
    let its = subst (λ (o : Option CodeNode). IfSome o (λ n. NodeIs fs at t (node_view n))) (c.in-Some-Leaf.is ∙ ap Some c.in-Some-Leaf.field-0-is) c.in_ok-node_of.ensures.found in
    c.in_ok-learn-in-Some-Leaf.ensures fs c.elements.invariant.known
    (λ p among. c.elements.invariant.way (_, TermIs.alone at t (term_view c.in-Some-Leaf._last) its) p (subst (λ (l : List DeclarationId). Contains l p) c.deref.ensures.value among))

-- a name of a known alias has a term
known_term : (fs : List File) (at : ℕ) (t : TypeUse) (owner : Option DeclarationId) (known : List (ℕ × ℕ)) (of : ℕ) (next : TypeUse) (s : Shape) → NodeIs fs at t (holds of next s) → IfSome owner (IsNameOf fs at t) → AreKnownAliases fs known
    → (p : DeclarationId) × (owner ≡ Some p) × Contains known (p.file, p.index) → HasTerm fs at t
known_term fs at t owner known of next s node name all its =
    holds_term fs at t of next s node (known_held fs at t its.0 (subst (λ (o : Option DeclarationId). IfSome o (IsNameOf fs at t)) its.1 name) of next s node (all its.0 its.2))

pub returns-then-is_known-clause-yes : goal.returns-then-is_known-clause-yes
returns-then-is_known-clause-yes c = λ _.
    let fs = c.args.sources.now.named.now in
    let at = c.elements.at in
    let t = use_view c.elements.current in
    let its : NodeIs fs at t (holds c.in-Some-Elements.file_index (use_view c.in-Some-Elements.next) c.in-Some-Elements._shape) = subst (λ (o : Option CodeNode). IfSome o (λ n. NodeIs fs at t (node_view n))) (c.in-Some-Elements.is ∙ ap Some c.in-Some-Elements.field-0-is) c.in_ok-node_of.ensures.found in
    let h = known_term fs at t c.in_ok-owner.owner c.elements.known.keys c.in-Some-Elements.file_index (use_view c.in-Some-Elements.next) c.in-Some-Elements._shape its c.in_ok-owner.ensures c.elements.invariant.known (c.is_known.ensures c.if-is_known.true) in
    let reached = c.elements.invariant.reached in
    (_, reached.1.from h.0 h.1)

pub returns-then-is_known-clause-aliases : goal.returns-then-is_known-clause-aliases
returns-then-is_known-clause-aliases c =
    let fs = c.args.sources.now.named.now in
    let at = c.elements.at in
    let t = use_view c.elements.current in
    let its : NodeIs fs at t (holds c.in-Some-Elements.file_index (use_view c.in-Some-Elements.next) c.in-Some-Elements._shape) = subst (λ (o : Option CodeNode). IfSome o (λ n. NodeIs fs at t (node_view n))) (c.in-Some-Elements.is ∙ ap Some c.in-Some-Elements.field-0-is) c.in_ok-node_of.ensures.found in
    let h = known_term fs at t c.in_ok-owner.owner c.elements.known.keys c.in-Some-Elements.file_index (use_view c.in-Some-Elements.next) c.in-Some-Elements._shape its c.in_ok-owner.ensures c.elements.invariant.known (c.is_known.ensures c.if-is_known.true) in
    c.in_ok-learn-in-Some-Elements.ensures fs c.elements.invariant.known
    (λ p among. c.elements.invariant.way h p (subst (λ (l : List DeclarationId). Contains l p) c.deref-then-is_known.ensures.value among))

pub elements-preserved : goal.elements-preserved
elements-preserved c =
    let fs = c.args.sources.now.named.now in
    let at = c.elements.at in
    let t = use_view c.elements.current in
    let first = use_view c.args.of in
    let next = use_view c.in-Some-Elements.next in
    let of = c.in-Some-Elements.file_index in
    let s = c.in-Some-Elements._shape in
    let its : NodeIs fs at t (holds of next s) = subst (λ (o : Option CodeNode). IfSome o (λ n. NodeIs fs at t (node_view n))) (c.in-Some-Elements.is ∙ ap Some c.in-Some-Elements.field-0-is) c.in_ok-node_of.ensures.found in
    let reached = c.elements.invariant.reached in
    record {
      reached = (_, reached_next fs c.args.file_index first reached.0 at t reached.1 of next s its);
      way = λ h p among. either_known fs at t c.in_ok-owner.owner p of next s its h c.in_ok-owner.ensures (c.elements.invariant.way (holds_term fs at t of next s its h) p) (c.in_ok-push_owner-in-Some-Elements.ensures p among);
      known = c.elements.invariant.known;
    }
