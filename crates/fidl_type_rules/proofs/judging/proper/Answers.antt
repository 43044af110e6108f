use Rattle.std.proofs.Common.{◌≡◌, ◌∙◌, ℕ, true, true≢false, List, Option, refl, sym, subst}
use Rattle.std.specs.Prelude.{IfSome, IsNone}
use Rattle.fidl_tree.specs.Syntax.{TypeUse}
use Rattle.fidl_tree.specs.declared.file.File.{File}
use Rattle.fidl_constraints.specs.Behind.{Core}
use Rattle.fidl_constraints.proofs.InSet.{head_within}
use Rattle.fidl_constraints.specs.BehindViews.{core_view, head_view, use_view}
use Rattle.fidl_constraints.specs.declared.gathering.Gathered.{Gathered}
use Rattle.fidl_constraints.specs.declared.parts.Part.{Part}
use Rattle.fidl_constraints.specs.Gives.{IsGathered}
use Rattle.fidl_constraints.proofs.OneGathered.{one_gathered}
use Rattle.fidl_declarations.specs.SiteViews.{role_view}
use Rattle.fidl_lower_types.specs.declared.node.Node.{Node as CodeNode}
use Rattle.fidl_wire.specs.Term.{Term}
use Rattle.fidl_lower_types.specs.Terms.{Node, leaf, holds, HeadIs, NodeIs, TermIs}
use Rattle.fidl_type_rules.specs.Made.{HasTerm}
use Rattle.fidl_type_rules.proofs.Held.{held_within}
use Rattle.fidl_lower_types.specs.TermViews.{node_view}
use Rattle.fidl_type_rules.specs.Places.{role_suits}
use Rattle.fidl_type_rules.proofs.judging.proper.Goals as goal

pub head_node-requires-clause-within : goal.head_node-requires-clause-within
head_node-requires-clause-within c =
    let fs = c.args.sources.now.named.now in
    let i = c.args.used.file_index in
    let t = use_view c.args.used.of in
    let its = subst (λ (o : Option Gathered). IfSome o (λ g. IsGathered fs i t (core_view g.core) g.parts.list.items)) c.in-Some.is c.in_ok-found.ensures.found in
    head_within fs i t (core_view c.in-Some.gathered.core) c.requires.within its.behind

-- a type that has a term is something at once
headed : (fs : List File) (i : ℕ) (t : TypeUse) (core : Core) (ps : List Part) → IsGathered fs i t core ps → HasTerm fs i t → (n : Node) × HeadIs fs core.file ps core.head n
headed fs i t core ps its h = by_term h.0 h.1
  where
    by_node : (n : Node) → NodeIs fs i t n → (m : Node) × HeadIs fs core.file ps core.head m
    by_node n node =
        let both = one_gathered fs i t node.core core node.parts ps node.gathered its in
        let cored : HeadIs fs core.file node.parts core.head n = subst (λ (x : Core). HeadIs fs x.file node.parts x.head n) both.0 node.is in
        (n, subst (λ (l : List Part). HeadIs fs core.file l core.head n) both.1 cored)

    by_term : (e : Term) → TermIs fs i t e → (m : Node) × HeadIs fs core.file ps core.head m
    by_term _ (TermIs.alone _ _ e node) = by_node (leaf e) node
    by_term _ (TermIs.of_elements _ _ of u s e node rest) = by_node (holds of u s) node

pub returns-in_default-2-clause-none : goal.returns-in_default-2-clause-none
returns-in_default-2-clause-none c = λ _ core parts h.
    let fs = c.args.sources.now.named.now in
    let i = c.args.used.file_index in
    let t = use_view c.args.used.of in
    let g = c.in-Some.gathered in
    let its = subst (λ (o : Option Gathered). IfSome o (λ g. IsGathered fs i t (core_view g.core) g.parts.list.items)) c.in-Some.is c.in_ok-found.ensures.found in
    let none = subst (λ (o : Option CodeNode). IsNone o → (n : Node) → HeadIs fs g.core.file_index g.parts.list.items (head_view g.core.head) n → ⊥) c.in_default-2.is c.in_ok-node.ensures.none refl in
    let n = headed fs i t (core_view g.core) g.parts.list.items its (h.term, h.term_is) in
    none n.0 n.1

pub node_has_term-requires-clause-within : goal.node_has_term-requires-clause-within
node_has_term-requires-clause-within c = λ number u s is.
    let fs = c.args.sources.now.named.now in
    let i = c.args.used.file_index in
    let t = use_view c.args.used.of in
    let g = c.in-Some.gathered in
    let its = subst (λ (o : Option Gathered). IfSome o (λ g. IsGathered fs i t (core_view g.core) g.parts.list.items)) c.in-Some.is c.in_ok-found.ensures.found in
    let head = subst (λ (o : Option CodeNode). IfSome o (λ n. HeadIs fs g.core.file_index g.parts.list.items (head_view g.core.head) (node_view n))) c.in-Some-2.is c.in_ok-node.ensures.found in
    let node : NodeIs fs i t (node_view c.in-Some-2.node) = record { core = core_view g.core; parts = g.parts.list.items; gathered = its; is = head } in
    held_within fs i t number u s (subst (NodeIs fs i t) is node) c.requires.within

pub returns-then-not-branch-2-clause-none : goal.returns-then-not-branch-2-clause-none
returns-then-not-branch-2-clause-none c = λ _ core parts h.
    let fs = c.args.sources.now.named.now in
    let i = c.args.used.file_index in
    let t = use_view c.args.used.of in
    let g = c.in-Some.gathered in
    let its = subst (λ (o : Option Gathered). IfSome o (λ g. IsGathered fs i t (core_view g.core) g.parts.list.items)) c.in-Some.is c.in_ok-found.ensures.found in
    let head = subst (λ (o : Option CodeNode). IfSome o (λ n. HeadIs fs g.core.file_index g.parts.list.items (head_view g.core.head) (node_view n))) c.in-Some-2.is c.in_ok-node.ensures.found in
    let node : NodeIs fs i t (node_view c.in-Some-2.node) = record { core = core_view g.core; parts = g.parts.list.items; gathered = its; is = head } in
    true≢false (sym (c.in_ok-node_has_term.ensures.no i t node (h.term, h.term_is)) ∙ c.if-not-branch-2.true)

pub returns-then-not-role_suits-clause-none : goal.returns-then-not-role_suits-clause-none
returns-then-not-role_suits-clause-none c = λ _ core parts h.
    let fs = c.args.sources.now.named.now in
    let i = c.args.used.file_index in
    let role = role_view c.args.used.role in
    let t = use_view c.args.used.of in
    let g = c.in-Some.gathered in
    let its = subst (λ (o : Option Gathered). IfSome o (λ g. IsGathered fs i t (core_view g.core) g.parts.list.items)) c.in-Some.is c.in_ok-found.ensures.found in
    let same = one_gathered fs i t core (core_view g.core) parts g.parts.list.items h.gathered its in
    let cored = subst (λ (x : Core). role_suits role t x.head parts ≡ true) same.0 h.place in
    let there = subst (λ (ps : List Part). role_suits role t (core_view g.core).head ps ≡ true) same.1 cored in
    true≢false (sym (c.role_suits.ensures ∙ there) ∙ c.if-not-role_suits.true)

pub returns-then-not-branch-clause-none : goal.returns-then-not-branch-clause-none
returns-then-not-branch-clause-none c = λ _ core parts h. true≢false (sym (c.in_ok-arguments_suit.ensures.1 h.arguments) ∙ c.if-not-branch.true)

pub returns-clause-found : goal.returns-clause-found
returns-clause-found c =
    let fs = c.args.sources.now.named.now in
    let i = c.args.used.file_index in
    let t = use_view c.args.used.of in
    let its = subst (λ (o : Option Gathered). IfSome o (λ g. IsGathered fs i t (core_view g.core) g.parts.list.items)) c.in-Some.is c.in_ok-found.ensures.found in
    let g = c.in-Some.gathered in
    let head = subst (λ (o : Option CodeNode). IfSome o (λ n. HeadIs fs g.core.file_index g.parts.list.items (head_view g.core.head) (node_view n))) c.in-Some-2.is c.in_ok-node.ensures.found in
    let node : NodeIs fs i t (node_view c.in-Some-2.node) = record { core = core_view g.core; parts = g.parts.list.items; gathered = its; is = head } in
    let term = c.in_ok-node_has_term.ensures.yes c.if-not-branch-2.false i t node in
    record {
      term = term.0;
      gathered = its;
      term_is = term.1;
      arguments = c.in_ok-arguments_suit.ensures.0 c.if-not-branch.false;
      place = sym c.role_suits.ensures ∙ c.if-not-role_suits.false;
    }
