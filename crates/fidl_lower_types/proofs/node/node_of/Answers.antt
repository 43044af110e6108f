use Rattle.std.proofs.Common.{List, Option, subst}
use Rattle.std.specs.Prelude.{IfSome, IsNone}
use Rattle.std.proofs.lemmas.Result.{IfOk-weaker}
use Rattle.fidl_constraints.specs.Behind.{Core}
use Rattle.fidl_constraints.specs.BehindViews.{core_view, use_view}
use Rattle.fidl_constraints.specs.declared.gathering.Gathered.{Gathered}
use Rattle.fidl_constraints.specs.declared.parts.Part.{Part}
use Rattle.fidl_constraints.specs.Gives.{IsGathered}
use Rattle.fidl_constraints.proofs.InSet.{head_within}
use Rattle.fidl_constraints.proofs.OneGathered.{one_gathered}
use Rattle.fidl_lower_types.specs.declared.node.Node.{Node as CodeNode}
use Rattle.fidl_lower_types.specs.Terms.{Node, HeadIs, NodeIs}
use Rattle.fidl_lower_types.proofs.node.node_of.Goals as goal

pub head_node-requires-clause-within : goal.head_node-requires-clause-within
head_node-requires-clause-within c =
    let fs = c.args.sources.now.named.now in
    let t = use_view c.args.of in
    let its = subst (λ (o : Option Gathered). IfSome o (λ g. IsGathered fs c.args.file_index t (core_view g.core) g.parts.list.items)) c.in-Some.is c.in_ok-found.ensures.found in
    head_within fs c.args.file_index t (core_view c.in-Some.gathered.core) c.requires.within its.behind

pub returns-clause-none : goal.returns-clause-none
returns-clause-none c =
    let fs = c.args.sources.now.named.now in
    let t = use_view c.args.of in
    let g = c.in-Some.gathered in
    let core = core_view g.core in
    let ps = g.parts.list.items in
    let its = subst (λ (o : Option Gathered). IfSome o (λ g. IsGathered fs c.args.file_index t (core_view g.core) g.parts.list.items)) c.in-Some.is c.in_ok-found.ensures.found in
    IfOk-weaker c.head_node.result (λ (o : Option CodeNode). IsNone o → (n : Node) → HeadIs fs core.file ps core.head n → ⊥) (λ (o : Option CodeNode). IsNone o → (n : Node) → NodeIs fs c.args.file_index t n → ⊥)
    (λ o none empty n h.
    let both = one_gathered fs c.args.file_index t h.core core h.parts ps h.gathered its in
    let cored : HeadIs fs core.file h.parts core.head n = subst (λ (x : Core). HeadIs fs x.file h.parts x.head n) both.0 h.is in
    none empty n (subst (λ (l : List Part). HeadIs fs core.file l core.head n) both.1 cored))
    c.head_node.ensures.none
