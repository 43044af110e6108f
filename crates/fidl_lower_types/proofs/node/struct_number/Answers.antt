use Rattle.std.proofs.Common.{◌≡◌, ◌∙◌, Option, false, ap, refl, sym, subst}
use Rattle.std.specs.Prelude.{IfSome}
use Rattle.fidl_tree.specs.Syntax.{Layout}
use Rattle.fidl_tree.specs.Views.{body_view}
use Rattle.fidl_constraints.specs.Behind.{Core, layout_head}
use Rattle.fidl_constraints.specs.BehindViews.{core_view, head_view, use_view}
use Rattle.fidl_constraints.specs.declared.gathering.Gathered.{Gathered}
use Rattle.fidl_constraints.specs.Gives.{IsGathered}
use Rattle.fidl_constraints.proofs.OneGathered.{one_gathered}
use Rattle.fidl_lower_types.specs.Numbers.{IsNumber}
use Rattle.fidl_lower_types.proofs.node.struct_number.Goals as goal

pub returns-in_default-struct_body-clause-none : goal.returns-in_default-struct_body-clause-none
returns-in_default-struct_body-clause-none c = λ _ i h.
    let fs = c.args.sources.now.named.now in
    let t = use_view c.args.of in
    let g = c.in-Some.gathered in
    let its = subst (λ (o : Option Gathered). IfSome o (λ g. IsGathered fs c.args.file_index t (core_view g.core) g.parts.list.items)) c.in-Some.is c.in_ok-found.ensures.found in
    let same : h.core ≡ core_view g.core = (one_gathered fs c.args.file_index t h.core (core_view g.core) h.parts g.parts.list.items h.gathered its).0 in
    let head : head_view g.core.head ≡ layout_head h.layout = sym (ap (λ (x : Core). x.head) same) ∙ h.is in
    c.in_default-struct_body.ensures.none refl h.layout head h.of_struct

pub returns-clause-none : goal.returns-clause-none
returns-clause-none c = λ empty i h.
    let fs = c.args.sources.now.named.now in
    let t = use_view c.args.of in
    let g = c.in-Some.gathered in
    let l = body_view c.in-Some-struct_body.body.now in
    let its = subst (λ (o : Option Gathered). IfSome o (λ g. IsGathered fs c.args.file_index t (core_view g.core) g.parts.list.items)) c.in-Some.is c.in_ok-found.ensures.found in
    let same : h.core ≡ core_view g.core = (one_gathered fs c.args.file_index t h.core (core_view g.core) h.parts g.parts.list.items h.gathered its).0 in
    let heads : layout_head h.layout ≡ layout_head l = sym h.is ∙ (ap (λ (x : Core). x.head) same ∙ c.in-Some-struct_body.ensures.found.0) in
    let layouts : h.layout ≡ l = cc in
    let there : IsNumber fs g.core.file_index false h.layout i = subst (λ (x : Core). IsNumber fs x.file false h.layout i) same h.number_is in
    c.layout_number.ensures.none empty i (subst (λ (x : Layout). IsNumber fs g.core.file_index false x i) layouts there)
