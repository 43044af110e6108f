use Rattle.std.proofs.Common.{◌≡◌, ap, sym, subst}
use Rattle.std.specs.Prelude.{option_copied}
use Rattle.fidl_tree.specs.Syntax.{TypeUse, Layout, layout_type}
use Rattle.fidl_tree.specs.Views.{layout_view, body_view, constraints_view}
use Rattle.fidl_constraints.specs.Behind.{ends, layout_head, RefersTo}
use Rattle.fidl_constraints.specs.BehindViews.{use_view}
use Rattle.fidl_constraints.proofs.targets.refers_to.Goals as goal

pub returns-in-Written-clause-found : goal.returns-in-Written-clause-found
returns-in-Written-clause-found c =
    let fs = c.args.named.now in
    let i = c.args.file_index in
    let l = layout_view c.in-Written.layout.now in
    let t : TypeUse = layout_type l.0 l.1 (constraints_view (option_copied c.in-Written.constraints)) in
    let seen : use_view c.args.of ≡ t = ap use_view c.in-Written.is in
    let h : RefersTo fs i t (ends i (layout_head l.1)) = RefersTo.by_layout l.0 l.1 (constraints_view (option_copied c.in-Written.constraints)) in
    subst (λ (u : TypeUse). RefersTo fs i u (ends i (layout_head (body_view c.body_of.result.now)))) (sym seen) (subst (λ (x : Layout). RefersTo fs i t (ends i (layout_head x))) (sym c.body_of.ensures) h)
