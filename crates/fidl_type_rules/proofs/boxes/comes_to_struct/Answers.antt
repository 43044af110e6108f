use Rattle.std.proofs.Common.{◌≡◌, ◌∙◌, Option, ap, sym, subst}
use Rattle.std.specs.Prelude.{IfSome}
use Rattle.fidl_constraints.specs.Behind.{Core}
use Rattle.fidl_constraints.specs.BehindViews.{core_view, use_view}
use Rattle.fidl_constraints.specs.declared.gathering.Gathered.{Gathered}
use Rattle.fidl_constraints.specs.Gives.{IsGathered}
use Rattle.fidl_constraints.proofs.OneGathered.{one_gathered}
use Rattle.fidl_type_rules.proofs.boxes.comes_to_struct.Goals as goal

pub returns-in-Some : goal.returns-in-Some
returns-in-Some c =
    let fs = c.args.sources.now.named.now in
    let i = c.args.file_index in
    let t = use_view c.args.of in
    let g = c.in-Some.gathered in
    let its = subst (λ (o : Option Gathered). IfSome o (λ g. IsGathered fs i t (core_view g.core) g.parts.list.items)) c.in-Some.is c.in_ok-gather.ensures.found in (
      (λ yes. let s = c.is_struct_head.ensures.yes yes in record { core = core_view g.core; parts = g.parts.list.items; layout = s.0; gathered = its; is = s.1; of_struct = s.2 }),
      λ h.
          let same : h.core ≡ core_view g.core = (one_gathered fs i t h.core (core_view g.core) h.parts g.parts.list.items h.gathered its).0 in
          c.is_struct_head.ensures.no h.layout (sym (ap (λ (x : Core). x.head) same) ∙ h.is) h.of_struct,
    )
