use Rattle.std.proofs.Common.{List, Option, refl, sym, subst}
use Rattle.std.specs.Prelude.{IfSome, IsNone}
use Rattle.fidl_constraints.specs.Behind.{Core}
use Rattle.fidl_constraints.specs.BehindViews.{core_view, use_view}
use Rattle.fidl_constraints.specs.declared.gathering.Gathered.{Gathered}
use Rattle.fidl_constraints.specs.declared.parts.Part.{Part}
use Rattle.fidl_declarations.specs.SiteViews.{role_view}
use Rattle.fidl_type_rules.specs.Uses.{IsProper, member_rule}
use Rattle.fidl_type_rules.proofs.Stood.{breaks_there}
use Rattle.fidl_type_rules.proofs.judging.check_use.Goals as goal

pub fault_of-requires-clause-improper : goal.fault_of-requires-clause-improper
fault_of-requires-clause-improper c =
    let fs = c.args.sources.now.named.now in
    let used = c.args.used in
    subst (λ (o : Option Gathered). IsNone o → (core : Core) (parts : List Part) → IsProper fs used.file_index (role_view used.role) (use_view used.of) core parts → ⊥) c.in_default.is c.in_ok-gathered.ensures.none refl

pub returns-then-not-presence_suits-clause-fault_is_true : goal.returns-then-not-presence_suits-clause-fault_is_true
returns-then-not-presence_suits-clause-fault_is_true c =
    let fs = c.args.sources.now.named.now in
    let used = c.args.used in
    let g = c.in-Some.gathered in
    let its = subst (λ (o : Option Gathered). IfSome o (λ g. IsProper fs used.file_index (role_view used.role) (use_view used.of) (core_view g.core) g.parts.list.items)) c.in-Some.is c.in_ok-gathered.ensures.found in
    breaks_there fs used c.requires.stands member_rule c.type_span.result (
      record { core = core_view g.core; parts = g.parts.list.items; gathered = its.gathered; absent = sym c.if-not-presence_suits.ensures },
      c.type_span.ensures,
    )
