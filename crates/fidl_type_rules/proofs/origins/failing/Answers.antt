use Rattle.std.proofs.Common.{Option, refl, subst}
use Rattle.std.specs.Prelude.{IsNone}
use Rattle.fidl_constraints.specs.BehindViews.{use_view}
use Rattle.fidl_type_rules.specs.declared.used.Used.{Used}
use Rattle.fidl_type_rules.specs.Made.{HasTerm}
use Rattle.fidl_type_rules.proofs.Stood.{termless}
use Rattle.fidl_type_rules.proofs.origins.failing.Goals as goal

pub returns-in-None-clause-improper : goal.returns-in-None-clause-improper
returns-in-None-clause-improper c =
    let fs = c.args.sources.now.named.now in
    let used = c.elements.current in
    termless fs used (subst (λ (o : Option (Option Used)). IsNone o → HasTerm fs used.file_index (use_view used.of) → ⊥) c.in-None.is c.in_ok-element_of.ensures.nothing refl)
