use Rattle.std.proofs.Common.{Option, subst}
use Rattle.std.specs.Prelude.{IfSome}
use Rattle.fidl_constraints.specs.BehindViews.{use_view}
use Rattle.fidl_ir.specs.declared.term.«Type».{«Type» as CodeType}
use Rattle.fidl_ir.specs.Terms.{term_view}
use Rattle.fidl_layout.specs.Shallow.{IsShallow, UseFitsAtFirst}
use Rattle.fidl_layout.proofs.uses.fits_at_first.Goals as goal

pub returns-in-Ok-clause-ok : goal.returns-in-Ok-clause-ok
returns-in-Ok-clause-ok c = λ _.
    let its = subst (λ (o : Option CodeType). IfSome o (λ t. IsShallow c.args.sources.now.named.now c.args.file_index (use_view c.args.of) (term_view t))) c.in-Some.is c.in_ok-shallow_term.ensures in
    UseFitsAtFirst.first (term_view c.in-Some.term) its c.in-Ok.ensures.ok
