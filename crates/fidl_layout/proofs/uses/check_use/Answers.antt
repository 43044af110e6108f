use Rattle.std.proofs.Common.{Option, subst}
use Rattle.std.specs.Prelude.{IfSome}
use Rattle.fidl_constraints.specs.BehindViews.{use_view}
use Rattle.fidl_ir.specs.declared.term.«Type».{«Type» as CodeType}
use Rattle.fidl_ir.specs.Terms.{term_view}
use Rattle.fidl_lower_types.specs.Terms.{TermIs}
use Rattle.fidl_lower_types.proofs.OneTerm.{one_term}
use Rattle.fidl_type_shape.specs.Limits.{TypeFits}
use Rattle.fidl_type_shape.specs.Found.{figures_of, declarations_of}
use Rattle.fidl_layout.specs.Shallow.{UseFitsAtFirst}
use Rattle.fidl_layout.proofs.uses.check_use.Goals as goal

pub returns-in-Ok-clause-ok : goal.returns-in-Ok-clause-ok
returns-in-Ok-clause-ok c = UseFitsAtFirst.whole (λ term is.
    let files = c.args.sources.now.named.now in
    let t = use_view c.args.of in
    let found = subst (λ (o : Option CodeType). IfSome o (λ u. TermIs files c.args.file_index t (term_view u))) c.in-Some.is c.in_ok-term.ensures.found in
    let same = one_term files c.args.file_index t (term_view c.in-Some.term) term found is in
    subst (TypeFits (figures_of c.args.figures.now)) same c.in-Ok.ensures.ok)

pub returns-clause-fault_is_true : goal.returns-clause-fault_is_true
returns-clause-fault_is_true c =
    let files = c.args.sources.now.named.now in
    let t = use_view c.args.of in
    let figures = c.requires.figures in
    c.exceeded.ensures files (record {
      declarations = declarations_of figures.definitions c.args.figures.now;
      definitions = figures.checked.definitions;
      laid_out = figures.laid_out;
      written = t;
      is = c.requires.written;
      reported = c.type_span.ensures;
      term = term_view c.in-Some.term;
      term_is = subst (λ (o : Option CodeType). IfSome o (λ u. TermIs files c.args.file_index t (term_view u))) c.in-Some.is c.in_ok-term.ensures.found;
      exceeds = c.in-Err.ensures.fault_is_true;
    })

pub returns-then-branch-clause-ok : goal.returns-then-branch-clause-ok
returns-then-branch-clause-ok c = c.in_ok-fits_at_first.ensures.ok c.if-branch.true
