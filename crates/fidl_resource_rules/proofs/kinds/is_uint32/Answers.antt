use Rattle.std.proofs.Common.{Option, subst}
use Rattle.std.specs.Prelude.{IfSome}
use Rattle.fidl_constraints.specs.BehindViews.{use_view}
use Rattle.fidl_wire.specs.Term as ty
use Rattle.fidl_ir.specs.declared.term.«Type».{«Type»}
use Rattle.fidl_ir.specs.Terms.{term_view}
use Rattle.fidl_lower_types.specs.Terms.{TermIs}
use Rattle.fidl_lower_types.proofs.OneTerm.{one_term}
use Rattle.fidl_resource_rules.proofs.kinds.is_uint32.Goals as goal

pub returns-in-Some : goal.returns-in-Some
returns-in-Some c =
    let fs = c.args.sources.now.named.now in
    let i = c.args.file_index in
    let t = use_view c.args.of in
    let e = c.in-Some.term in
    let its : TermIs fs i t (term_view e) = subst (λ (o : Option «Type»). IfSome o (λ x. TermIs fs i t (term_view x))) c.in-Some.is c.in_ok-term_of.ensures.found in
    ((λ yes. subst (TermIs fs i t) (c.is_uint32_term.ensures.0 yes) its), λ h. c.is_uint32_term.ensures.1 (one_term fs i t (term_view e) (ty.number ty.uint32) its h))
