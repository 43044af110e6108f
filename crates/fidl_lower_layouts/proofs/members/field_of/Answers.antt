use Rattle.std.proofs.Common.{Option, sym, subst}
use Rattle.std.specs.Prelude.{IfSome}
use Rattle.fidl_tree.specs.Syntax.{TypeUse}
use Rattle.fidl_constraints.specs.BehindViews.{use_view}
use Rattle.fidl_ir.specs.declared.term.«Type».{«Type»}
use Rattle.fidl_ir.specs.Terms.{term_view}
use Rattle.fidl_lower_types.specs.Terms.{TermIs}
use Rattle.fidl_lower_layouts.proofs.Making.{field_is}
use Rattle.fidl_lower_layouts.proofs.members.field_of.Goals as goal

pub returns-in_ok-a_field-in-Some-clause-found : goal.returns-in_ok-a_field-in-Some-clause-found
returns-in_ok-a_field-in-Some-clause-found c =
    let files = c.args.scope.sources.now.named.now in
    let n = c.args.scope.file_index in
    let x = c.in_ok-a_field-in-Some.field-0 in
    let its = subst (λ (o : Option «Type»). IfSome o (λ t. TermIs files n (use_view c.use_of.result) (term_view t))) c.in-Some.is c.in_ok-term_of.ensures.found in
    let seen = subst (λ (t : TypeUse). TermIs files n t (term_view c.in-Some.of)) c.use_of.ensures its in
    field_is files n c.args.scope.file.now c.args.member.now x.name.items (term_view x.of) c.in_ok-a_field-in-Some.ensures.name
    (subst (TermIs files n _) (sym c.in_ok-a_field-in-Some.ensures.of) seen)
