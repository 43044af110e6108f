use Rattle.std.proofs.Common.{◌<◌, ◌^◌, Option, refl, sym, subst, ◌∙◌}
use Rattle.std.specs.Prelude.{IfSome}
use Rattle.fidl_tree.specs.Syntax.{TypeUse}
use Rattle.fidl_tree.specs.Views.{type_view}
use Rattle.fidl_constraints.specs.BehindViews.{use_view}
use Rattle.fidl_ir.specs.declared.term.«Type».{«Type»}
use Rattle.fidl_ir.specs.Terms.{term_view}
use Rattle.fidl_lower_types.specs.Terms.{TermIs}
use Rattle.fidl_lower_layouts.proofs.Numbered.{low_ordinal, row_is}
use Rattle.fidl_lower_layouts.proofs.members.row_of.Goals as goal

pub returns-in_default-clause-none : goal.returns-in_default-clause-none
returns-in_default-clause-none c = λ _ attributes n text e h.
    c.in_default.ensures.none refl (low_ordinal c.args.scope.sources.now.named.now c.args.scope.file_index c.args.scope.file.now attributes c.args.ordinal c.args.name (type_view c.args.constructor.now) n text e h)

pub returns-in_ok-a_row-in-Some-2-clause-found : goal.returns-in_ok-a_row-in-Some-2-clause-found
returns-in_ok-a_row-in-Some-2-clause-found c = λ attributes.
    let files = c.args.scope.sources.now.named.now in
    let n = c.args.scope.file_index in
    let x = c.in_ok-a_row-in-Some-2.field-0 in
    let made = c.in_ok-a_row-in-Some-2.ensures in
    let ordinal = c.in-Some.ensures.found in
    let its = subst (λ (o : Option «Type»). IfSome o (λ t. TermIs files n (use_view c.use_of.result) (term_view t))) c.in-Some-2.is c.in_ok-term_of.ensures.found in
    let seen = subst (λ (t : TypeUse). TermIs files n t (term_view c.in-Some-2.of)) c.use_of.ensures its in
    row_is files n c.args.scope.file.now attributes c.args.ordinal c.args.name (type_view c.args.constructor.now) x.ordinal x.name.items (term_view x.of)
    (made.ordinal ∙ ordinal.0) (subst (λ k. k < 2 ^ 32) (sym made.ordinal) ordinal.1) made.name
    (subst (TermIs files n (type_view c.args.constructor.now)) (sym made.of) seen)
