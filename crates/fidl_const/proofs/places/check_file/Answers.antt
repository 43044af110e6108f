use Rattle.std.proofs.Common.{◌≡◌, List, get_or, ap, sym, subst, ◌∙◌, arith}
use Rattle.std.specs.List.{Contains}
use Rattle.std.proofs.lemmas.List.Elements.{Contains-get_or}
use Rattle.std.proofs.lemmas.Result.{err_from_is_err_and}
use Rattle.fidl_tree.specs.declared.declaration.Declaration.{Declaration}
use Rattle.fidl_tree.specs.Views.{declared_view}
use Rattle.fidl_consts.specs.Places.{DeclarationFails}
use Rattle.fidl_const.specs.Evaluating.{Fails}
use Rattle.fidl_consts.proofs.Reports.{reports_more}
use Rattle.fidl_const.proofs.places.check_file.Goals as goal

pub returns-in_err-check_declaration-clause-fault_is_true : goal.returns-in_err-check_declaration-clause-fault_is_true
returns-in_err-check_declaration-clause-fault_is_true c =
    let files = c.args.scope.now.file.named.now in
    let f = c.args.scope.now.file.tree.now in
    let ds = f.declarations.items in
    let i = c.loop-declaration.declaration-index in
    let d = c.declaration-item.result in
    let lt = c.loop-declaration-test.true in
    let is : d ≡ get_or ds i d = c.declaration-item.is ∙ ap (λ (l : List Declaration). get_or l i d) c.deref-declaration-items.ensures.value in
    let there : Contains ds d = subst (Contains ds) (sym is) (Contains-get_or ds i d (omega (arith, c.deref-declaration-items.ensures.len))) in
    let h = reports_more (DeclarationFails files f c.args.scope.now.file.file_index (declared_view d.body)) (Fails files) (λ fault k. Fails.of_place c.args.scope.now.file.file_index f d c.args.scope.now.file.in_set there k) c.in_err-check_declaration.field-0.0 c.in_err-check_declaration.ensures.fault_is_true in
    let p = err_from_is_err_and c.from_residual.result c.from_residual.ensures.1 in
    rw (p.1, p.2) h
