use Rattle.std.proofs.Common.{sym, subst}
use Rattle.std.proofs.lemmas.Result.{IfOk-weaker}
use Rattle.fidl_tree.specs.declared.declaration.DeclarationBody.{DeclarationBody}
use Rattle.fidl_tree.specs.declared.declaration.DeclarationBody.TheVariants.{Const}
use Rattle.fidl_consts.specs.Dependencies.{BodyUses, TypeUses}
use Rattle.fidl_const.specs.Columns.{AreNames, name_uses_view}
use Rattle.fidl_const.proofs.NameUses.{const_names, alias_names}
use Rattle.fidl_const.proofs.graph.body_uses.Goals as goal

pub returns-in_ok-push_value-in-Const : goal.returns-in_ok-push_value-in-Const
returns-in_ok-push_value-in-Const c =
    let fs = c.args.file.now.named.now in
    let f = c.args.file.now.tree.now in
    let d = c.in-Const.constant in
    let us = name_uses_view c.in_ok-uses-in-Const.uses.items in
    subst (λ (b : DeclarationBody). AreNames (BodyUses fs f b) (name_uses_view c.push_value.new.uses.items)) (sym c.in-Const.is)
    (subst (AreNames (BodyUses fs f (Const d))) (sym c.in_ok-push_value-in-Const.ensures) (const_names fs f d us c.in_ok-uses-in-Const.ensures))

pub returns-in-Alias : goal.returns-in-Alias
returns-in-Alias c =
    let fs = c.args.file.now.named.now in
    let f = c.args.file.now.tree.now in
    let a = c.in-Alias.alias in
    IfOk-weaker c.type_uses-in-Alias.result (λ uses. AreNames (TypeUses fs f a.constructor) (name_uses_view uses.items)) (λ uses. AreNames (BodyUses fs f c.args.body.now) (name_uses_view uses.items))
    (λ uses names. subst (λ (b : DeclarationBody). AreNames (BodyUses fs f b) (name_uses_view uses.items)) (sym c.in-Alias.is) (alias_names fs f a (name_uses_view uses.items) names)) c.type_uses-in-Alias.ensures
