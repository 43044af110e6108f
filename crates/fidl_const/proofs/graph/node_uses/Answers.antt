use Rattle.std.proofs.Common.{◌≡◌, ◌++◌, Some, ap, refl, sym, subst, ◌∙◌}
use Rattle.std.specs.Prelude.{slice_get}
use Rattle.std.proofs.lemmas.Result.{IfOk-weaker}
use Rattle.fidl_tree.specs.declared.file.File.{File}
use Rattle.fidl_tree.specs.Views.{value_view}
use Rattle.fidl_consts.specs.Dependencies.{BodyUses, Uses, value_uses}
use Rattle.fidl_const.specs.Columns.{AreNames, file_of, name_uses_view}
use Rattle.fidl_const.proofs.NameUses.{declared_names, member_names, no_member_names}
use Rattle.fidl_const.proofs.graph.node_uses.Goals as goal

pub returns-in-Some : goal.returns-in-Some
returns-in-Some c =
    let fs = c.args.named.now in
    let m = c.args.meaning in
    let f = c.in-Some.found.file.now in
    let d = c.in-Some.found.declaration.now in
    IfOk-weaker c.body_uses.result (λ found. AreNames (BodyUses fs f d.body) (name_uses_view found.items)) (λ found. (g : File) → slice_get fs (file_of m) ≡ Some g → AreNames (Uses fs m g) (name_uses_view found.items))
    (λ found names. declared_names fs m c.in-Declared.id c.in-Declared.is f d c.in-Some.ensures.found (name_uses_view found.items) names) c.body_uses.ensures

pub returns-in-None-member_at : goal.returns-in-None-member_at
returns-in-None-member_at c = λ f at.
    subst (λ l. AreNames (Uses c.args.named.now c.args.meaning f) (name_uses_view l)) (sym c.new-in-None-member_at.ensures.items)
    (no_member_names c.args.named.now c.args.meaning c.in-Member.of c.in-Member.number c.in-Member.is (c.in-None-member_at.ensures.none refl) f)

pub returns-in_ok-push_value-in-Some-member_at : goal.returns-in_ok-push_value-in-Some-member_at
returns-in_ok-push_value-in-Some-member_at c = λ f at.
    let fs = c.args.named.now in
    let m = c.args.meaning in
    let x = c.in-Some-member_at.found in
    let us = c.in_ok-push_value-in-Some-member_at.ensures ∙ ap (λ l. name_uses_view l ++ value_uses (value_view x.member.now.value)) c.new-uses.ensures.items in
    subst (AreNames (Uses fs m f)) (sym us) (member_names fs m c.in-Member.of c.in-Member.number c.in-Member.is x.file.now x.layout.now x.member.now c.in-Some-member_at.ensures.layout c.in-Some-member_at.ensures.member f at)
