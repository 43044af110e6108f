use Rattle.std.proofs.Common.{◌≡◌, ◌++◌, ap, sym, subst, ◌∙◌, true≢false}
use Rattle.std.specs.Global.{Vec}
use Rattle.fidl_consts.specs.Types.{own_path}
use Rattle.fidl_const.specs.declared.graph.NameUse.{NameUse}
use Rattle.fidl_consts.specs.Dependencies.{TypeUses, path_uses, constraint_uses}
use Rattle.fidl_const.specs.Columns.{AreNames, name_uses_view}
use Rattle.fidl_const.proofs.NameUses.{string_names, other_names}
use Rattle.fidl_const.proofs.graph.type_uses.Goals.{then-branch+in_ok-push_constraints, else-branch}
use Rattle.fidl_const.proofs.graph.type_uses.Goals as goal

pub returns : goal.returns
returns c =
    let fs = c.args.file.now.named.now in
    let f = c.args.file.now.tree.now in
    let t = c.args.constructor.now in
    elim c.if-branch.branch as (λ _. AreNames (TypeUses fs f t) (name_uses_view c.if-branch.uses.items)) [
      | then-branch+in_ok-push_constraints w ↦
          let us : name_uses_view c.if-branch.uses.items ≡ path_uses (own_path t) ++ constraint_uses f t =
          ap (λ (v : Vec NameUse). name_uses_view v.items) w.uses-is ∙ w.in_ok-push_constraints.ensures ∙ ap (λ l. l ++ constraint_uses f t) c.in_ok-uses.ensures in
          subst (AreNames (TypeUses fs f t)) (sym us) (string_names fs f t (c.in_ok-is_string_type.ensures.0 w.if-branch.true))
      | else-branch w ↦
          let us : name_uses_view c.if-branch.uses.items ≡ path_uses (own_path t) = ap (λ (v : Vec NameUse). name_uses_view v.items) w.uses-is ∙ c.in_ok-uses.ensures in
          subst (AreNames (TypeUses fs f t)) (sym us) (other_names fs f t (λ string. true≢false (sym (c.in_ok-is_string_type.ensures.1 string) ∙ w.if-branch.false)))
    ]
