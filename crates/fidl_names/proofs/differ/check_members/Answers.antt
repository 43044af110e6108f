use Rattle.std.proofs.Common.{rules, ◌≡◌, List, get_or, ap, sym, subst, ◌∙◌, arith}
use Rattle.std.specs.List.{Contains}
use Rattle.std.proofs.lemmas.List.Elements.{Contains-get_or}
use Rattle.std.proofs.Math.ListN.{get_or-map, length-map}
use Rattle.fidl_tree.specs.Views.{declaration_view, file_view}
use Rattle.fidl_tree.specs.declared.declaration.Declaration.{Declaration}
use Rattle.fidl_names.specs.MemberLists.{body_lists, ListsDiffer, RepeatsIn, RepeatsMember}
use Rattle.fidl_cycles.proofs.Lists.{all_take}
use Rattle.fidl_names.proofs.Differing.{repeated_within}
use Rattle.fidl_names.proofs.differ.check_members.Goals as goal

pub loop-declaration-preserved : goal.loop-declaration-preserved
loop-declaration-preserved c =
    let f = file_view c.args.file.now in
    let trees = c.args.file.now.declarations.items in
    let i = c.loop-declaration.declaration-index in
    let tree = c.declaration-item.result in
    let d = declaration_view tree in
    let lt = c.loop-declaration-test.true in
    let is : d ≡ get_or f.declarations i d = ap declaration_view (c.declaration-item.is ∙ ap (λ (l : List Declaration). get_or l i tree) c.deref-declaration-items.ensures.value) ∙ sym (get_or-map declaration_view trees i tree) in
    all_take f.declarations i d (omega (arith, c.deref-declaration-items.ensures.len, length-map trees declaration_view)) is (ListsDiffer f.source) c.loop-declaration.invariant c.in_ok-check_lists_of.ensures.differ

pub returns-in_err-check_lists_of-clause-fault_is_true : goal.returns-in_err-check_lists_of-clause-fault_is_true
returns-in_err-check_lists_of-clause-fault_is_true c =
    let f = file_view c.args.file.now in
    let trees = c.args.file.now.declarations.items in
    let i = c.loop-declaration.declaration-index in
    let tree = c.declaration-item.result in
    let d = declaration_view tree in
    let lt = c.loop-declaration-test.true in
    let is : d ≡ get_or f.declarations i d = ap declaration_view (c.declaration-item.is ∙ ap (λ (l : List Declaration). get_or l i tree) c.deref-declaration-items.ensures.value) ∙ sym (get_or-map declaration_view trees i tree) in
    let there : Contains f.declarations d = subst (Contains f.declarations) (sym is) (Contains-get_or f.declarations i d (omega (arith, c.deref-declaration-items.ensures.len, length-map trees declaration_view))) in
    let h = repeated_within (RepeatsIn f.source (body_lists d.body)) (RepeatsMember f) c.args.file_index (λ s r. record { declaration = d; among = there; repeats = r }) c.in_err-check_lists_of.field-0.0 c.in_err-check_lists_of.ensures.fault_is_true in
    search (rules, h)
