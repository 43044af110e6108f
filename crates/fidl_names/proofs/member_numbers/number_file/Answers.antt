use Rattle.std.proofs.Common.{◌≡◌, ◌<◌, List, length, get_or, ap, ◌∙◌, arith}
use Rattle.fidl_tree.specs.declared.declaration.Declaration.{Declaration}
use Rattle.fidl_named.specs.MemberNumbers.{AreNumbersOf}
use Rattle.fidl_named.proofs.NumbersOfNames.{match_step}
use Rattle.fidl_names.proofs.member_numbers.number_file.Goals as goal

pub loop-declaration-preserved : goal.loop-declaration-preserved
loop-declaration-preserved c =
    let trees = c.args.file.now.declarations.items in
    let i = c.loop-declaration.declaration-index in
    let tree = c.declaration-item.result in
    let test = c.loop-declaration-test.true in
    let lt : i < length trees = omega (arith, c.deref-declaration-items.ensures.len, test) in
    let is : tree ≡ get_or trees i tree = c.declaration-item.is ∙ ap (λ (l : List Declaration). get_or l i tree) c.deref-declaration-items.ensures.value in
    match_step (AreNumbersOf c.args.file.now) trees i tree lt is c.loop-declaration.all.items c.push.new.self.items c.in_ok-numbers.numbers c.in_ok-push.ensures.items c.loop-declaration.invariant c.in_ok-numbers.ensures
