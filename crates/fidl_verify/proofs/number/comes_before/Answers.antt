use Rattle.std.proofs.Common.{rules, ◌==◌, IsTrue, SFits, refl, sym, subst, arith}
use Rattle.std.specs.Int.{w128}
use Rattle.std.proofs.lemmas.Int.{ints}
use Rattle.fidl_table_format.specs.Section.{has_ranges}
use Rattle.fidl_verify.proofs.number.comes_before.Goals as goal

pub returns-in-2 : goal.returns-in-2
returns-in-2 c =
    let on : IsTrue (has_ranges c.args.table.now.header) = subst (λ v. IsTrue (v == 2)) (sym c.in-2.is) refl in
    let high : SFits w128 c.args.range.highest = search rules in
    let low : SFits w128 c.args.next.lowest = search rules in
    let small = c.requires in
    ((λ t. (grind (arith, ints), λ is. grind (arith, ints))), (λ n. let next = n.1 on in grind (arith, ints)))
