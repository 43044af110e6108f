use Rattle.std.proofs.Common.{rules, ◌≡◌, ℕ, get_or}
use Rattle.std.proofs.lemmas.List.{get_or_default}
use Rattle.fidl_wire.specs.Term as ty
use Rattle.fidl_reachable_types.proofs.Growth.{one_more, one_past}
use Rattle.fidl_reachable_types.proofs.reach.add_roots.Goals as goal

pub returns-in_err-add-clause-full : goal.returns-in_err-add-clause-full
returns-in_err-add-clause-full c =
    let roots = c.args.roots.now in
    let i = c.loop-root.root-index in
    let root : ℕ = get_or roots i 0 in
    let is : root ≡ get_or roots i root = get_or_default roots i 0 root c.loop-root-test.true in
    let h = one_past (λ n. ty.named n) roots i root c.loop-root-test.true is c.args.list.now c.loop-root.list c.in_err-add.field-0.0 c.loop-root.invariant c.in_err-add.ensures.full in
    search (rules, h)

pub loop-root-preserved : goal.loop-root-preserved
loop-root-preserved c =
    let roots = c.args.roots.now in
    let i = c.loop-root.root-index in
    let root : ℕ = get_or roots i 0 in
    let is : root ≡ get_or roots i root = get_or_default roots i 0 root c.loop-root-test.true in
    one_more (λ n. ty.named n) roots i root c.loop-root-test.true is c.args.list.now c.loop-root.list c.add.new.self c.loop-root.invariant c.in_ok-add.ensures.ok
