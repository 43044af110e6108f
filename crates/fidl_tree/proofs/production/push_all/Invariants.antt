use Rattle.std.proofs.Common.{◌≡◌, ◌++◌, map, drop}
use Rattle.fidl_tree.specs.Leaf.{words, joined}
use Rattle.fidl_tree.proofs.production.push_all.Given as goal

-- the words so far and those of the parts to come are all words
abbrev pub invariant-loop-part : goal.invariant-loop-part
invariant-loop-part g l =
    let leaves = g.T.Production.leaves in
    l.out.items ++ words (joined (map leaves (drop l.part-index l.parts)))
    ≡ l.fn.out.items ++ words (joined (map leaves l.parts))
