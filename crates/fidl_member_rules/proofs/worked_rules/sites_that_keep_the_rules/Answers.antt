use Rattle.std.proofs.Common.{◌≡◌, ◌∙◌, ap, sym, arith}
use Rattle.fidl_tree.specs.Leaf.{text_at}
use Rattle.fidl_consts.specs.Literals.{number_of}
use Rattle.fidl_member_rules.proofs.worked_rules.sites_that_keep_the_rules.Goals as goal

pub returns-clause-versions : goal.returns-clause-versions
returns-clause-versions c src n e h = h.0 e

pub returns-clause-repeated : goal.returns-clause-repeated
returns-clause-repeated c src path k one again a t e f h =
    let m : number_of (text_at src one) ≡ 1 = ap number_of e in
    let n : number_of (text_at src again) ≡ 1 = ap number_of f in
    h.ordinals.differ 0 1 0 (omega arith) (omega arith) (m ∙ sym n)
