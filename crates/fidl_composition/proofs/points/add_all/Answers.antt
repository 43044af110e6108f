use Rattle.std.proofs.Common.{get_or, take, sym, subst}
use Rattle.std.proofs.lemmas.List.{take_more}
use Rattle.fidl_composition.specs.Points.{GrowsBy}
use Rattle.fidl_composition.proofs.Growing.{inserts, grows_then}
use Rattle.fidl_composition.proofs.points.add_all.Goals as goal

pub loop-target-preserved : goal.loop-target-preserved
loop-target-preserved c =
    let ts = c.args.targets.now in
    let i = c.loop-target.target-index in
    let old = c.args.points.now.keys in
    let mid = c.loop-target.points.keys in
    let new = c.insert.new.self.keys in
    let point = get_or ts i 0 in
    subst (GrowsBy old new) (sym (take_more ts i 0 c.loop-target-test.true))
    (grows_then old mid new (take i ts) point c.loop-target.invariant (inserts mid new point c.in_ok-insert.ensures.keys c.insert.ensures.unique))
