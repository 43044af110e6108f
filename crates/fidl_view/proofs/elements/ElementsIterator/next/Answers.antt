use Rattle.std.proofs.Math.Logic.{∥∥₁_map}
use Rattle.fidl_view.proofs.Parts.{parts_next, first_shown}
use Rattle.fidl_view.proofs.elements.ElementsIterator.next.Goals as goal

pub returns-clause-steps : goal.returns-clause-steps
returns-clause-steps c =
    let s = c.args.self.now in
    parts_next s.decoded.now s.index s.size s.place s.left c.if-self-eq0.false

pub invariant_of-self-clause-shown : goal.invariant_of-self-clause-shown
invariant_of-self-clause-shown c =
    let s = c.args.self.now in
    ∥∥₁_map s.shown (λ h. (first_shown s.decoded.now s.index s.size s.place s.left c.if-self-eq0.false h).1)

pub invariant_of-element-clause-shown : goal.invariant_of-element-clause-shown
invariant_of-element-clause-shown c =
    let s = c.args.self.now in
    ∥∥₁_map s.shown (λ h. (first_shown s.decoded.now s.index s.size s.place s.left c.if-self-eq0.false h).0)
