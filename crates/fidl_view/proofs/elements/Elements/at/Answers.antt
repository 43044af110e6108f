use Rattle.std.proofs.Common.{arith}
use Rattle.std.proofs.Math.Logic.{∥∥₁_map}
use Rattle.fidl_view.proofs.Lists as lists
use Rattle.fidl_view.proofs.elements.Elements.at.Goals as goal

pub overflow_mul-result : goal.overflow_mul-result
overflow_mul-result c =
    let s = c.args.self.now in
    let within = lists.one_room c.args.at s.left s.size c.requires in
    record { fits = omega (arith, within, s.room, s.short) }

pub overflow_add-result : goal.overflow_add-result
overflow_add-result c =
    let s = c.args.self.now in
    let within = lists.one_room c.args.at s.left s.size c.requires in
    record { fits = omega (arith, within, s.room, s.short) }

pub invariant_of-result : goal.invariant_of-result
invariant_of-result c =
    let s = c.args.self.now in
    let within = lists.one_room c.args.at s.left s.size c.requires in
    record {
      in_range = s.in_range;
      room = omega (arith, within, s.room, s.sized);
      short = s.short;
      shown = ∥∥₁_map s.shown (λ h. let x = lists.nth_shown s.decoded.now s.index s.size s.place s.left c.args.at h.0 c.requires h.1 in (x.0, x.2));
    }

pub returns-clause-part : goal.returns-clause-part
returns-clause-part c vs h = let s = c.args.self.now in lists.nth_shown s.decoded.now s.index s.size s.place s.left c.args.at vs c.requires h
