use Rattle.std.proofs.Common.{◌<◌, length, sym, ap, ◌∙◌, arith}
use Rattle.std.proofs.Math.ListN.{length-map}
use Rattle.fidl_script.specs.Script.{bodies_of}
use Rattle.fidl_script.specs.Held.{body_view, bodies_view}
use Rattle.fidl_script.proofs.Given.{whole}
use Rattle.fidl_script.proofs.replies.Replies.bodies.Goals as goal

pub returns-clause-bodies : goal.returns-clause-bodies
returns-clause-bodies c =
    let items = c.self.inside.bodies.items in
    let here : 0 < length items = c.self.invariant in
    let some : 0 < length (bodies_view items) = omega (arith, here, length-map items body_view) in
    ap bodies_view c.deref.ensures.value ∙ sym (whole (bodies_view items) some) ∙ ap bodies_of c.self.view_is
