use Rattle.fidl_view.specs.Shows.{type_of}
use Rattle.fidl_decode_model.specs.Model.{Shown}
use Rattle.std.proofs.Common.{ap, sym, ◌∙◌, arith}
use Rattle.fidl_wire.specs.Value.{Value}
use Rattle.fidl_view.specs.Parts.{element_of}
use Rattle.fidl_view.proofs.Lists as lists
use Rattle.fidl_view.proofs.view.View.element.Goals as goal

pub returns-in_default-clause-part : goal.returns-in_default-clause-part
returns-in_default-clause-part c v h = lists.no_element v (c.in_default.ensures.parts v h) c.args.at

pub returns-then-at-elements-clause-part : goal.returns-then-at-elements-clause-part
returns-then-at-elements-clause-part c v h =
    let s = c.in-Some.elements in
    let x = c.in-Some.ensures.parts v h in
    let n = lists.shown_count s.decoded.now s.index s.size s.place s.left x.0 x.2 in
    ap (λ (u : Value). element_of u c.args.at) x.1 ∙ lists.nth_past s.decoded.now x.0 c.args.at (omega (arith, n, c.if-at-elements.true))

pub returns-clause-part : goal.returns-clause-part
returns-clause-part c v h =
    let y = c.in-Some.ensures.parts v h in
    let x = c.at.ensures.part y.0 y.2 in
    (x.0, ap (λ (u : Value). element_of u c.args.at) y.1 ∙ x.1, x.2)

pub returns-clause-typed : goal.returns-clause-typed
returns-clause-typed c =
    let s = c.in-Some.elements in
    let r = c.in-Some.ensures.run in
    ap (λ (d : Shown). type_of d c.at.result.index) c.at.ensures.message ∙ ap (λ k. type_of s.decoded.now k) c.at.ensures.entry ∙ ap (λ (d : Shown). type_of d s.index) r.message ∙ sym r.typed
