use Rattle.std.proofs.Common.{ℕ, List, ap, subst, ◌∙◌, ◌≡◌}
use Rattle.std.specs.Prelude.{Option, Some}
use Rattle.fidl_wire.specs.Value.{Member}
use Rattle.fidl_decode_model.specs.Model.{Shown}
use Rattle.fidl_table_format.specs.WellFormed.{WellFormed}
use Rattle.fidl_view.specs.Parts.{known_in, member_of}
use Rattle.fidl_view.specs.Members.{term_at}
use Rattle.fidl_view.proofs.Keyed as keyed
use Rattle.fidl_view.proofs.view.View.known_member.Goals as goal

pub part-requires-clause-known : goal.part-requires-clause-known
part-requires-clause-known c =
    let e = c.in-Some.envelope in
    let s = c.args.self in
    ap (λ (d : Shown). term_at d e.index e.ordinal) c.in-Some.ensures.message
    ∙ ap (λ k. term_at s.decoded.now k e.ordinal) c.in-Some.ensures.entry
    ∙ ap (λ k. term_at s.decoded.now s.index k) c.in-Some.ensures.ordinal
    ∙ c.requires.known

pub returns-in_default-clause-part : goal.returns-in_default-clause-part
returns-in_default-clause-part c v h =
    let s = c.args.self in
    let w = subst (λ (b : List ℕ). WellFormed b) c.table.ensures c.rows-rows.ensures.well_formed in
    let t = keyed.table_shown s.decoded.now w s.index s.place s.in_range c.requires.kind v h in
    keyed.member_held v t.n t.ms t.is c.args.ordinal ∙ ap (λ (o : Option Member). known_in o) (c.in_default.ensures.held v h)

pub returns-clause-part : goal.returns-clause-part
returns-clause-part c v h =
    let s = c.args.self in
    let w = subst (λ (b : List ℕ). WellFormed b) c.table.ensures c.rows-rows.ensures.well_formed in
    let t = keyed.table_shown s.decoded.now w s.index s.place s.in_range c.requires.kind v h in
    let x = c.in-Some.ensures.held v h in
    let y = c.part.ensures.part x.0 x.2 in
    let held : member_of v c.args.ordinal ≡ Some y.0 = keyed.member_held v t.n t.ms t.is c.args.ordinal ∙ ap (λ (o : Option Member). known_in o) x.1 ∙ y.1 in
    (y.0, held, y.2)
