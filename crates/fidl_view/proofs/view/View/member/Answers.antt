use Rattle.std.proofs.lemmas.Option.{IfSome_then}
use Rattle.std.proofs.Common.{ap, ◌∙◌}
use Rattle.std.specs.Prelude.{Option}
use Rattle.fidl_wire.specs.Value.{Member}
use Rattle.fidl_table_format.specs.Section.{header_of, entry_at}
use Rattle.fidl_table_format.specs.Terms.{declarations_of}
use Rattle.fidl_view.specs.Parts.{known_in}
use Rattle.fidl_view.proofs.Viewing as viewing
use Rattle.fidl_view.proofs.Keyed as keyed
use Rattle.fidl_view.proofs.view.View.member.Goals as goal

pub returns-in-Some-clause-part : goal.returns-in-Some-clause-part
returns-in-Some-clause-part c v h =
    let d = c.args.self.decoded.now in
    let i = c.args.self.index in
    let p = c.args.self.place in
    let lt = c.args.self.in_range in
    let w = c.kind.ensures.well_formed in
    let t = keyed.table_shown d w i p lt c.in-Table.ensures.of v h in
    let x = c.in-Some.ensures.held v h in
    keyed.shown_member c.known.result v c.args.ordinal x.0 (keyed.member_held v t.n t.ms t.is c.args.ordinal ∙ ap (λ (o : Option Member). known_in o) x.1) (c.known.ensures.part x.0 x.2)

pub returns-in_default : goal.returns-in_default
returns-in_default c =
    let d = c.args.self.decoded.now in
    let i = c.args.self.index in
    let p = c.args.self.place in
    let lt = c.args.self.in_range in
    let w = c.kind.ensures.well_formed in
    record { message = tt; typed = tt; part = λ v h. keyed.no_member (declarations_of d.table) d.table (header_of d.table) (entry_at d.table i) c.kind.result c.in_default.not-Table v (viewing.lies d w i p lt c.kind.result c.kind.ensures.of v h).0 c.args.ordinal }

pub returns-in_default-table_envelope-clause-part : goal.returns-in_default-table_envelope-clause-part
returns-in_default-table_envelope-clause-part c v h =
    let d = c.args.self.decoded.now in
    let t = keyed.table_shown d c.kind.ensures.well_formed c.args.self.index c.args.self.place c.args.self.in_range c.in-Table.ensures.of v h in
    keyed.member_held v t.n t.ms t.is c.args.ordinal ∙ ap (λ (o : Option Member). known_in o) (c.in_default-table_envelope.ensures.held v h)

pub returns-in-Some-clause-typed : goal.returns-in-Some-clause-typed
returns-in-Some-clause-typed c = IfSome_then c.known.result c.known.ensures.typed (λ part e. e ∙ c.in-Some.ensures.typed)
