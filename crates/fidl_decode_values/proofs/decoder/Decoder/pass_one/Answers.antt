use Rattle.fidl_decode_values.specs.Reading.{message}
use Rattle.fidl_decode_values.proofs.Fitting.{budget_44}
use Rattle.fidl_decode_values.proofs.Unchanged.{same_le}
use Rattle.std.proofs.Common.{◌≡◌, ◌+◌, ◌-◌, sym, ap, subst, ◌∙◌, add-one, arith, refl}
use Rattle.std.specs.Prelude.{Some}
use Rattle.fidl_decode_model.specs.State.{Position}
use Rattle.fidl_decode_values.specs.Body.{rest_of}
use Rattle.fidl_decode_columns.proofs.Leaves.{left_over, turns_stay}
use Rattle.fidl_wire.specs.Term.{find}
use Rattle.fidl_table_format.specs.Terms.{members_of}
use Rattle.fidl_decode_model.specs.Machine.{at_of, Turns}
use Rattle.fidl_decode_values.proofs.BodyTurns.{next_passed}
use Rattle.fidl_decode_values.proofs.ReadyBelow.{slot_ready}
use Rattle.fidl_decode_values.proofs.decoder.Decoder.pass_one.Goals as goal

pub returns-then-pass_kind-clause-turns : goal.returns-then-pass_kind-clause-turns
returns-then-pass_kind-clause-turns c =
    let t = c.args.self.now.table.now in
    let m = message c.args.self.now in
    let body = c.args.body.now in
    let old = c.args.state.now in
    let new = c.pass_kind.new.state in
    let few = c.requires.body.few in
    let more = c.requires.more in
    let found = ap (λ n. find (members_of t body.entry) n) (sym (add-one c.args.from.read)) ∙ c.requires.found in
    subst (λ r. Turns t m (rest_of body c.args.from.read) (at_of old) (at_of new) (new.steps + (r - c.args.from.read) - old.steps) (left_over (Some (rest_of body r)))) (sym c.behind.ensures.read)
    (next_passed t c.args.self.now.fine m (c.args.self.now.short, c.requires.state.few) body c.args.from.read (at_of old) c.requires.frame c.requires.state
    (omega (arith, few, more)) c.args.entry found (at_of new) (new.steps - old.steps) (new.steps + (c.args.from.read + 1 - c.args.from.read) - old.steps)
    (omega (arith, c.pass_kind.ensures.grows)) (omega arith) (omega (arith, c.pass_kind.ensures.pays, c.pass_kind.ensures.grows))
    (c.pass_kind.ensures.passed c.if-pass_kind.true))

pub pass_kind-requires-clause-entry : goal.pass_kind-requires-clause-entry
pass_kind-requires-clause-entry c = c.requires.entry

pub pass_kind-requires-clause-kind : goal.pass_kind-requires-clause-kind
pass_kind-requires-clause-kind c = c.requires.kind

pub pass_kind-requires-clause-state : goal.pass_kind-requires-clause-state
pass_kind-requires-clause-state c = c.requires.state

pub returns-clause-order : goal.returns-clause-order
returns-clause-order c = same_le _

pub returns-then-pass_kind-clause-order : goal.returns-then-pass_kind-clause-order
returns-then-pass_kind-clause-order c = omega (arith, c.behind.ensures.read)

pub returns-then-pass_kind-clause-grows : goal.returns-then-pass_kind-clause-grows
returns-then-pass_kind-clause-grows c = c.pass_kind.ensures.grows

pub returns-then-pass_kind-clause-pays : goal.returns-then-pass_kind-clause-pays
returns-then-pass_kind-clause-pays c = c.pass_kind.ensures.pays

pub returns-clause-grows : goal.returns-clause-grows
returns-clause-grows c = c.pass_kind.ensures.grows

pub returns-clause-pays : goal.returns-clause-pays
returns-clause-pays c = c.pass_kind.ensures.pays

pub pass_kind-requires-clause-budget : goal.pass_kind-requires-clause-budget
pass_kind-requires-clause-budget c = budget_44 _ c.requires.budget

pub returns-clause-turns : goal.returns-clause-turns
returns-clause-turns c =
    let t = c.args.self.now.table.now in
    let m = message c.args.self.now in
    let f = rest_of c.args.body.now c.args.from.read in
    let kept : at_of c.pass_kind.new.state ≡ at_of c.args.state.now = c.pass_kind.ensures.kept c.if-pass_kind.false in
    let next : c.pass_kind.new.state.next ≡ c.args.state.now.next = ap (λ (s : Position). s.next) kept in
    subst (λ (s : Position). Turns t m f (at_of c.args.state.now) s (c.pass_kind.new.state.steps + (c.args.from.read - c.args.from.read) - c.args.state.now.steps) (left_over (Some f))) (sym kept)
    (turns_stay t m f (at_of c.args.state.now) c.requires.frame c.requires.state _ (omega (arith, next, c.pass_kind.ensures.grows, c.pass_kind.ensures.pays)))

pub pass_kind-requires-clause-ready : goal.pass_kind-requires-clause-ready
pass_kind-requires-clause-ready c =
    let t = c.args.self.now.table.now in
    let m = message c.args.self.now in
    let old = at_of c.args.state.now in
    let body = c.args.body.now in
    slot_ready t m old (rest_of body c.args.from.read) body.entry c.args.from.read (body.count - c.args.from.read) refl (omega (arith, c.requires.body.few, c.requires.more)) c.requires.frame c.requires.ready
