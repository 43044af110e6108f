use Rattle.fidl_decode_values.specs.Reading.{message}
use Rattle.fidl_decode_values.proofs.Fitting.{eq_le, pays_same}
use Rattle.fidl_decode_values.proofs.Unchanged.{no_true, same_le}
use Rattle.std.proofs.Common.{◌+◌, ◌-◌, ◌*◌, sym, subst, arith, refl}
use Rattle.std.specs.Prelude.{Some, None}
use Rattle.fidl_wire.specs.Term as ty
use Rattle.fidl_decode_values.specs.Body.{BodyFine, rest_of}
use Rattle.fidl_decode_model.specs.Machine.{Opens, at_of}
use Rattle.fidl_decode_values.proofs.BodyTurns.{body_found, next_passed}
use Rattle.fidl_decode_values.proofs.ReadyBelow.{slot_ready}
use Rattle.fidl_decode_values.proofs.decoder.Decoder.pass_next.Goals as goal

pub row-row-requires-clause-body : goal.row-row-requires-clause-body
row-row-requires-clause-body c = subst (λ t. BodyFine t c.args.body.now) (sym c.requires.body.table) c.requires.body

pub returns-in-Inside-clause-passed : goal.returns-in-Inside-clause-passed
returns-in-Inside-clause-passed c =
    λ so.
    let t = c.args.self.now.table.now in
    let m = message c.args.self.now in
    let old = at_of c.args.state.now in
    let found = body_found t c.args.body.now c.requires.body c.args.at.read c.requires.more c.row-row.result c.row-row.ensures.value c.if-row-at.false in
    let few = c.requires.body.few in
    let more = c.requires.more in
    next_passed t c.args.self.now.fine m (c.args.self.now.short, c.requires.state.few) c.args.body.now c.args.at.read old c.requires.frame
    c.requires.state (omega (arith, few, more)) c.row-row.result.entry found (at_of c.pass_inside.new.state)
    (c.pass_inside.new.state.steps - c.args.state.now.steps) (c.pass_inside.new.state.steps + 1 - c.args.state.now.steps)
    (omega (arith, c.pass_inside.ensures.steps)) (omega arith) (omega (arith, c.pass_inside.ensures.steps, c.pass_inside.ensures.grows))
    (subst (λ e. Opens t m c.args.body.now.depth (Some (ty.named e)) (c.args.body.now.base + 8 * c.args.at.read) old (at_of c.pass_inside.new.state) (c.pass_inside.new.state.steps - c.args.state.now.steps) None) (sym c.if-row-entry.false) (c.pass_inside.ensures.passed so))

pub returns-in-Below-clause-passed : goal.returns-in-Below-clause-passed
returns-in-Below-clause-passed c =
    λ so.
    let t = c.args.self.now.table.now in
    let m = message c.args.self.now in
    let old = at_of c.args.state.now in
    let found = body_found t c.args.body.now c.requires.body c.args.at.read c.requires.more c.row-row.result c.row-row.ensures.value c.if-row-at.false in
    let few = c.requires.body.few in
    let more = c.requires.more in
    next_passed t c.args.self.now.fine m (c.args.self.now.short, c.requires.state.few) c.args.body.now c.args.at.read old c.requires.frame
    c.requires.state (omega (arith, few, more)) c.row-row.result.entry found (at_of c.pass_below.new.state)
    (c.pass_below.new.state.steps - c.args.state.now.steps) (c.pass_below.new.state.steps + 1 - c.args.state.now.steps)
    (omega (arith, c.pass_below.ensures.steps)) (omega arith) (omega (arith, c.pass_below.ensures.steps, c.pass_below.ensures.grows))
    (subst (λ e. Opens t m c.args.body.now.depth (Some (ty.named e)) (c.args.body.now.base + 8 * c.args.at.read) old (at_of c.pass_below.new.state) (c.pass_below.new.state.steps - c.args.state.now.steps) None) (sym c.if-row-entry.false) (c.pass_below.ensures.passed so))

pub row-row-requires-clause-more : goal.row-row-requires-clause-more
row-row-requires-clause-more c = c.requires.more

pub returns-then-row-entry-clause-passed : goal.returns-then-row-entry-clause-passed
returns-then-row-entry-clause-passed c so = absurd (no_true so)

pub returns-then-row-entry-clause-kept : goal.returns-then-row-entry-clause-kept
returns-then-row-entry-clause-kept c kept = refl

pub returns-then-row-entry-clause-grows : goal.returns-then-row-entry-clause-grows
returns-then-row-entry-clause-grows c = same_le _

pub returns-then-row-entry-clause-pays : goal.returns-then-row-entry-clause-pays
returns-then-row-entry-clause-pays c = same_le _

pub pass_inside-requires-clause-entry : goal.pass_inside-requires-clause-entry
pass_inside-requires-clause-entry c = c.requires.entry

pub pass_inside-requires-clause-state : goal.pass_inside-requires-clause-state
pass_inside-requires-clause-state c = c.requires.state

pub pass_below-requires-clause-entry : goal.pass_below-requires-clause-entry
pass_below-requires-clause-entry c = c.requires.entry

pub pass_below-requires-clause-state : goal.pass_below-requires-clause-state
pass_below-requires-clause-state c = c.requires.state

pub returns-in-Inside-clause-kept : goal.returns-in-Inside-clause-kept
returns-in-Inside-clause-kept c = c.pass_inside.ensures.kept

pub returns-in-Inside-clause-grows : goal.returns-in-Inside-clause-grows
returns-in-Inside-clause-grows c = eq_le _ _ c.pass_inside.ensures.steps

pub returns-in-Inside-clause-pays : goal.returns-in-Inside-clause-pays
returns-in-Inside-clause-pays c = pays_same _ _ _ _ c.pass_inside.ensures.steps c.pass_inside.ensures.grows

pub returns-in-Below-clause-kept : goal.returns-in-Below-clause-kept
returns-in-Below-clause-kept c = c.pass_below.ensures.kept

pub returns-in-Below-clause-grows : goal.returns-in-Below-clause-grows
returns-in-Below-clause-grows c = eq_le _ _ c.pass_below.ensures.steps

pub returns-in-Below-clause-pays : goal.returns-in-Below-clause-pays
returns-in-Below-clause-pays c = pays_same _ _ _ _ c.pass_below.ensures.steps c.pass_below.ensures.grows

pub pass_inside-requires-clause-ready : goal.pass_inside-requires-clause-ready
pass_inside-requires-clause-ready c =
    let t = c.args.self.now.table.now in
    let m = message c.args.self.now in
    let old = at_of c.args.state.now in
    let body = c.args.body.now in
    slot_ready t m old (rest_of body c.args.at.read) body.entry c.args.at.read (body.count - c.args.at.read) refl (omega (arith, c.requires.body.few, c.requires.more)) c.requires.frame c.requires.ready

pub pass_below-requires-clause-ready : goal.pass_below-requires-clause-ready
pass_below-requires-clause-ready c =
    let t = c.args.self.now.table.now in
    let m = message c.args.self.now in
    let old = at_of c.args.state.now in
    let body = c.args.body.now in
    slot_ready t m old (rest_of body c.args.at.read) body.entry c.args.at.read (body.count - c.args.at.read) refl (omega (arith, c.requires.body.few, c.requires.more)) c.requires.frame c.requires.ready
