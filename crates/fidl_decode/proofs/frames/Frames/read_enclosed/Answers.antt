use Rattle.fidl_decode_values.specs.Reading.{message}
use Rattle.fidl_decode_values.proofs.Unchanged.{no_ok}
use Rattle.std.proofs.Common.{◌≡◌, ℕ, ◌-◌, arith}
use Rattle.std.specs.Prelude.{Some, None}
use Rattle.std.proofs.lemmas.Result.{IfErr-weaker}
use Rattle.fidl_wire.specs.Term as ty
use Rattle.fidl_decode_model.specs.declared.frame.Remaining.{Remaining}
use Rattle.fidl_decode_model.specs.declared.frame.Remaining.TheVariants.{Content}
use Rattle.fidl_decode_model.specs.declared.frame.Until.{Until}
use Rattle.fidl_decode_model.specs.Machine.{at_of}
use Rattle.fidl_decode_model.proofs.Turning.{on_ok_from, passed_on}
use Rattle.fidl_decode_values.proofs.Opening.{opens_known, opens_on, opens_pays, opens_work}
use Rattle.fidl_decode.proofs.frames.Frames.read_enclosed.Goals as goal

same_content : (l : Remaining) (e s n e' s' n' : ℕ) (u u' : Until) → l ≡ Content e s n u → l ≡ Content e' s' n' u' → l ≡ Content e' s n' u
same_content l e s n e' s' n' u u' x y = cc

pub unreachable-requires : goal.unreachable-requires
unreachable-requires c =
    let left = c.in_ok-frame.ensures.left in c.in_default.not-Content c.args.entry _ 1 left.0 left.1

pub read_whole-requires-clause-frame : goal.read_whole-requires-clause-frame
read_whole-requires-clause-frame c =
    let x = c.in_ok-frame.ensures in
    x.fine

pub read_whole-requires-clause-left : goal.read_whole-requires-clause-left
read_whole-requires-clause-left c =
    let left = c.in_ok-frame.ensures.left in
    same_content c.in_ok-frame.frame.left _ c.in-Content.size _ c.args.entry _ 1 c.in-Content.until left.0 c.in-Content.is left.1

pub read_whole-requires-clause-budget : goal.read_whole-requires-clause-budget
read_whole-requires-clause-budget c =
    let t = c.args.self.now.decoder.table.now in
    let m = message c.args.self.now.decoder in
    let old = at_of c.args.state.now in
    let mid = at_of c.enter_member.new.state in
    let frame = c.in_ok-frame.frame in
    let x = c.in_ok-frame.ensures in
    let o = opens_known t m c.args.depth c.args.envelope old mid x.state 0 c.args.entry frame x.grows x.ok x.breaks x.least x.fine x.deeper x.work x.moves in
    let work = opens_work t m c.args.depth (Some (ty.named c.args.entry)) c.args.envelope old mid 0 frame o in
    let still = x.steps in
    omega (arith, work, still, c.requires.budget)

pub returns-clause-ok : goal.returns-clause-ok
returns-clause-ok c =
    let t = c.args.self.now.decoder.table.now in
    let m = message c.args.self.now.decoder in
    let old = at_of c.args.state.now in
    let mid = at_of c.enter_member.new.state in
    let frame = c.in_ok-frame.frame in
    let x = c.in_ok-frame.ensures in
    let o = opens_known t m c.args.depth c.args.envelope old mid x.state 0 c.args.entry frame x.grows x.ok x.breaks x.least x.fine x.deeper x.work x.moves in
    let new = at_of c.read_whole.new.state in
    on_ok_from c.read_whole.result (λ turns. opens_on t m c.args.depth (Some (ty.named c.args.entry)) c.args.envelope old mid 0 frame o new
    (c.read_whole.new.state.steps - c.enter_member.new.state.steps) (c.read_whole.new.state.steps - c.args.state.now.steps) None
    (omega (arith, x.steps)) turns) c.read_whole.ensures.ok

pub returns-clause-pays : goal.returns-clause-pays
returns-clause-pays c =
    let t = c.args.self.now.decoder.table.now in
    let m = message c.args.self.now.decoder in
    let old = at_of c.args.state.now in
    let mid = at_of c.enter_member.new.state in
    let frame = c.in_ok-frame.frame in
    let x = c.in_ok-frame.ensures in
    let o = opens_known t m c.args.depth c.args.envelope old mid x.state 0 c.args.entry frame x.grows x.ok x.breaks x.least x.fine x.deeper x.work x.moves in
    let still = x.steps in
    let new = at_of c.read_whole.new.state in
    let spent = c.read_whole.new.state.steps - c.args.state.now.steps in
    let same : c.read_whole.new.state.steps - c.enter_member.new.state.steps ≡ spent = omega (arith, still) in
    on_ok_from c.read_whole.result (λ turns. let own = opens_pays t m c.args.depth (Some (ty.named c.args.entry)) c.args.envelope old mid 0 frame o new (c.read_whole.new.state.steps - c.enter_member.new.state.steps) None turns in omega (arith, own, same)) c.read_whole.ensures.ok

pub returns-clause-fault_is_true : goal.returns-clause-fault_is_true
returns-clause-fault_is_true c =
    let t = c.args.self.now.decoder.table.now in
    let m = message c.args.self.now.decoder in
    let old = at_of c.args.state.now in
    let mid = at_of c.enter_member.new.state in
    let frame = c.in_ok-frame.frame in
    let x = c.in_ok-frame.ensures in
    let o = opens_known t m c.args.depth c.args.envelope old mid x.state 0 c.args.entry frame x.grows x.ok x.breaks x.least x.fine x.deeper x.work x.moves in
    IfErr-weaker c.read_whole.result _ _ (λ fault b. o.breaks fault b) c.read_whole.ensures.fault_is_true

pub returns-clause-grows : goal.returns-clause-grows
returns-clause-grows c =
    let x = c.in_ok-frame.ensures in
    let still = x.steps in
    on_ok_from c.read_whole.result (λ rises. omega (arith, rises, still)) c.read_whole.ensures.rises

pub returns-clause-cost : goal.returns-clause-cost
returns-clause-cost c =
    let t = c.args.self.now.decoder.table.now in
    let m = message c.args.self.now.decoder in
    let old = at_of c.args.state.now in
    let mid = at_of c.enter_member.new.state in
    let frame = c.in_ok-frame.frame in
    let x = c.in_ok-frame.ensures in
    let o = opens_known t m c.args.depth c.args.envelope old mid x.state 0 c.args.entry frame x.grows x.ok x.breaks x.least x.fine x.deeper x.work x.moves in
    let work = opens_work t m c.args.depth (Some (ty.named c.args.entry)) c.args.envelope old mid 0 frame o in
    let still = x.steps in
    omega (arith, work, still, c.read_whole.ensures.cost)

pub enter_member-requires-clause-entry : goal.enter_member-requires-clause-entry
enter_member-requires-clause-entry c = c.requires.entry

pub enter_member-requires-clause-room : goal.enter_member-requires-clause-room
enter_member-requires-clause-room c = c.requires.room

pub enter_member-requires-clause-state : goal.enter_member-requires-clause-state
enter_member-requires-clause-state c = c.requires.state

pub enter_member-requires-clause-depth : goal.enter_member-requires-clause-depth
enter_member-requires-clause-depth c = c.requires.depth

pub returns-in_err-frame-clause-ok : goal.returns-in_err-frame-clause-ok
returns-in_err-frame-clause-ok c = no_ok c.from_residual.result c.in_err-frame.field-0.0 _ c.from_residual.ensures.1

pub returns-in_err-frame-clause-pays : goal.returns-in_err-frame-clause-pays
returns-in_err-frame-clause-pays c = no_ok c.from_residual.result c.in_err-frame.field-0.0 _ c.from_residual.ensures.1

pub returns-in_err-frame-clause-fault_is_true : goal.returns-in_err-frame-clause-fault_is_true
returns-in_err-frame-clause-fault_is_true c = passed_on c.from_residual.result c.in_err-frame.field-0.0 _ c.from_residual.ensures.1 c.in_err-frame.ensures.fault_is_true

pub returns-in_err-frame-clause-grows : goal.returns-in_err-frame-clause-grows
returns-in_err-frame-clause-grows c = no_ok c.from_residual.result c.in_err-frame.field-0.0 _ c.from_residual.ensures.1

pub read_whole-requires-clause-kind : goal.read_whole-requires-clause-kind
read_whole-requires-clause-kind c = c.requires.kind

pub read_whole-requires-clause-flat : goal.read_whole-requires-clause-flat
read_whole-requires-clause-flat c = c.requires.flat
