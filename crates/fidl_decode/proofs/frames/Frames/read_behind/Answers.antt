use Rattle.fidl_decode_values.specs.Reading.{message}
use Rattle.std.proofs.Common.{◌-◌, arith}
use Rattle.std.specs.Prelude.{Some, IfNone, ◌<◌}
use Rattle.std.proofs.lemmas.Result.{IfOk-weaker, IfErr-weaker, on_ok_weaker}
use Rattle.fidl_decode_model.specs.Machine.{BreaksFrame, Turns, at_of}
use Rattle.fidl_decode_model.proofs.Turning.{if_ok_on, none_weaker}
use Rattle.fidl_decode_columns.proofs.Leaves.{left_over, turns_then, turns_break}
use Rattle.fidl_decode.proofs.frames.Frames.read_behind.Goals as goal

pub read_struct-requires-clause-frame : goal.read_struct-requires-clause-frame
read_struct-requires-clause-frame c =
    c.pass_over-rest.ensures.turns.rest_fine.0

pub read_struct-requires-clause-state : goal.read_struct-requires-clause-state
read_struct-requires-clause-state c =
    c.pass_over-rest.ensures.turns.state

pub read_struct-requires-clause-budget : goal.read_struct-requires-clause-budget
read_struct-requires-clause-budget c =
    let less = c.pass_over-rest.ensures.turns.less in
    omega (arith, less, c.pass_over-rest.ensures.grows, c.requires.budget)

pub returns : goal.returns
returns c =
    let t = c.args.self.now.decoder.table.now in
    let m = message c.args.self.now.decoder in
    let f = c.args.frame in
    let g = c.pass_over-rest.result in
    let old = at_of c.args.state.now in
    let mid = at_of c.pass_over-rest.new.state in
    let new = at_of c.read_struct.new.state in
    let first = c.pass_over-rest.new.state.steps - c.args.state.now.steps in
    let spent = c.read_struct.new.state.steps - c.pass_over-rest.new.state.steps in
    let all = c.read_struct.new.state.steps - c.args.state.now.steps in
    let one : Turns t m f old mid first (left_over (Some g)) = c.pass_over-rest.ensures.turns in
    let less = one.less in
    let grows = c.pass_over-rest.ensures.grows in
    record {
      holds = c.read_struct.ensures.holds;
      ok = if_ok_on c.read_struct.result (λ o. Turns t m g mid new spent (left_over o)) (λ o. Turns t m f old new all (left_over o)) (λ o two more. turns_then t m f old mid first g one new spent all (left_over o) (omega (arith, grows, more)) two) c.read_struct.ensures.ok c.read_struct.ensures.grows;
      grows = on_ok_weaker c.read_struct.result (λ h. omega (arith, h, grows)) c.read_struct.ensures.grows;
      ended = IfOk-weaker c.read_struct.result _ (λ o. IfNone o (c.args.state.now.steps < c.read_struct.new.state.steps)) (λ o h. none_weaker o _ _ (λ lt. omega (arith, lt, grows)) h) c.read_struct.ensures.ended;
      cost = omega (arith, less, grows, c.read_struct.ensures.cost);
      fault_is_true = IfErr-weaker c.read_struct.result _ (BreaksFrame t m f old) (λ fault b. turns_break t m f old mid first g one fault b) c.read_struct.ensures.fault_is_true;
    }
