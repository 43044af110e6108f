use Rattle.std.proofs.Common.{◌-◌, ℕ, List, subst}
use Rattle.std.specs.Prelude.{None}
use Rattle.std.proofs.lemmas.Result.{IfOk-weaker, IfErr-weaker}
use Rattle.fidl_decode_model.specs.Faults.{message_of}
use Rattle.fidl_decode_model.specs.Machine.{StateFine, Turns, BreaksFrame, at_of}
use Rattle.fidl_decode.proofs.frames.Frames.check_columns.Goals as goal

pub returns-clause-ok : goal.returns-clause-ok
returns-clause-ok c =
    let t = c.args.self.now.decoder.table.now in
    let at = at_of c.args.state.now in
    let handles = c.args.self.now.decoder.handles.now in
    IfOk-weaker c.check_structs.result _ _ (λ all turns so.
    subst (λ (b : List ℕ). StateFine (message_of b handles) at → Turns t (message_of b handles) c.args.frame at at (c.check_structs.new.steps - c.args.state.now.steps) (record { below = None; rest = None }))
    c.requires.holds (turns so at) c.requires.state) c.check_structs.ensures.ok

pub returns-clause-fault_is_true : goal.returns-clause-fault_is_true
returns-clause-fault_is_true c =
    let t = c.args.self.now.decoder.table.now in
    let at = at_of c.args.state.now in
    let handles = c.args.self.now.decoder.handles.now in
    IfErr-weaker c.check_structs.result _ _ (λ fault breaks.
    subst (λ (b : List ℕ). StateFine (message_of b handles) at → BreaksFrame t (message_of b handles) c.args.frame at fault) c.requires.holds (breaks at) c.requires.state) c.check_structs.ensures.fault_is_true
