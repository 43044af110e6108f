use Rattle.fidl_decode_values.specs.Reading.{message}
use Rattle.fidl_decode_values.proofs.Unchanged.{no_ok}
use Rattle.std.proofs.Common.{◌-◌, sym, subst, arith}
use Rattle.std.specs.Prelude.{Option, None, IfErr, IfOk}
use Rattle.fidl_table_format.specs.declared.record.Row as raw
use Rattle.fidl_table_format.specs.Terms.{declarations_of}
use Rattle.fidl_decode_model.specs.Breaks.{BreaksMember}
use Rattle.fidl_decode_model.specs.Machine.{Opens, member_term, at_of}
use Rattle.fidl_decode_values.proofs.Opening.{opens_unknown}
use Rattle.fidl_decode.proofs.frames.Frames.read_member.Goals as goal

pub returns-in_default-clause-ok : goal.returns-in_default-clause-ok
returns-in_default-clause-ok c =
    let t = c.args.self.now.decoder.table.now in
    let m = message c.args.self.now.decoder in
    let old = at_of c.args.state.now in
    let new = at_of c.skip_member.new.state in
    let x = c.in_ok-skip_member.ensures in
    let o = opens_unknown t m c.args.depth c.args.envelope old new x.state (c.skip_member.new.state.steps - c.args.state.now.steps) x.grows x.ok c.args.self.now.decoder.fine in
    subst (λ (r : Option raw.Row). Opens t m c.args.depth (member_term r) c.args.envelope old new (c.skip_member.new.state.steps - c.args.state.now.steps) None) (sym c.in_default.is) o

pub returns-in_default-clause-pays : goal.returns-in_default-clause-pays
returns-in_default-clause-pays c =
    let t = c.args.self.now.decoder.table.now in
    let m = message c.args.self.now.decoder in
    let old = at_of c.args.state.now in
    let new = at_of c.skip_member.new.state in
    let x = c.in_ok-skip_member.ensures in
    let o = opens_unknown t m c.args.depth c.args.envelope old new x.state 0 x.grows x.ok c.args.self.now.decoder.fine in
    let less = o.less in
    let still = x.steps in
    omega (arith, less, still)

pub returns-clause-ok : goal.returns-clause-ok
returns-clause-ok c =
    let t = c.args.self.now.decoder.table.now in
    let m = message c.args.self.now.decoder in
    let old = at_of c.args.state.now in
    subst (λ (r : Option raw.Row). IfOk c.read_known.result (Opens t m c.args.depth (member_term r) c.args.envelope old (at_of c.read_known.new.state) (c.read_known.new.state.steps - c.args.state.now.steps))) (sym c.in-Some.is) c.read_known.ensures.ok

pub returns-clause-fault_is_true : goal.returns-clause-fault_is_true
returns-clause-fault_is_true c =
    let t = c.args.self.now.decoder.table.now in
    let m = message c.args.self.now.decoder in
    let old = at_of c.args.state.now in
    subst (λ (r : Option raw.Row). IfErr c.read_known.result (BreaksMember (declarations_of t) m c.args.depth (member_term r) c.args.envelope old)) (sym c.in-Some.is) c.read_known.ensures.fault_is_true

pub skip_member-requires-clause-room : goal.skip_member-requires-clause-room
skip_member-requires-clause-room c = c.requires.room

pub skip_member-requires-clause-state : goal.skip_member-requires-clause-state
skip_member-requires-clause-state c = c.requires.state

pub skip_member-requires-clause-depth : goal.skip_member-requires-clause-depth
skip_member-requires-clause-depth c = c.requires.depth

pub returns-in_err-skip_member-clause-ok : goal.returns-in_err-skip_member-clause-ok
returns-in_err-skip_member-clause-ok c = no_ok c.from_residual.result c.in_err-skip_member.field-0.0 _ c.from_residual.ensures.1

pub returns-in_err-skip_member-clause-pays : goal.returns-in_err-skip_member-clause-pays
returns-in_err-skip_member-clause-pays c = no_ok c.from_residual.result c.in_err-skip_member.field-0.0 _ c.from_residual.ensures.1

pub returns-in_err-skip_member-clause-grows : goal.returns-in_err-skip_member-clause-grows
returns-in_err-skip_member-clause-grows c = no_ok c.from_residual.result c.in_err-skip_member.field-0.0 _ c.from_residual.ensures.1

pub returns-in_default-clause-fault_is_true : goal.returns-in_default-clause-fault_is_true
returns-in_default-clause-fault_is_true c = tt

pub read_known-requires-clause-room : goal.read_known-requires-clause-room
read_known-requires-clause-room c = c.requires.room

pub read_known-requires-clause-state : goal.read_known-requires-clause-state
read_known-requires-clause-state c = c.requires.state

pub read_known-requires-clause-depth : goal.read_known-requires-clause-depth
read_known-requires-clause-depth c = c.requires.depth

pub read_known-requires-clause-budget : goal.read_known-requires-clause-budget
read_known-requires-clause-budget c = c.requires.budget
