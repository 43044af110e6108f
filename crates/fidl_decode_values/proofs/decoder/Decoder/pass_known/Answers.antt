use Rattle.fidl_decode_values.specs.Reading.{message}
use Rattle.fidl_decode_values.proofs.Unchanged.{same_le}
use Rattle.std.proofs.Common.{◌≡◌, ◌+◌, sym, subst, ◌∙◌, arith}
use Rattle.fidl_decode_model.specs.declared.frame.Remaining.{Remaining}
use Rattle.fidl_decode_model.specs.Machine.{Passes, at_of}
use Rattle.fidl_decode_values.proofs.Known.{same_rows}
use Rattle.fidl_decode_columns.proofs.Leaves.{turns_stay}
use Rattle.fidl_decode_values.proofs.decoder.Decoder.pass_known.Goals as goal

pub pass_over-requires-clause-passes : goal.pass_over-requires-clause-passes
pass_over-requires-clause-passes c =
    let t = c.args.self.now.table.now in
    let m = message c.args.self.now in
    let known = c.args.known.now in
    let is : known.first ≡ c.in-Rows.first + known.rows = omega (arith, c.from.ensures, c.from-2.ensures, c.from-3.ensures, c.if-from.false) in
    let whole : known.rows + known.count ≡ c.in-Rows.count = omega (arith, c.from-4.ensures, c.from-5.ensures, c.from-6.ensures, c.if-from-2.false) in
    let same = same_rows c.in-Rows.first c.in-Rows.count known.rows known.first known.count is whole in
    subst (λ (l : Remaining). Passes t m l known.rows known.first known.count known.done known.flag) (sym (c.in-Rows.is ∙ same)) c.requires.known

pub returns-then-frame-ne0-clause-grows : goal.returns-then-frame-ne0-clause-grows
returns-then-frame-ne0-clause-grows c = same_le _

pub returns-then-from-clause-grows : goal.returns-then-from-clause-grows
returns-then-from-clause-grows c = same_le _

pub returns-then-from-2-clause-grows : goal.returns-then-from-2-clause-grows
returns-then-from-2-clause-grows c = same_le _

pub pass_over-requires-clause-frame : goal.pass_over-requires-clause-frame
pass_over-requires-clause-frame c = c.requires.frame

pub pass_over-requires-clause-state : goal.pass_over-requires-clause-state
pass_over-requires-clause-state c = c.requires.state

pub pass_over-requires-clause-budget : goal.pass_over-requires-clause-budget
pass_over-requires-clause-budget c = c.requires.budget

pub returns-in_default : goal.returns-in_default
returns-in_default c = record { holds = c.requires.holds; turns = turns_stay c.args.self.now.table.now (message c.args.self.now) c.args.frame (at_of c.args.state.now) c.requires.frame c.requires.state _ (omega arith); grows = omega arith }

pub returns-then-frame-ne0-clause-turns : goal.returns-then-frame-ne0-clause-turns
returns-then-frame-ne0-clause-turns c = turns_stay c.args.self.now.table.now (message c.args.self.now) c.args.frame (at_of c.args.state.now) c.requires.frame c.requires.state _ (omega arith)

pub returns-then-from-clause-turns : goal.returns-then-from-clause-turns
returns-then-from-clause-turns c = turns_stay c.args.self.now.table.now (message c.args.self.now) c.args.frame (at_of c.args.state.now) c.requires.frame c.requires.state _ (omega arith)

pub returns-then-from-2-clause-turns : goal.returns-then-from-2-clause-turns
returns-then-from-2-clause-turns c = turns_stay c.args.self.now.table.now (message c.args.self.now) c.args.frame (at_of c.args.state.now) c.requires.frame c.requires.state _ (omega arith)
